-- By whichever route: where two numbers are both a route's or both none's, a verdict by the one is a verdict by the other.
use mathlib.Core.Logic.{◌↔◌}
use mathlib.Core.List.{List}
use Prim.Native.Nat.{ℕ, ◌<◌, ◌≤◌}
use native.Mathlib.Decide.{dec_lt}
use native.Mathlib.Omega.{arith}
use Rattle.hall.specs.declared.table.Table.{Table}
use Rattle.judge.specs.Verdict.{Judged}
use Rattle.judge.specs.declared.verdict.Verdict.{Verdict}
use Rattle.judge.proofs.Named.{found_named, found_by}
use Rattle.judge.specs.Routes.{largest_route}
use Rattle.mollavisce.specs.Entry.{Entered}
use Rattle.judge.specs.OfSheet.{VerdictOf}

module _ (given route : ℕ) (alike : (largest_route < given) ↔ (largest_route < route)) where
  there : route ≤ largest_route → given ≤ largest_route
  there l = go (dec_lt largest_route given)
    where
      go : Dec (largest_route < given) → given ≤ largest_route
      go (yes m) = absurd (omega (arith, alike.0 m))
      go (no m) = omega arith

  pub judged_by : (t : Table) (v : Verdict) → Judged t given v → Judged t route v
  judged_by t v j = record {
    no_route = λ l. j.no_route (alike.1 l);
    unsound = λ l. j.unsound (there l);
    found = λ l s.
        let f = j.found (there l) s in
        found_by t route f.named v f.round (found_named t given v (there l) f) f.ring f.verdict;
  }

  pub sheet_judged_by : (sheet : List ℕ) (v : Verdict) → VerdictOf sheet given v → VerdictOf sheet route v
  sheet_judged_by sheet v j = record {
    no_route = λ l. j.no_route (alike.1 l);
    refused = λ l. j.refused (there l);
    judged = λ l a. judged_by _ v (j.judged (there l) a);
  }

  pub entered_by : (sheet before after : List ℕ) (answer : ℕ) → Entered sheet given before after answer → Entered sheet route before after answer
  entered_by sheet before after answer x = record {
    no_route = λ l. x.no_route (alike.1 l);
    short = λ l. x.short (there l);
    judged = λ l m. let y = x.judged (there l) m in (y.0, sheet_judged_by sheet y.0 y.1, y.2, y.3);
  }
