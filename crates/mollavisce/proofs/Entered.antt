-- The entry's three ways: no such route, a short strip, or the verdict of the sheet.
use mathlib.Core.Path.{◌≡◌, ◌∙◌}
use mathlib.Core.List.{List}
use Prim.Native.Nat.{ℕ, ◌≤◌, ◌<◌}
use native.Mathlib.Decide.{dec_lt}
use native.Mathlib.Omega.{arith}
use lib.ListN.{length}
use borrow.Author.Tests.{ne_eqb}
use Rattle.answers.specs.Answers.{done, no_route, short_strip}
use Rattle.judge.specs.declared.verdict.Verdict.{Verdict}
use Rattle.judge.specs.Routes.{largest_route}
use Rattle.mollavisce.specs.Entry.{Entered}
use Rattle.judge.specs.OfSheet.{VerdictOf}
use Rattle.mollavisce.specs.Strip.{strip_after}

module _ (sheet : List ℕ) (route : ℕ) (before after : List ℕ) (answer : ℕ) where
  -- the sheet was judged
  pub record Reached : Type 0 where
    pub route_there : route ≤ largest_route
    pub long : 38 ≤ length before
    pub verdict : Verdict
    pub judged : VerdictOf sheet route verdict
    pub answers : answer ≡ verdict.answer
    pub strip : after ≡ strip_after verdict before

  pub data Way : Type 0 where
    route_unknown : largest_route < route → answer ≡ no_route → after ≡ before → Way
    short : route ≤ largest_route → length before < 38 → answer ≡ short_strip → after ≡ before → Way
    reached : Reached → Way

  module _ (x : Entered sheet route before after answer) where
    pub way : Way
    way = go (dec_lt largest_route route) (dec_lt (length before) 38)
      where
        go : Dec (largest_route < route) → Dec (length before < 38) → Way
        go (yes l) d = route_unknown l (x.no_route l).0 (x.no_route l).1
        go (no l) (yes m) = let y = x.short (omega arith) m in short (omega arith) m y.0 y.1
        go (no l) (no m) =
            let y = x.judged (omega arith) (omega arith) in
            reached (record { route_there = omega arith; long = omega arith; verdict = y.0; judged = y.1; answers = y.2; strip = y.3 })

    pub done_reached : answer ≡ done → Reached
    done_reached e = go way
      where
        go : Way → Reached
        go (route_unknown l a s) = absurd (omega arith)
        go (short l m a s) = absurd (omega arith)
        go (reached r) = r

    -- "From 10 up they are refusals: .. the strip .. exactly as before"
    pub refused_kept : (answer ≡ done → ⊥) → after ≡ before
    unfolding strip_after
    refused_kept n = go way
      where
        go : Way → after ≡ before
        go (route_unknown l a s) = s
        go (short l m a s) = s
        go (reached r) = r.strip ∙ rw (ne_eqb r.verdict.answer done (λ e. n (r.answers ∙ e)))
