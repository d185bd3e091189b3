-- The judge's promise fixes every field of the verdict, in every table, sound or not; and all routes hand back the same.
use mathlib.Core.Path.{◌≡◌, refl, sym, ap, ◌∙◌, subst}
use mathlib.Core.Bool.{Bool, true, false}
use Prim.Native.Nat.{ℕ, ◌≤◌, ◌<◌}
use native.Mathlib.Decide.{dec_lt}
use native.Mathlib.Omega.{arith}
use Rattle.sets.specs.Set.{Has}
use Rattle.deadlock.specs.Ring.{RingIn}
use Rattle.deadlock.proofs.One.{ring_in_one}
use Rattle.hall.specs.Parts.{sound_of}
use Rattle.hall.specs.Waiting.{ImpedesTask}
use Rattle.hall.specs.declared.table.Table.{Table}
use Rattle.judge.specs.Routes.{largest_route}
use Rattle.judge.specs.Verdict.{verdict_of, Found, Judged}
use Rattle.judge.specs.declared.verdict.Verdict.{Verdict}
use Rattle.judge.proofs.Named.{task_one, found_named}

module _ (t : Table) where
  pub found_one : (i j : ℕ) (v w : Verdict) → i ≤ largest_route → j ≤ largest_route → Found t i v → Found t j w → v ≡ w
  found_one i j v w li lj x y = x.verdict ∙ ap (λ m. verdict_of m x.round) same ∙ ap (verdict_of y.named) rounds ∙ sym y.verdict
    where
      same : x.named ≡ y.named
      same = task_one t x.named y.named (found_named t i v li x) (found_named t j w lj y)

      mine : RingIn (Has y.named) (ImpedesTask t) x.round
      mine = subst (λ m. RingIn (Has m) (ImpedesTask t) x.round) same x.ring

      rounds : x.round ≡ y.round
      rounds = ring_in_one (Has y.named) (ImpedesTask t) x.round y.round mine y.ring

  -- by two routes that there are: demand 3, its first sentence, field by field
  pub routes_agree : (i j : ℕ) (v w : Verdict) → i ≤ largest_route → j ≤ largest_route → Judged t i v → Judged t j w → v ≡ w
  routes_agree i j v w li lj x y = go (sound_of t) refl
    where
      go : (b : Bool) → sound_of t ≡ b → v ≡ w
      go true e = found_one i j v w li lj (x.found li e) (y.found lj e)
      go false e = x.unsound li e ∙ sym (y.unsound lj e)

  pub judged_one : (route : ℕ) (v w : Verdict) → Judged t route v → Judged t route w → v ≡ w
  judged_one route v w x y = go (dec_lt largest_route route)
    where
      go : Dec (largest_route < route) → v ≡ w
      go (yes l) = x.no_route l ∙ sym (y.no_route l)
      go (no l) = routes_agree route route v w (omega arith) (omega arith) x y
