use mathlib.Core.Path.{◌≡◌, refl}
use mathlib.Core.Bool.{Bool, true}
use mathlib.Core.Logic.{◌↔◌}
use Prim.Native.Nat.{ℕ}
use lib.ListN.{get_or}
use Rattle.sets.specs.Set.{Has}
use Rattle.sets.proofs.Members.{has_lt, none_has}
use Rattle.sets.proofs.Testing.{some_found, none_found}
use Rattle.states.proofs.Truth.{clash}
use Rattle.states.specs.Parts.{awaits_of}
use Rattle.states.specs.State.{free_task}
use Rattle.hall.specs.declared.table.Table.{Table}
use Rattle.density.specs.Parts.{Alike}
use Rattle.density.proofs.Twice.{look_more, alike_read, alone, found, none_twice}
use Rattle.density.proofs.events.awaited_twice.Goals.{After-take-later}
use Rattle.density.proofs.events.awaited_twice.Goals as goal

-- the test says yes exactly where the two await the same event
alike : (c : After-take-later) (t : Table) → t.tasks ≡ c.args.tasks → (u : ℕ) (b : Bool) → Has c.take-later.result u
    → (b ≡ true)
    ↔ ((awaits_of (get_or c.args.tasks c.in-Some.t free_task).state c.event_of-event.result ≡ true)
    × (awaits_of (get_or c.args.tasks u free_task).state c.event_of-event.result ≡ true))
    → (b ≡ true) ↔ Alike t c.in-Some.t u
alike c t e u b h s =
    let near = c.in-Some.ensures.steps.0 in
    let both = alike_read t _ e _ u near (has_lt 32 _ u c.take-later.type_inv h) _ c.event_of-event.ensures _ _ refl refl in
    (λ y. both.0 (s.0 y), λ a. s.1 (both.1 a))

pub returns-then-is_some : goal.returns-then-is_some
returns-then-is_some c t e =
    let here = (c.loop-t.invariant.2 _).1 c.in-Some.ensures.steps.1.holds in
    let other = some_found (Alike t c.in-Some.t) (alike (goal.at.returns-then-is_some c).After-take-later t e) _ c.first-other.ensures c.if-is_some.ensures in
    (λ z. found _ c.loop-t.invariant.3 here c.take-later.ensures t e other.1 other.2, λ x. refl)

pub loop-t-preserved : goal.loop-t-preserved
loop-t-preserved c =
    let step = c.in-Some.ensures.steps in
    let inv = c.loop-t.invariant in
    let here = (inv.2 _).1 step.1.holds in
    let gone = c.take-later.ensures in (
      tt,
      tt,
      λ k. (
        λ h. let q = (gone k).0 h in (step.2 k).1 ((inv.2 k).0 q.0, q.1),
        λ h. let q = (step.2 k).0 h in (gone k).1 ((inv.2 k).1 q.0, q.1),
      ),
      look_more _ _ inv.3 gone c.take-later.type_inv
          (λ t e. alone _ inv.3 here gone t e
          (none_found (Alike t c.in-Some.t) (alike (goal.at.loop-t-preserved c).After-take-later t e) _ c.first-other.ensures c.if-is_some.ensures)),
    )

pub returns : goal.returns
returns c t e =
    let gone : (k : ℕ) → Has c.loop-t.later k → ⊥ = λ k h. let z = c.in-None.ensures.steps.0 in none_has k (rw z at ((c.loop-t.invariant.2 k).0 h)) in
    (λ z. absurd (clash z refl), λ x. absurd (none_twice t e gone c.loop-t.invariant.3 x))
