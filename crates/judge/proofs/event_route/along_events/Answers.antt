use mathlib.Core.Path.{◌≡◌, sym, ◌∙◌}
use mathlib.Core.Bool.{Bool, true}
use mathlib.Core.Logic.{◌↔◌, inl, inr}
use Prim.Native.Nat.{ℕ, ◌+◌, ◌*◌, ◌^◌, ◌<◌}
use native.Mathlib.Omega.{arith}
use lib.ListN.{get_or}
use Rattle.sets.specs.Set.{Has}
use Rattle.sets.proofs.Members.{has_lt}
use Rattle.sets.proofs.Testing.{those_with, some_found, none_found}
use Rattle.states.specs.Parts.{impedes_at}
use Rattle.states.specs.State.{phase0}
use Rattle.hall.specs.Parts.{Late}
use Rattle.hall.specs.Waiting.{BlockedOn}
use Rattle.hall.proofs.Looking.{awaits_read, late_read}
use Rattle.judge.proofs.Events.{Looked, search_keep, search_drop, search_done, keep_less, drop_less, found_waiters, one_impedes, none_impedes, shaken_has}
use Rattle.judge.proofs.event_route.along_events.Goals.{After-first-impeder, After-those-alike}
use Rattle.judge.proofs.event_route.along_events.Goals as goal

-- the lowest stands for its event: who awaits it
looked : (c : After-those-alike) → Looked c.args.table c.loop-t.left c.loop-t.todo c.in-Some.t c.event_of-event.result c.those-alike.result
looked c =
    let step = rw c.each.ensures at c.in-Some.ensures.steps in
    let alike = those_with (λ u. BlockedOn c.args.table u c.event_of-event.result)
    (λ u b h e. awaits_read _ _ (has_lt 32 _ u c.common.type_inv h) _ _ e)
    c.those-alike.ensures in
    record {
      near = step.0;
      here = step.1.holds;
      event = c.event_of-event.ensures;
      await = found_waiters _ _ c.requires _ _ c.loop-t.invariant _ _ c.column-place.ensures _ c.common.ensures _ alike;
    }

-- what the other test says
late : (c : After-first-impeder) (u : ℕ) (b : Bool) → Has c.common-in-Some.result u
    → b ≡ impedes_at true (get_or c.args.table.phases (u * 16 + c.column-place.result) phase0) c.event_of-event.result
    → (b ≡ true) ↔ Late c.args.table u c.event_of-event.result
late c u b h e = late_read _ _ (has_lt 32 _ u c.common-in-Some.type_inv h) _ _ _ c.column-place.ensures e

pub loop-t-smaller-then-is_some : goal.loop-t-smaller-then-is_some
loop-t-smaller-then-is_some c =
    let means = late (goal.at.loop-t-smaller-then-is_some c).After-first-impeder in
    let some = one_impedes _ _ c.requires _ _ c.loop-t.invariant _ _ c.column-place.ensures _ c.common-in-Some.ensures
    (some_found (λ u. Late c.args.table u c.event_of-event.result) means _ c.first-impeder.ensures c.if-is_some.ensures) in
    let z : c.less-todo.result < c.loop-t.todo =
    keep_less _ _ _ c.loop-t.invariant _ _ _ (looked (goal.at.loop-t-smaller-then-is_some c).After-those-alike) _ c.less-todo.type_inv some
    c.less-todo.ensures in
    omega arith

pub loop-t-preserved-then-is_some : goal.loop-t-preserved-then-is_some
loop-t-preserved-then-is_some c =
    let means = late (goal.at.loop-t-preserved-then-is_some c).After-first-impeder in
    let some = one_impedes _ _ c.requires _ _ c.loop-t.invariant _ _ c.column-place.ensures _ c.common-in-Some.ensures
    (some_found (λ u. Late c.args.table u c.event_of-event.result) means _ c.first-impeder.ensures c.if-is_some.ensures) in
    search_keep _ _ _ c.loop-t.invariant _ _ _ (looked (goal.at.loop-t-preserved-then-is_some c).After-those-alike) _ c.less-todo.type_inv some
    c.less-todo.ensures

pub loop-t-smaller : goal.loop-t-smaller
loop-t-smaller c =
    let means = late (goal.at.loop-t-smaller c).After-first-impeder in
    let none = none_impedes _ _ c.requires _ _ c.loop-t.invariant _ _ c.column-place.ensures _ c.common-in-Some.ensures
    (none_found (λ u. Late c.args.table u c.event_of-event.result) means _ c.first-impeder.ensures c.if-is_some.ensures) in
    let less = c.less-left in
    let z : less.result < c.loop-t.left =
    drop_less _ _ _ c.loop-t.invariant _ _ _ (looked (goal.at.loop-t-smaller c).After-those-alike) _ less.type_inv none less.ensures in
    let f : c.common-todo.result < 2 ^ 32 = c.common-todo.type_inv in
    omega arith

pub loop-t-preserved : goal.loop-t-preserved
loop-t-preserved c =
    let means = late (goal.at.loop-t-preserved c).After-first-impeder in
    let inv = c.loop-t.invariant in
    let none = none_impedes _ _ c.requires _ _ inv _ _ c.column-place.ensures _ c.common-in-Some.ensures
    (none_found (λ u. Late c.args.table u c.event_of-event.result) means _ c.first-impeder.ensures c.if-is_some.ensures) in
    let less = c.less-left in
    let look = looked (goal.at.loop-t-preserved c).After-those-alike in
    let both = c.common-todo.ensures in
    let either = c.either.ensures in
    let shaken = c.shaken in
    let again = shaken_has _ _ c.requires _ _ inv _ shaken.result (λ u h. ((look.await u).0 h).0) shaken.ensures in
    search_drop _ _ _ inv _ _ _ look _ less.type_inv none less.ensures _ c.common-todo.type_inv (λ j h. ((both j).0 h).0)
    (λ j p h. (both j).1 (p, (either j).1 (inl h)))
    (λ j u d p b w i. (both j).1 (p, (either j).1 (inr (again j u d ((less.ensures j).0 p).0 b w i))))

pub returns : goal.returns
returns c = let z : c.loop-t.todo ≡ 0 = sym c.each.ensures ∙ c.in_default.ensures.steps.0 in search_done _ _ (rw z at c.loop-t.invariant)
