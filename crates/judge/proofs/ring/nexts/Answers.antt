use mathlib.Core.Path.{◌≡◌}
use mathlib.Core.Bool.{Bool, true}
use mathlib.Core.Logic.{◌↔◌}
use Prim.Native.Nat.{ℕ, ◌+◌, ◌*◌, ◌<◌}
use borrow.Author.Rules.{rules}
use lib.ListN.{get_or}
use mir.Syntax.{w32}
use mir.Val.{Fits}
use Rattle.sets.specs.Set.{Has}
use Rattle.sets.proofs.Members.{has_lt}
use Rattle.sets.proofs.Testing.{first_some, first_none}
use Rattle.states.specs.Parts.{impedes_at}
use Rattle.states.specs.State.{phase0}
use Rattle.hall.specs.Parts.{Late}
use Rattle.hall.proofs.Looking.{late_read}
use Rattle.judge.proofs.Steps.{step_start, step_found, step_more, none_found, step_none, step_done}
use Rattle.judge.proofs.ring.nexts.Goals.{After-first-step}
use Rattle.judge.proofs.ring.nexts.Goals as goal

pub loop-t-init : goal.loop-t-init
loop-t-init c =
    let f : Fits w32 c.args.named = search rules in
    rw (c.into_iter-t-iterator.ensures.into_iter_gives, c.each-t-items.ensures) (tt, tt, step_start _ _ f.fits)

-- what the test says
late : (c : After-first-step) (u : ℕ) (b : Bool) → Has c.common.result u
    → b ≡ impedes_at true (get_or c.args.table.phases (u * 16 + c.column-place.result) phase0) c.event_of-event.result
    → (b ≡ true) ↔ Late c.args.table u c.event_of-event.result
late c u b h e = late_read _ _ (has_lt 32 _ u c.common.type_inv h) _ _ _ c.column-place.ensures e

pub returns : goal.returns
returns c = step_done _ _ _ _ c.in-None.ensures.steps.0 c.loop-t.invariant.2

pub overflow_cast-next : goal.overflow_cast-next
overflow_cast-next c = let l : c.in-Some-step.u < 32 = has_lt 32 _ _ c.common.type_inv c.in-Some-step.ensures.0 in search rules

pub loop-t-preserved-in-Some-step : goal.loop-t-preserved-in-Some-step
loop-t-preserved-in-Some-step c =
    let step = c.in-Some.ensures.steps in
    let means = late (goal.at.loop-t-preserved-in-Some-step c).After-first-step in
    let found = step_found _ _ _ c.requires _ step.0 _ c.event_of-event.ensures _ c.column-place.ensures _ c.common.ensures _
    (first_some (λ u. Late c.args.table u c.event_of-event.result) means c.in-Some-step.ensures) in
    (tt, tt, step_more _ _ _ _ _ _ c.loop-t.invariant.2 step.1.holds step.2 _ step.0 found)

pub loop-t-preserved : goal.loop-t-preserved
loop-t-preserved c =
    let step = c.in-Some.ensures.steps in
    let means = late (goal.at.loop-t-preserved c).After-first-step in
    let none = none_found _ _ _ c.requires _ step.0 _ c.event_of-event.ensures _ c.column-place.ensures _ c.common.ensures
    (first_none (λ u. Late c.args.table u c.event_of-event.result) means c.in_default.ensures) in
    (tt, tt, step_none _ _ _ _ _ _ c.loop-t.invariant.2 step.1.holds step.2 none)
