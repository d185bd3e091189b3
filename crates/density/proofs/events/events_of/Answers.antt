use Rattle.sets.proofs.Members.{has_lt}
use Rattle.sets.proofs.Testing.{those_with}
use Rattle.hall.proofs.Looking.{awaits_read}
use Rattle.hall.specs.Waiting.{BlockedOn}
use Rattle.density.proofs.Standing.{Chosen, sort_start, sort_more, sort_less}
use Rattle.density.proofs.events.events_of.Goals.{After-those-alike}
use Rattle.density.proofs.events.events_of.Goals as goal

pub loop-t-init : goal.loop-t-init
loop-t-init c = sort_start _ _ c.blocked-blocked.ensures c.blocked-blocked.type_inv

-- the task that stands for its event, and those who await it
chosen : (c : After-those-alike) → Chosen c.args.table c.loop-t.todo c.in-Some.t c.event_of-event.result c.those-alike.result
chosen c =
    let step = rw c.each.ensures at c.in-Some.ensures.steps in
    let awaits = those_with (λ u. BlockedOn c.args.table u c.event_of-event.result)
    (λ u b h e. awaits_read _ _ (has_lt 32 _ u c.loop-t.invariant.fits h) _ _ e)
    c.those-alike.ensures in
    record { near = step.0; lowest = step.1; event = c.event_of-event.ensures; await = awaits }

pub loop-t-smaller : goal.loop-t-smaller
loop-t-smaller c =
    let known = c.blocked-blocked.ensures in
    sort_less _ _ known _ _ _ c.loop-t.invariant _ _ _ (chosen (goal.at.loop-t-smaller c).After-those-alike) _ c.less-todo.ensures c.less-todo.type_inv

pub loop-t-preserved : goal.loop-t-preserved
loop-t-preserved c =
    let known = c.blocked-blocked.ensures in
    sort_more _ _ known _ _ _ c.loop-t.invariant _ _ _ (chosen (goal.at.loop-t-preserved c).After-those-alike) _ _ _
    c.take.ensures c.less-first.ensures c.less-todo.ensures c.less-todo.type_inv
