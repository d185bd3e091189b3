use Rattle.sets.proofs.Testing.{seek_start, seek_more, seek_found, seek_none}
use Rattle.sets.proofs.first.Goals as goal

pub loop-task-init : goal.loop-task-init
loop-task-init g c = (tt, tt, rw (c.into_iter-task-iterator.ensures.into_iter_gives, c.each-task-items.ensures) (seek_start _ _))

pub test-requires : goal.test-requires
test-requires g c =
    let step = c.in-Some.ensures.steps in
    c.requires _ step.0 (c.loop-task.invariant.2.within _ step.1.holds)

pub returns-then-test : goal.returns-then-test
returns-then-test g c =
    let step = c.in-Some.ensures.steps in
    seek_found _ c.loop-task.invariant.2 step.1 (rw c.if-test.true at c.test.ensures)

pub loop-task-preserved : goal.loop-task-preserved
loop-task-preserved g c =
    let step = c.in-Some.ensures.steps in
    (tt, tt, seek_more _ c.loop-task.invariant.2 step.1 step.2 (rw c.if-test.false at c.test.ensures))

pub returns : goal.returns
returns g c = seek_none _ c.in-None.ensures.steps.0 c.loop-task.invariant.2
