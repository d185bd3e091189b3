use Rattle.sets.proofs.Testing.{test_start, test_more, test_done}
use Rattle.sets.proofs.those.Goals as goal

pub loop-task-init : goal.loop-task-init
loop-task-init g c = (tt, tt, rw (c.into_iter-task-iterator.ensures.into_iter_gives, c.each-task-items.ensures) (test_start _ _))

pub test-requires : goal.test-requires
test-requires g c =
    let step = c.in-Some.ensures.steps in
    c.requires _ step.0 (c.loop-task.invariant.2.within _ step.1.holds)

pub loop-task-preserved : goal.loop-task-preserved
loop-task-preserved g c =
    let step = c.in-Some.ensures.steps in
    (tt, tt, test_more _ c.loop-task.invariant.2 step.1.holds step.2 c.test.ensures c.kept-found.ensures)

pub returns : goal.returns
returns g c = test_done _ (c.in-None.ensures.steps.0) c.loop-task.invariant.2
