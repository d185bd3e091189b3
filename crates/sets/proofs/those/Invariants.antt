-- The invariant: the set is gone through by the test as far as `Testing` says.
use Rattle.sets.proofs.Testing.{Testing}
use Rattle.sets.proofs.those.Given as goal

abbrev pub invariant-loop-task : goal.invariant-loop-task
invariant-loop-task g l =
    (goal.iterator-loop-task g).can_next l.task-iterator
    × (goal.iterator-loop-task g).is_finite l.task-iterator
    × Testing (goal.F-post g l.test) l.set l.found l.task-iterator.left
