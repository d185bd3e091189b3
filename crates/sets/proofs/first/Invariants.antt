-- The invariant: of who is not left to look at, the test said no.
use Rattle.sets.proofs.Testing.{Seeking}
use Rattle.sets.proofs.first.Given as goal

abbrev pub invariant-loop-task : goal.invariant-loop-task
invariant-loop-task g l =
    (goal.iterator-loop-task g).can_next l.task-iterator
    × (goal.iterator-loop-task g).is_finite l.task-iterator
    × Seeking (goal.F-post g l.test) l.set l.task-iterator.left
