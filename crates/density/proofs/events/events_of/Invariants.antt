-- The invariant: `Sorted`.
use Rattle.density.proofs.Standing.{Sorted}
use Rattle.density.proofs.events.events_of.Given as goal

abbrev pub invariant-loop-t : goal.invariant-loop-t
invariant-loop-t l = Sorted l.table l.blocked l.first l.todo l.waiters

abbrev pub decreases-loop-t : goal.decreases-loop-t
decreases-loop-t l = l.todo
