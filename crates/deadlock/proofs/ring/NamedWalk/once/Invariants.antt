-- The invariant: the first i tasks of the way are in their places, the others 255, and what follows from `task` on is still to come.
use Rattle.deadlock.proofs.Turns.{Turning}
use Rattle.deadlock.proofs.ring.NamedWalk.once.Given as goal

abbrev pub invariant-loop-i : goal.invariant-loop-i
invariant-loop-i l = Turning l.self.next l.self.named l.low l.tasks l.task l.i
