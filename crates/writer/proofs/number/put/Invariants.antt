-- What is left of the number, laid from here on, gives what the whole number gives.
use Rattle.writer.proofs.Putting.{Putting}
use Rattle.writer.proofs.number.put.Given as goal

abbrev pub invariant-loop-left : goal.invariant-loop-left
invariant-loop-left l = Putting l.initial.buffer l.at l.number l.buffer l.next l.left

abbrev pub decreases-loop-left : goal.decreases-loop-left
decreases-loop-left l = l.left
