-- The invariant: those of the named who are not to come any more have their step.
use Rattle.judge.proofs.Steps.{Stepped}
use Rattle.judge.proofs.ring.nexts.Given as goal

abbrev pub invariant-loop-t : goal.invariant-loop-t
invariant-loop-t l =
    (goal.iterator-loop-t).can_next l.t-iterator
    × (goal.iterator-loop-t).is_finite l.t-iterator
    × Stepped l.table l.named l.next l.t-iterator.left
