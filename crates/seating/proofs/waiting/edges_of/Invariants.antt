-- The invariant: the rows of those who are not to come any more are filled.
use lib.ListN.{get_or}
use Rattle.sets.specs.Set.{Has}
use Rattle.seating.specs.Parts.{LateIn, event_in, column_in}
use Rattle.seating.proofs.Filling.{Filled}
use Rattle.seating.proofs.waiting.edges_of.Given as goal

abbrev pub invariant-loop-t : goal.invariant-loop-t
invariant-loop-t l =
    (goal.iterator-loop-t).can_next l.t-iterator
    × (goal.iterator-loop-t).is_finite l.t-iterator
    × Filled l.initial.t-iterator.left (λ k u. Has (get_or l.members (column_in l.tasks k) 0) u × LateIn l.phases u (event_in l.tasks k))
    l.t-iterator.left l.rows
