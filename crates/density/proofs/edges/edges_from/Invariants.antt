-- The invariant: the rows of those who are not to come any more are counted.
use lib.ListN.{get_or}
use Rattle.sets.specs.Set.{Has}
use Rattle.density.proofs.Tallied.{Tallied}
use Rattle.density.proofs.edges.edges_from.Given as goal

abbrev pub invariant-loop-t : goal.invariant-loop-t
invariant-loop-t l =
    (goal.iterator-loop-t).can_next l.t-iterator
    × (goal.iterator-loop-t).is_finite l.t-iterator
    × Tallied l.set (λ k u. Has (get_or l.rows k 0) u) l.t-iterator.left l.edges
