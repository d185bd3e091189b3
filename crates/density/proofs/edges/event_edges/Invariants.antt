-- The invariant: of the events that are not to come any more, those that their impeders await are counted.
use Rattle.density.specs.Parts.{JoinedBy}
use Rattle.density.proofs.Tallied.{Tallied}
use Rattle.density.proofs.edges.event_edges.Given as goal

abbrev pub invariant-loop-t : goal.invariant-loop-t
invariant-loop-t l =
    (goal.iterator-loop-t).can_next l.t-iterator
    × (goal.iterator-loop-t).is_finite l.t-iterator
    × Tallied l.events.first (JoinedBy l.events l.impeders) l.t-iterator.left l.edges
