-- The invariants: outside, all who are not to come any more have gone to the sets of their phasers; inside, t too has gone to those below p.
use mathlib.Core.Path.{◌≡◌}
use mathlib.Core.Bool.{true, false}
use Prim.Native.Nat.{◌+◌, ◌*◌}
use lib.ListN.{get_or}
use Rattle.sets.proofs.Members.{Within}
use Rattle.seating.specs.Parts.{column_in}
use Rattle.seating.proofs.Placing.{Sets, Gone, Going}
use Rattle.seating.proofs.seats.seats_of.Given as goal

abbrev pub invariant-loop-p : goal.invariant-loop-p
invariant-loop-p l = Sets (Going l.all (λ u q. get_or l.members (u * 16 + q) false ≡ true) l.t-iterator.left l.t l.p) l.seated

abbrev pub invariant-loop-t : goal.invariant-loop-t
invariant-loop-t l =
    (goal.iterator-loop-t).can_next l.t-iterator
    × (goal.iterator-loop-t).is_finite l.t-iterator
    × Within l.t-iterator.left l.all
    × Sets (Gone l.all (λ u q. get_or l.members (u * 16 + q) false ≡ true) l.t-iterator.left) l.seated
    × Sets (Gone l.all (λ u q. column_in l.tasks u ≡ q) l.t-iterator.left) l.waiters
