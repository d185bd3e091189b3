-- The invariant: who is not to come any more awaits its event alone, and `later` has who is to come.
use Prim.Native.Nat.{ℕ}
use mathlib.Core.Logic.{◌↔◌}
use Rattle.sets.specs.Set.{Has}
use Rattle.density.proofs.Twice.{Looked, Alone}
use Rattle.density.proofs.events.awaited_twice.Given as goal

abbrev pub invariant-loop-t : goal.invariant-loop-t
invariant-loop-t l = (goal.iterator-loop-t).can_next l.t-iterator
    × (goal.iterator-loop-t).is_finite l.t-iterator
    × ((k : ℕ) → Has l.later k ↔ Has l.t-iterator.left k)
    × Looked l.tasks (Alone l.among) l.among l.later
