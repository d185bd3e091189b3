-- The invariant: the lowest of `low` and of the steps that are left is the lowest of the whole way.
use mathlib.Core.Path.{◌≡◌}
use Prim.Native.Nat.{◌-◌}
use Rattle.deadlock.specs.Parts.{low_of}
use Rattle.deadlock.proofs.ring.NamedWalk.lowest_on.Given as goal

abbrev pub invariant-loop-more : goal.invariant-loop-more
invariant-loop-more l = low_of l.self.next l.self.named l.from l.from l.steps ≡ low_of l.self.next l.self.named l.task l.low (l.steps - l.more)
