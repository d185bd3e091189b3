-- The invariant: everybody with an endless walk is left, and only those of `among` are.
use Prim.Native.Nat.{◌^◌, ◌<◌}
use Rattle.sets.proofs.Members.{Within}
use Rattle.deadlock.specs.Walk.{Row}
use Rattle.deadlock.proofs.Clearing.{Covers}
use Rattle.deadlock.proofs.elimination.named.Given as goal

abbrev pub invariant-loop-task : goal.invariant-loop-task
invariant-loop-task l = (l.left < 2 ^ 32) × Within l.left l.among × Covers (Row l.among l.rows) l.left

abbrev pub decreases-loop-task : goal.decreases-loop-task
decreases-loop-task l = l.left
