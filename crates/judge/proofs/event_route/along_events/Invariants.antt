-- The invariant: `Searched`.
use Prim.Native.Nat.{◌+◌, ◌*◌, ◌^◌}
use Rattle.judge.proofs.Events.{Searched}
use Rattle.judge.proofs.event_route.along_events.Given as goal

abbrev pub invariant-loop-t : goal.invariant-loop-t
invariant-loop-t l = Searched l.table l.left l.todo

abbrev pub decreases-loop-t : goal.decreases-loop-t
decreases-loop-t l = l.left * 2 ^ 32 + l.todo
