-- The invariant: the steps that are left, from here, come to where all of them come from the start.
use mathlib.Core.Path.{◌≡◌}
use Prim.Native.Nat.{◌-◌}
use Rattle.deadlock.specs.Parts.{go_of}
use Rattle.deadlock.proofs.ring.NamedWalk.far.Given as goal

abbrev pub invariant-loop-step : goal.invariant-loop-step
invariant-loop-step l = go_of l.self.next l.self.named l.from l.steps ≡ go_of l.self.next l.self.named l.task (l.steps - l.step)
