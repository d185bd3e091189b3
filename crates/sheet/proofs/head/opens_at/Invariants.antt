-- The phasers that are left, read from here on, give what all of them give.
use mathlib.Core.Path.{◌≡◌}
use mathlib.Core.Bool.{false}
use Prim.Native.Nat.{◌-◌}
use lib.ListN.{replicate}
use Rattle.fields.specs.Got.{each}
use Rattle.sheet.specs.Head.{open_step}
use Rattle.sheet.proofs.Onward.{going}
use Rattle.sheet.proofs.head.opens_at.Given as goal

abbrev pub invariant-loop : goal.invariant-loop
invariant-loop l =
    going (open_step l.sheet) (l.count - l.counter) l.floor l.opened l.next ≡ each (open_step l.sheet) l.count (replicate 16 false) l.first
