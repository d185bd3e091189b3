-- The tasks that are left, read from here on, give what all of them give; and the blocked ones so far are marked.
use mathlib.Core.Path.{◌≡◌}
use Prim.Native.Nat.{◌-◌}
use Rattle.fields.specs.Got.{each}
use Rattle.hall.specs.Parts.{BlockedSet}
use Rattle.sheet.specs.Reader.{task_step, no_tasks}
use Rattle.sheet.proofs.Onward.{going}
use Rattle.sheet.proofs.reader.lay.Given as goal

abbrev pub invariant-loop : goal.invariant-loop
invariant-loop l =
    (going (task_step l.sheet l.head.opened) (l.end - l.counter) l.floor l.table l.at
    ≡ each (task_step l.sheet l.head.opened) l.end (no_tasks l.head.opened) l.first)
    × BlockedSet l.table l.blocked
