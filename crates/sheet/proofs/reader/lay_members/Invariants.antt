-- The memberships that are left, read from here on, give what all of them give; and no task's state is written.
use mathlib.Core.Path.{◌≡◌}
use Prim.Native.Nat.{◌-◌}
use Rattle.fields.specs.Got.{each}
use Rattle.sheet.specs.Reader.{member_step}
use Rattle.sheet.proofs.Onward.{going}
use Rattle.sheet.proofs.reader.lay_members.Given as goal

abbrev pub invariant-loop : goal.invariant-loop
invariant-loop l =
    (going (member_step l.sheet l.opened l.task) (l.count - l.counter) l.floor l.table l.at
    ≡ each (member_step l.sheet l.opened l.task) l.count l.initial.table l.first)
    × (l.table.tasks ≡ l.initial.table.tasks)
