-- Document 01, 'The hall sheet', "Fields": the table that a reader makes of them.
use Rattle.std.specs.Prelude.{Bool, false, cond, List, ℕ, ◌+◌, ltb, replicate, length}
use Rattle.hall.specs.Effects.{with_state, with_entry}
use Rattle.states.specs.State.{phase0, free_task}
use Rattle.hall.specs.Table.{joined, fresh_table}
use Rattle.hall.specs.declared.table.Table.{Table}
use Rattle.sheet.specs.declared.entry.Entry.{Entry}
use Rattle.sheet.specs.declared.head.Head.{Head}
use Rattle.answers.specs.Answers.{bytes_after}
use Rattle.sheet.specs.Entry.{entry_at, membership_at}
use Rattle.fields.specs.Got.{Got, value, refused, onward, Rising, rising, each}
use Rattle.sheet.specs.Head.{head_at}

-- "each .., rising by phaser"
unfoldable pub member_step : List ℕ → List Bool → ℕ → Rising Table → ℕ → Got (Rising Table)
member_step s opened k r at =
    onward (membership_at s opened r.floor at) (λ m next.
    value (rising (m.phaser.0 + 1) (with_entry r.sofar k m.phaser.0 (joined m.phase.0))) next)

-- "each task, rising by number": its state, and its memberships
unfoldable pub members_at : List ℕ → List Bool → Table → Entry → ℕ → Got (Rising Table)
members_at s opened t e at =
    onward (each (member_step s opened e.number.0) e.count (with_state t e.number.0 e.state) at) (λ u next.
    value (rising (e.number.0 + 1) u) next)

unfoldable pub task_step : List ℕ → List Bool → Rising Table → ℕ → Got (Rising Table)
task_step s opened r at = onward (entry_at s opened r.floor at) (members_at s opened r.sofar)

-- these phasers are open, and there is no task
abbrev pub no_tasks : List Bool → Table
no_tasks opened = record { tasks = replicate 32 free_task; opened = opened; phases = replicate 512 phase0; members = replicate 512 false }

unfoldable pub tasks_at : List ℕ → Head → ℕ → Got Table
tasks_at s h at = each (task_step s h.opened) h.count (no_tasks h.opened) at

-- "35 comes last"
abbrev pub ended_at : List ℕ → Table → ℕ → Got Table
ended_at s t at = cond (ltb at (length s)) (refused bytes_after) (value t at)

unfoldable pub entries_at : List ℕ → Head → ℕ → Got Table
entries_at s h at = onward (tasks_at s h at) (ended_at s)

unfoldable pub table_at : List ℕ → Got Table
table_at s = onward (head_at s) (entries_at s)

-- what the reader hands back: its answer and a table; "A sheet reader that refuses hands back a fresh table"
pub record Sheet : Type 0 where
  pub answer : ℕ
  pub table : Table

abbrev pub hands : ℕ → Table → Sheet
hands answer table = record { answer = answer; table = table }

abbrev pub handed : Got Table → Sheet
handed (value t at) = hands 0 t
handed (refused n) = hands n fresh_table

unfoldable pub sheet_at : List ℕ → Sheet
sheet_at s = handed (table_at s)
