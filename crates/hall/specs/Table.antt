-- Document 01, 'The table': what a table says of a task, a phaser, an entry, at numbers of any size.
use Rattle.std.specs.Prelude.{◌≡◌, Bool, true, false, ◌&&◌, cond, ℕ, ◌+◌, ◌*◌, ltb, get_or, length, replicate}
use Rattle.states.specs.State.{free_task, phase0}
use Rattle.states.specs.declared.state.State.{State}
use Rattle.states.specs.declared.state.State.TheVariants.{Free}
use Rattle.hall.specs.declared.table.Table.{Table}

-- "its state (free, running, or blocked on one event)"; a number over 31 is nobody's
unfoldable pub state_at : Table → ℕ → State
state_at t k = cond (ltb k 32) (get_or t.tasks k free_task).state Free

-- "which phasers are open"; a number over 15 is no phaser's
unfoldable pub open_at : Table → ℕ → Bool
open_at t p = ltb p 16 && get_or t.opened p false

-- "512 phases, sixteen for each of thirty-two tasks, and .. for each whether the task is a member"
abbrev pub in_table : ℕ → ℕ → Bool
in_table k p = ltb k 32 && ltb p 16

unfoldable pub member_at : Table → ℕ → ℕ → Bool
member_at t k p = in_table k p && get_or t.members (k * 16 + p) false

unfoldable pub phase_at : Table → ℕ → ℕ → ℕ
phase_at t k p = cond (in_table k p) (get_or t.phases (k * 16 + p) phase0).0 0

-- an entry: whether the task is a member, and the phase that is kept; of a member at phase n; of no member
pub record Entry : Type 0 where
  pub member : Bool
  pub phase : ℕ

abbrev pub entry_of : Bool → ℕ → Entry
entry_of member phase = record { member = member; phase = phase }

abbrev pub joined : ℕ → Entry
joined n = entry_of true n

abbrev pub absent : Entry
absent = entry_of false 0

-- "A fresh table has no task and no open phaser"
unfoldable pub fresh_table : Table
fresh_table = record {
  tasks = replicate 32 free_task;
  opened = replicate 16 false;
  phases = replicate 512 phase0;
  members = replicate 512 false;
}

-- the lengths of the arrays, which code has by their types
pub record Shaped (t : Table) : Type 0 where
  pub tasks : length t.tasks ≡ 32
  pub opened : length t.opened ≡ 16
  pub phases : length t.phases ≡ 512
  pub members : length t.members ≡ 512
