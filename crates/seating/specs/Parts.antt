-- What the parts of the code hand each other, of single arrays of a table; nobody need believe this file. `hall` says it of the table.
use Rattle.std.specs.Prelude.{◌≡◌, Bool, true, false, List, ◌↔◌, ℕ, ◌+◌, ◌*◌, ◌%◌, ◌<◌, get_or, length}
use Rattle.sets.specs.Set.{Has}
use Rattle.states.specs.Parts.{event_of}
use Rattle.states.specs.State.{free_task, phase0, is_blocked}
use Rattle.states.specs.Waiting.{Awaited}
use Rattle.states.specs.declared.state.Phase.{Phase}
use Rattle.states.specs.declared.state.Task.{Task}
use Rattle.seating.specs.declared.seats.Seats.{Seats}

-- what task k awaits, and where that stands in a task's sixteen entries
abbrev pub event_in : List Task → ℕ → Awaited
event_in tasks k = event_of (get_or tasks k free_task).state

abbrev pub column_in : List Task → ℕ → ℕ
column_in tasks k = (event_in tasks k).phaser.0 % 16

-- the blocked tasks
pub record BlockedIn (tasks : List Task) (m : ℕ) : Type 0 where
  pub iff : (k : ℕ) → Has m k ↔ ((k < 32) × (is_blocked (get_or tasks k free_task).state ≡ true))

-- for each phaser, those of some tasks that are its members, and those whose event stands in its column
pub record SeatsIn (tasks : List Task) (entries : List Bool) (s : Seats) : Type 0 where
  pub members : (p u : ℕ) → p < 16 → Has (get_or s.members p 0) u ↔ (Has s.all u × (get_or entries (u * 16 + p) false ≡ true))
  pub waiters : (p k : ℕ) → p < 16 → Has (get_or s.waiters p 0) k ↔ (Has s.all k × (column_in tasks k ≡ p))
  pub long : (length s.members ≡ 16) × (length s.waiters ≡ 16)

-- u's kept phase is less than the event's
abbrev pub LateIn : List Phase → ℕ → Awaited → Type 0
LateIn phases u e = (e.phaser.0 < 16) × ((get_or phases (u * 16 + e.phaser.0) phase0).0 < e.phase.0)

-- in row k, where k is seated, who of those seated at its event's phaser is late for it
pub record RowsIn (tasks : List Task) (phases : List Phase) (s : Seats) (rows : List ℕ) : Type 0 where
  pub iff : (k u : ℕ) → k < 32
      → Has (get_or rows k 0) u ↔ (Has s.all k × Has (get_or s.members (column_in tasks k) 0) u × LateIn phases u (event_in tasks k))
  pub long : length rows ≡ 32
