-- What the parts of the code hand each other; nobody need believe this file.
use Rattle.std.specs.Prelude.{◌≡◌, Bool, true, ◌&&◌, List, ◌↔◌, ℕ, ◌/◌, ◌%◌, ◌<◌, get_or, length}
use Rattle.sets.specs.Set.{Has}
use Rattle.states.specs.Parts.{entry_sound, state_sound, event_of}
use Rattle.states.specs.State.{is_blocked}
use Rattle.states.specs.Waiting.{Awaited}
use Rattle.seating.specs.declared.seats.Seats.{Seats}
use Rattle.hall.specs.Every.{every}
use Rattle.hall.specs.Table.{state_at, open_at, member_at, phase_at}
use Rattle.hall.specs.Waiting.{ImpedesTask}
use Rattle.hall.specs.declared.table.Table.{Table}

-- the test that decides `Sound`: each of the 512 entries, which is of task i / 16 and phaser i % 16, and each of the 32 states
unfoldable pub entries_sound : Table → Bool
entries_sound t =
    every (λ i. entry_sound (member_at t (i / 16) (i % 16)) (state_at t (i / 16)) (open_at t (i % 16)) (phase_at t (i / 16) (i % 16))) 512

unfoldable pub states_sound : Table → Bool
states_sound t = every (λ k. state_sound (open_at t) (state_at t k)) 32

unfoldable pub sound_of : Table → Bool
sound_of t = entries_sound t && states_sound t

-- where the event that k awaits stands in a task's sixteen entries
abbrev pub column_of : Table → ℕ → ℕ
column_of t k = (event_of (state_at t k)).phaser.0 % 16

-- the blocked tasks
pub record BlockedSet (t : Table) (m : ℕ) : Type 0 where
  pub iff : (k : ℕ) → Has m k ↔ (is_blocked (state_at t k) ≡ true)

-- for each phaser, those of some tasks that are its members, and those whose event stands in its column
pub record SeatsOf (t : Table) (s : Seats) : Type 0 where
  pub members : (p u : ℕ) → p < 16 → Has (get_or s.members p 0) u ↔ (Has s.all u × (member_at t u p ≡ true))
  pub waiters : (p k : ℕ) → p < 16 → Has (get_or s.waiters p 0) k ↔ (Has s.all k × (column_of t k ≡ p))
  pub long : (length s.members ≡ 16) × (length s.waiters ≡ 16)

-- u's kept phase is less than the event's
abbrev pub Late : Table → ℕ → Awaited → Type 0
Late t u e = (e.phaser.0 < 16) × (phase_at t u e.phaser.0 < e.phase.0)

-- in row k, where k is seated, who of those seated at its event's phaser is late for it
pub record RowsBy (t : Table) (s : Seats) (rows : List ℕ) : Type 0 where
  pub iff : (k u : ℕ)
      → Has (get_or rows k 0) u ↔ (Has s.all k × Has (get_or s.members (column_of t k) 0) u × Late t u (event_of (state_at t k)))
  pub long : length rows ≡ 32

-- in row k, where k is of `among`, those of `among` that impede k's event
pub record RowsOf (t : Table) (among : ℕ) (rows : List ℕ) : Type 0 where
  pub iff : (k u : ℕ) → Has (get_or rows k 0) u ↔ (Has among k × Has among u × ImpedesTask t k u)
  pub long : length rows ≡ 32
