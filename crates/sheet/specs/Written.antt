-- Document 01, 'The hall sheet', "Fields": the sheet of a table, field by field.
use Rattle.std.specs.Prelude.{Bool, cond, List, [], ◌++◌, ℕ, zero, suc, ◌+◌}
use Rattle.hall.specs.Table.{state_at, open_at, member_at, phase_at}
use Rattle.states.specs.State.{is_live}
use Rattle.states.specs.declared.state.State.{State}
use Rattle.states.specs.declared.state.State.TheVariants.{Free, Running, Blocked}
use Rattle.hall.specs.declared.table.Table.{Table}
use Rattle.fields.specs.Number.{number_bytes}

-- how many of the numbers below n are there
abbrev pub count : (ℕ → Bool) → ℕ → ℕ
count there zero = 0
count there (suc n) = cond (there n) (count there n + 1) (count there n)

-- the bytes of those that are there, rising
abbrev pub gather : (ℕ → Bool) → (ℕ → List ℕ) → ℕ → List ℕ
gather there bytes zero = []
gather there bytes (suc n) = cond (there n) (gather there bytes n ++ bytes n) (gather there bytes n)

-- how many, and each
unfoldable pub listed : (ℕ → Bool) → (ℕ → List ℕ) → ℕ → List ℕ
listed there bytes n = number_bytes (count there n) ++ gather there bytes n

-- "state 0 running or 1 blocked; if blocked, the phaser and phase"; a free task is not on the sheet
abbrev pub state_bytes : State → List ℕ
state_bytes Free = []
state_bytes Running = number_bytes 0
state_bytes (Blocked e) = number_bytes 1 ++ (number_bytes e.phaser.0 ++ number_bytes e.phase.0)

-- "each as phaser and phase"
abbrev pub member_bytes : Table → ℕ → ℕ → List ℕ
member_bytes t k p = number_bytes p ++ number_bytes (phase_at t k p)

-- "its number, state ..; how many memberships .., and each .., rising by phaser"
abbrev pub task_bytes : Table → ℕ → List ℕ
task_bytes t k = number_bytes k ++ (state_bytes (state_at t k) ++ listed (member_at t k) (member_bytes t k) 16)

abbrev pub live_at : Table → ℕ → Bool
live_at t k = is_live (state_at t k)

-- "version; how many open phasers .. and their numbers, rising; how many live tasks .., then each task, rising by number"
unfoldable pub sheet_of : Table → List ℕ
sheet_of t = number_bytes 1 ++ (listed (open_at t) number_bytes 16 ++ listed (live_at t) (task_bytes t) 32)
