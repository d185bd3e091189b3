-- What the parts of the code hand each other; nobody need believe this file.
use Rattle.std.specs.Prelude.{◌≡◌, Bool, false, cond, List, [], ◌++◌, ℕ, ◌+◌, length, get_or}
use Rattle.std.proofs.lemmas.List.Edits.{sets}
use Rattle.states.specs.State.{is_live, free_task}
use Rattle.states.specs.declared.state.State.{State}
use Rattle.states.specs.declared.state.Task.{Task}
use Rattle.fields.specs.Number.{number_bytes}
use Rattle.sheet.specs.Written.{state_bytes, listed}

-- from a place on bytes were laid, as far as there is room, and the next place comes after them
pub record Laid (before : List ℕ) (at : ℕ) (bytes after : List ℕ) (next : ℕ) : Type 0 where
  pub place : next ≡ at + length bytes
  pub buffer : after ≡ sets before at bytes

-- whether the flag at a place is set
abbrev pub flagged : List Bool → ℕ → Bool
flagged flags p = get_or flags p false

-- whether a task of the list is live
abbrev pub live_in : List Task → ℕ → Bool
live_in tasks k = is_live (get_or tasks k free_task).state

-- those of an entry that is there
unfoldable pub if_there : Bool → List ℕ → List ℕ
if_there there bytes = cond there bytes []

-- "its number, state ..; how many memberships": of a live task
abbrev pub entry_bytes : ℕ → State → ℕ → List ℕ
entry_bytes number state count = if_there (is_live state) (number_bytes number ++ (state_bytes state ++ number_bytes count))

-- "version; how many open phasers .. and their numbers, rising; how many live tasks"
abbrev pub head_bytes : (ℕ → Bool) → ℕ → List ℕ
head_bytes opened count = number_bytes 1 ++ (listed opened number_bytes 16 ++ number_bytes count)

-- how far a task's row goes
abbrev pub row_end : State → ℕ
row_end state = cond (is_live state) 16 0
