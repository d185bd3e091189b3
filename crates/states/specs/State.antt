-- Document 01, 'The table': a task's state, an event.
use Rattle.std.specs.Prelude.{Bool, true, false, ℕ}
use Rattle.states.specs.declared.state.Event.{Event}
use Rattle.states.specs.declared.state.Phase.{Phase}
use Rattle.states.specs.declared.state.State.{State}
use Rattle.states.specs.declared.state.State.TheVariants.{Free, Running, Blocked}
use Rattle.states.specs.declared.state.Task.{Task}

-- "phases 0 to 65,535"
abbrev pub largest_phase : ℕ
largest_phase = 65535

-- what stands in a place that nothing was written to
abbrev pub free_task : Task
free_task = record { state = Free }

abbrev pub phase0 : Phase
phase0 = record { 0 = 0 }

-- "a live task (running or blocked)"
abbrev pub is_free : State → Bool
is_free Free = true
is_free Running = false
is_free (Blocked e) = false

abbrev pub is_live : State → Bool
is_live Free = false
is_live Running = true
is_live (Blocked e) = true

abbrev pub is_running : State → Bool
is_running Free = false
is_running Running = true
is_running (Blocked e) = false

abbrev pub is_blocked : State → Bool
is_blocked Free = false
is_blocked Running = false
is_blocked (Blocked e) = true

-- "An event is a phaser and a phase"
abbrev pub event : ℕ → ℕ → Event
event p n = record { phaser = record { 0 = p }; phase = record { 0 = n } }
