-- Document 01, 'Stuck': what is awaited, and by what an entry impedes it.
use Rattle.std.specs.Prelude.{Bool, false, ◌&&◌, ℕ, ltb, eqb}
use Rattle.states.specs.declared.state.Event.{Event}
use Rattle.states.specs.declared.state.State.{State}
use Rattle.states.specs.declared.state.State.TheVariants.{Free, Running, Blocked}

-- what a blocked task awaits: "blocked on one event"
abbrev pub Awaited : Type 0
Awaited = Event

abbrev pub awaiting : Awaited → State
awaiting e = Blocked e

-- "A member with a phase less than n impedes event (p, n). Equal does not impede."
abbrev pub behind : Bool → ℕ → ℕ → Bool
behind member phase n = member && ltb phase n

-- "a task is blocked on it", a phaser
abbrev pub waits_at : State → ℕ → Bool
waits_at Free p = false
waits_at Running p = false
waits_at (Blocked e) p = eqb e.phaser.0 p
