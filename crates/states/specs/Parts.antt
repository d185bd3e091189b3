-- What the parts of the code hand each other; nobody need believe this file.
use Rattle.std.specs.Prelude.{Bool, true, false, ◌&&◌, cond, List, ℕ, leb, ltb, eqb, get_or}
use Rattle.states.specs.State.{largest_phase, is_live, event}
use Rattle.states.specs.Waiting.{Awaited, behind}
use Rattle.states.specs.declared.state.Event.{Event}
use Rattle.states.specs.declared.state.Phase.{Phase}
use Rattle.states.specs.declared.state.State.{State}
use Rattle.states.specs.declared.state.State.TheVariants.{Free, Running, Blocked}

-- "which phasers are open"; a number over 15 is no phaser's
abbrev pub open_in : List Bool → ℕ → Bool
open_in opened p = ltb p 16 && get_or opened p false

-- the test of one entry, and of one state, of a sound table (`hall` shows that they decide what soundness means)
abbrev pub entry_sound : Bool → State → Bool → ℕ → Bool
entry_sound member state opened phase = cond member (is_live state && (opened && leb phase largest_phase)) (eqb phase 0)

abbrev pub state_sound : (ℕ → Bool) → State → Bool
state_sound opened Free = true
state_sound opened Running = true
state_sound opened (Blocked e) = opened e.phaser.0 && leb e.phase.0 largest_phase

-- what a task awaits; where it awaits nothing, what nobody impedes
unfoldable pub event_of : State → Awaited
event_of Free = event 16 0
event_of Running = event 16 0
event_of (Blocked e) = e

unfoldable pub same_of : Event → Event → Bool
same_of e f = eqb e.phaser.0 f.phaser.0 && eqb e.phase.0 f.phase.0

unfoldable pub awaits_of : State → Awaited → Bool
awaits_of Free e = false
awaits_of Running e = false
awaits_of (Blocked f) e = same_of f e

-- an entry that impedes e, read at e's column
unfoldable pub impedes_at : Bool → Phase → Awaited → Bool
impedes_at member phase e = ltb e.phaser.0 16 && behind member phase.0 e.phase.0
