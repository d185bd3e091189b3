-- Document 01, 'The hall sheet', "Fields": what a reader makes of those of a task.
use Rattle.std.specs.Prelude.{Bool, false, cond, List, ℕ, eqb, get_or}
use Rattle.states.specs.State.{largest_phase, event}
use Rattle.states.specs.declared.state.Event.{Event}
use Rattle.states.specs.declared.state.State.{State}
use Rattle.states.specs.declared.state.State.TheVariants.{Running, Blocked}
use Rattle.sheet.specs.declared.entry.Entry.{Entry}
use Rattle.answers.specs.Answers.{unknown, not_open}
use Rattle.fields.specs.Got.{Got, value, refused, onward}
use Rattle.fields.specs.Number.{plain_at, number_at, rising_at}

-- "the phaser and phase", the phaser open
unfoldable pub phase_on : List ℕ → ℕ → ℕ → Got Event
phase_on s p at = onward (number_at s largest_phase at) (λ n next. value (event p n) next)

unfoldable pub event_at : List ℕ → List Bool → ℕ → ℕ → Got Event
event_at s opened floor at =
    onward (rising_at s 15 floor at) (λ p next. cond (get_or opened p false) (phase_on s p next) (refused not_open))

-- "state 0 running or 1 blocked; if blocked, the phaser and phase"
unfoldable pub blocked_at : List ℕ → List Bool → ℕ → Got State
blocked_at s opened at = onward (event_at s opened 0 at) (λ e next. value (Blocked e) next)

unfoldable pub state_on : List ℕ → List Bool → ℕ → Got State
state_on s opened at =
    onward (plain_at s at) (λ kind next.
    cond (eqb kind 0) (value Running next) (cond (eqb kind 1) (blocked_at s opened next) (refused unknown)))

-- "its number, state ..; how many memberships (up to 16)"
abbrev pub entry_of : ℕ → State → ℕ → Entry
entry_of k x n = record { number = record { 0 = k }; state = x; count = n }

unfoldable pub count_on : List ℕ → ℕ → State → ℕ → Got Entry
count_on s k x at = onward (number_at s 16 at) (λ n next. value (entry_of k x n) next)

unfoldable pub entry_on : List ℕ → List Bool → ℕ → ℕ → Got Entry
entry_on s opened k at = onward (state_on s opened at) (count_on s k)

unfoldable pub entry_at : List ℕ → List Bool → ℕ → ℕ → Got Entry
entry_at s opened floor at = onward (rising_at s 31 floor at) (entry_on s opened)

-- "and each as phaser and phase"
abbrev pub membership_at : List ℕ → List Bool → ℕ → ℕ → Got Event
membership_at s opened floor at = event_at s opened floor at
