-- Who waits and who impedes in a table: the two relations that `deadlock` is about (document 01, 'Stuck').
use Rattle.std.specs.Prelude.{◌≡◌, Bool, true, not, ℕ}
use Rattle.states.specs.Waiting.{Awaited, awaiting, behind}
use Rattle.hall.specs.Every.{every}
use Rattle.hall.specs.Table.{state_at, member_at, phase_at}
use Rattle.hall.specs.declared.table.Table.{Table}

-- task k is blocked on e
abbrev pub BlockedOn : Table → ℕ → Awaited → Type 0
BlockedOn t k e = state_at t k ≡ awaiting e

-- "A member with a phase less than n impedes event (p, n). Equal does not impede."
unfoldable pub impedes_of : Table → ℕ → Awaited → Bool
impedes_of t u e = behind (member_at t u e.phaser.0) (phase_at t u e.phaser.0) e.phase.0

abbrev pub Impedes : Table → ℕ → Awaited → Type 0
Impedes t u e = impedes_of t u e ≡ true

-- "if every member has at least that phase": nobody impedes the event
unfoldable pub reached_of : Table → Awaited → Bool
reached_of t e = every (λ u. not (impedes_of t u e)) 32

-- u "impedes the present one's event"
pub record ImpedesTask (t : Table) (k u : ℕ) : Type 0 where
  pub event : Awaited
  pub waits : BlockedOn t k event
  pub impedes : Impedes t u event
