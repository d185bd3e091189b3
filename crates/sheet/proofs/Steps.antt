-- One step of each loop of the reader, from what its parts were read to; and what a sheet is read to.
use Prim.Native.Nat.{ℕ, ◌+◌}
use mathlib.Core.Path.{◌≡◌, refl}
use mathlib.Core.Bool.{Bool, true, false, cond}
use mathlib.Core.List.{List}
use lib.ListN.{set, length}
use native.Mathlib.Omega.{arith}
use lib.Dec.{ltb}
use Rattle.answers.specs.Answers.{bytes_after, done, number_of}
use Rattle.answers.specs.declared.Refusal.{Refusal}
use Rattle.answers.proofs.Numbers.{number_high}
use Rattle.fields.specs.Got.{value, refused, rising, each}
use Rattle.fields.specs.Number.{rising_at}
use Rattle.hall.specs.Effects.{with_state, with_entry}
use Rattle.hall.specs.Table.{joined, fresh_table}
use Rattle.hall.specs.declared.table.Table.{Table}
use Rattle.states.specs.declared.state.Event.{Event}
use Rattle.sheet.specs.declared.entry.Entry.{Entry}
use Rattle.sheet.specs.declared.head.Head.{Head}
use Rattle.sheet.specs.Head.{open_step, head_at}
use Rattle.sheet.specs.Entry.{event_at, entry_at}
use Rattle.sheet.specs.Reader.{member_step, members_at, task_step, no_tasks, tasks_at, entries_at, table_at, hands, handed, sheet_at}

module _ (s : List ℕ) (floor at : ℕ) where
  pub open_read : (opened : List Bool) {p next : ℕ} → value p next ≡ rising_at s 15 floor at
      → open_step s (rising floor opened) at ≡ value (rising (p + 1) (set opened p true)) next
  unfolding open_step
  open_read opened e = rw (← e)

  pub open_refused : (opened : List Bool) {n : ℕ} → refused n ≡ rising_at s 15 floor at → open_step s (rising floor opened) at ≡ refused n
  unfolding open_step
  open_refused opened e = rw (← e)

module _ (s : List ℕ) (opened : List Bool) (floor at : ℕ) (t : Table) where
  pub member_read : (k : ℕ) {e : Event} {next : ℕ} → value e next ≡ event_at s opened floor at
      → member_step s opened k (rising floor t) at ≡ value (rising (e.phaser.0 + 1) (with_entry t k e.phaser.0 (joined e.phase.0))) next
  unfolding member_step
  member_read k h = rw (← h)

  pub member_refused : (k : ℕ) {n : ℕ} → refused n ≡ event_at s opened floor at → member_step s opened k (rising floor t) at ≡ refused n
  unfolding member_step
  member_refused k h = rw (← h)

  pub entry_refused : {n : ℕ} → refused n ≡ entry_at s opened floor at → task_step s opened (rising floor t) at ≡ refused n
  unfolding task_step
  entry_refused h = rw (← h)

  module _ {e : Entry} {first : ℕ} (h : value e first ≡ entry_at s opened floor at) where
    pub task_read : {u : Table} {next : ℕ} → value u next ≡ each (member_step s opened e.number.0) e.count (with_state t e.number.0 e.state) first
        → task_step s opened (rising floor t) at ≡ value (rising (e.number.0 + 1) u) next
    unfolding task_step members_at
    task_read g = rw (← h, ← g)

    pub task_refused : {n : ℕ} → refused n ≡ each (member_step s opened e.number.0) e.count (with_state t e.number.0 e.state) first
        → task_step s opened (rising floor t) at ≡ refused n
    unfolding task_step members_at
    task_refused g = rw (← h, ← g)

pub head_refused : (s : List ℕ) {n : ℕ} → refused n ≡ head_at s → hands n fresh_table ≡ sheet_at s
unfolding sheet_at table_at
head_refused s e = rw (← e)

module _ (s : List ℕ) {h : Head} {first : ℕ} (e : value h first ≡ head_at s) where
  pub tasks_refused : {n : ℕ} → refused n ≡ each (task_step s h.opened) h.count (no_tasks h.opened) first → hands n fresh_table ≡ sheet_at s
  unfolding sheet_at table_at entries_at tasks_at
  tasks_refused g = rw (← e, ← g)

  -- all tasks are read, and the end was looked at
  module _ {t : Table} {at : ℕ} (g : value t at ≡ each (task_step s h.opened) h.count (no_tasks h.opened) first) where
    pub bytes_left : (r : Refusal) → number_of r ≡ cond (ltb at (length s)) bytes_after done → hands (number_of r) fresh_table ≡ sheet_at s
    unfolding sheet_at table_at entries_at tasks_at
    bytes_left r a = rw (← e, ← g) (go (ltb at (length s)) a)
      where
        go : (b : Bool) → number_of r ≡ cond b bytes_after done → hands (number_of r) fresh_table ≡ handed (cond b (refused bytes_after) (value t at))
        go true a = rw a
        go false a = absurd (omega (arith, a, number_high r))

    pub all_read : done ≡ cond (ltb at (length s)) bytes_after done → hands done t ≡ sheet_at s
    unfolding sheet_at table_at entries_at tasks_at
    all_read a = rw (← e, ← g) (go (ltb at (length s)) a)
      where
        go : (b : Bool) → done ≡ cond b bytes_after done → hands done t ≡ handed (cond b (refused bytes_after) (value t at))
        go true a = absurd (omega (arith, a))
        go false a = refl
