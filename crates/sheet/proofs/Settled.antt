-- What is past the longest sheet is not looked at.
use Prim.Native.Nat.{ℕ, zero, suc, ◌+◌, ◌*◌, ◌≤◌, ◌<◌}
use mathlib.Core.Path.{◌≡◌, refl, sym, ◌∙◌}
use mathlib.Core.List.{List}
use mathlib.Core.Bool.{Bool, true, false}
use native.Mathlib.Omega.{arith}
use lib.Dec.{eqb, leb, ltb}
use lib.ListN.{length, get_or, take, replicate, length-take}
use lib.Seq.{get_or-take}
use borrow.Author.Tests.{eqb-true, le-leb, lt-leb, leb-true, leb-false, ltb-false, le-ltb, lt-ltb}
use Rattle.states.specs.State.{largest_phase}
use Rattle.hall.specs.Effects.{with_state}
use Rattle.hall.specs.declared.table.Table.{Table}
use Rattle.sheet.specs.declared.entry.Entry.{Entry}
use Rattle.sheet.specs.declared.head.Head.{Head}
use Rattle.fields.specs.Got.{value, rising, each}
use Rattle.fields.specs.Figures.{longest_sheet, settling_bytes, further}
use Rattle.fields.specs.Number.{groups_at, plain_at, number_at, rising_at}
use Rattle.sheet.specs.Head.{open_step, opens_at, count_at, lists_at, head_at}
use Rattle.sheet.specs.Entry.{phase_on, event_at, blocked_at, state_on, entry_of, count_on, entry_on, entry_at}
use Rattle.sheet.specs.Reader.{member_step, members_at, task_step, no_tasks, tasks_at, entries_at, table_at}
use Rattle.sheet.proofs.Same.{Same, fine, none, same_onward, same_times, same_if, same_equal, same_holds}
use Rattle.sheet.proofs.Numbers.{Bytes, any_number, Read, plain_ok, number_ok, rising_ok, one_byte}

-- the longest: phaser and phase; number, state, event, how many memberships and each
abbrev longest_event : ℕ
longest_event = 2 + further

abbrev longest_entry : ℕ
longest_entry = 3 + longest_event + 16 * longest_event

-- two sheets with the same first n bytes
module _ (s s' : List ℕ) (eight : Bytes s) (n : ℕ) (same : (i : ℕ) → i < n → get_or s i 0 ≡ get_or s' i 0)
    (ends : (i : ℕ) → i < n → leb (length s) i ≡ leb (length s') i) where
  same_groups : (k at : ℕ) → at + k ≤ n → groups_at k s at ≡ groups_at k s' at
  same_groups zero at h = refl
  same_groups (suc k) at h = rw (same at (omega arith), ends at (omega arith), same_groups k (at + 1) (omega arith))

  same_plain : (at : ℕ) → at + suc further ≤ n → plain_at s at ≡ plain_at s' at
  unfolding plain_at
  same_plain at h = same_groups (suc further) at h

  same_number : (m at : ℕ) → at + suc further ≤ n → number_at s m at ≡ number_at s' m at
  unfolding number_at
  same_number m at h = rw (same_plain at h)

  same_rising : (m floor at : ℕ) → at + suc further ≤ n → rising_at s m floor at ≡ rising_at s' m floor at
  unfolding rising_at
  same_rising m floor at h = rw (same_number m at h)

  plain : (at : ℕ) → at + suc further ≤ n → Same (Read s any_number 0 at) (plain_at s at) (plain_at s' at)
  plain at h = rw (← same_plain at h) (plain_ok s eight at)

  number : (m at : ℕ) → at + suc further ≤ n → Same (Read s m 0 at) (number_at s m at) (number_at s' m at)
  number m at h = rw (← same_number m at h) (number_ok s eight m at)

  rises : (m floor at : ℕ) → at + suc further ≤ n → Same (Read s m floor at) (rising_at s m floor at) (rising_at s' m floor at)
  rises m floor at h = rw (← same_rising m floor at h) (rising_ok s eight m floor at)

  -- a number below 128 has one byte, and any at most so many groups
  one : {m floor at v next : ℕ} → Read s m floor at v next → v < 128 → next ≡ at + 1
  one {v = v} r h = r.place ∙ rw (one_byte v h)

  -- so many bytes are left to look at before the n-th
  abbrev Left : {A : Type 0} → ℕ → A → ℕ → Type 0
  Left c a at = at + c ≤ n

  event : (c : ℕ) (opened : List Bool) (floor at : ℕ) → at + (longest_event + c) ≤ n → Same (Left c) (event_at s opened floor at) (event_at s' opened floor at)
  unfolding event_at phase_on
  event c opened floor at h =
      same_onward (rises 15 floor at (omega arith)) (λ p second e.
      let z = one e (omega (arith, e.most)) in
      same_if _ (get_or opened p false)
      (λ o. same_onward (number largest_phase second (omega arith)) (λ v next f. fine (omega (arith, f.place, f.short))))
      (λ o. none tt))

  state : (c : ℕ) (opened : List Bool) (at : ℕ) → at + (1 + longest_event + c) ≤ n → Same (Left c) (state_on s opened at) (state_on s' opened at)
  unfolding state_on blocked_at
  state c opened at h =
      same_onward (plain at (omega arith)) (λ kind next e.
      same_if _ (eqb kind 0) (λ z. let w = one e (omega (arith, eqb-true kind 0 z)) in fine (omega arith)) (λ z.
      same_if _ (eqb kind 1)
      (λ y. let w = one e (omega (arith, eqb-true kind 1 y)) in same_onward (event c opened 0 next (omega arith)) (λ v at l. fine l))
      (λ y. none tt)))

  entry : (c : ℕ) (opened : List Bool) (floor at : ℕ) → at + (longest_entry + c) ≤ n
      → Same (λ e next. next + (e.count * longest_event + c) ≤ n) (entry_at s opened floor at) (entry_at s' opened floor at)
  unfolding entry_at entry_on count_on
  entry c opened floor at h =
      same_onward (rises 31 floor at (omega arith)) (λ k second e.
      let z = one e (omega (arith, e.most)) in
      same_onward (state (1 + 16 * longest_event + c) opened second (omega arith)) (λ x third f.
      same_onward (number 16 third (omega arith)) (λ m next g. let y = one g (omega (arith, g.most)) in fine {a = entry_of k x m} (omega (arith, g.most)))))

  members : (c : ℕ) (opened : List Bool) (t : Table) (e : Entry) (at : ℕ) → at + (e.count * longest_event + c) ≤ n
      → Same (Left c) (members_at s opened t e at) (members_at s' opened t e at)
  unfolding members_at each member_step
  members c opened t e at h =
      let k = e.number.0 in
      same_onward {P = Left c}
      (same_onward
      (same_times (λ j. Left (j * longest_event + c)) (member_step s opened k) (member_step s' opened k)
      (λ j r mid l. same_onward (event (j * longest_event + c) opened r.floor mid (omega arith)) (λ m next f. fine f))
      e.count (rising 0 (with_state t k e.state)) at h)
      (λ r next l. fine (omega arith)))
      (λ u next l. fine l)

  tasks : (c : ℕ) (h : Head) (at : ℕ) → at + (h.count * longest_entry + c) ≤ n → Same (Left c) (tasks_at s h at) (tasks_at s' h at)
  unfolding tasks_at each task_step
  tasks c h at l =
      same_onward
      (same_times (λ j. Left (j * longest_entry + c)) (task_step s h.opened) (task_step s' h.opened)
      (λ j r mid l.
      same_onward (entry (j * longest_entry + c) h.opened r.floor mid (omega arith)) (members (j * longest_entry + c) h.opened r.sofar))
      h.count (rising 0 (no_tasks h.opened)) at l)
      (λ r next l. fine (omega arith))

  opens : (c at : ℕ) → further ≤ c → at + (17 + c) ≤ n → Same (Left c) (opens_at s at) (opens_at s' at)
  unfolding opens_at each open_step
  opens c at f h =
      same_onward (number 16 at (omega arith)) (λ m first e.
      let z = one e (omega (arith, e.most)) in
      same_onward
      (same_times (λ j. Left (j * 1 + c)) (open_step s) (open_step s')
      (λ j r mid l. same_onward (rises 15 r.floor mid (omega arith)) (λ p next v. let w = one v (omega (arith, v.most)) in fine (omega arith)))
      m (rising 0 (replicate 16 false)) first (omega (arith, e.most)))
      (λ r next l. fine (omega arith)))

  head : (c : ℕ) → 19 + (32 * longest_entry + c) ≤ n → Same (λ h at. at + (h.count * longest_entry + c) ≤ n) (head_at s) (head_at s')
  unfolding head_at lists_at count_at
  head c l =
      same_onward (plain 0 (omega arith)) (λ version first e.
      same_if _ (eqb version 1)
      (λ z. let w = one e (omega (arith, eqb-true version 1 z)) in
      same_onward (opens (1 + 32 * longest_entry + c) first (omega arith) (omega arith)) (λ o second f.
      same_onward (number 32 second (omega arith)) (λ m next g. let y = one g (omega (arith, g.most)) in fine (omega (arith, g.most)))))
      (λ z. none tt))

  same_end : (at : ℕ) → at < n → ltb at (length s) ≡ ltb at (length s')
  same_end at h = go (leb (length s) at) refl (sym (ends at h))
    where
      go : (b : Bool) → leb (length s) at ≡ b → leb (length s') at ≡ leb (length s) at → ltb at (length s) ≡ ltb at (length s')
      go true e f = rw (le-ltb at (length s) (leb-true _ _ e), le-ltb at (length s') (leb-true _ _ (f ∙ e)))
      go false e f = rw (lt-ltb at (length s) (leb-false _ _ e), lt-ltb at (length s') (leb-false _ _ (f ∙ e)))

  -- an accepted sheet ends before the n-th byte
  table : longest_sheet < n → Same (λ t at. length s < n) (table_at s) (table_at s')
  unfolding table_at entries_at
  table l =
      same_onward (head 1 (omega arith)) (λ h first e.
      same_onward (tasks 1 h first e) (λ t at f.
      rw (← same_end at (omega arith)) (same_if _ (ltb at (length s)) (λ y. none tt) (λ y. fine (omega (arith, ltb-false at (length s) y))))))

pub longest : (s : List ℕ) → Bytes s → {t : Table} {at : ℕ} → table_at s ≡ value t at → length s ≤ longest_sheet
longest s b e = let w = same_holds (table s s b (suc longest_sheet) (λ i h. refl) (λ i h. refl) (omega arith)) e in omega arith

pub settles : (s : List ℕ) → Bytes s → table_at s ≡ table_at (take settling_bytes s)
settles s b =
    same_equal (table s (take settling_bytes s) b settling_bytes (λ i h. sym (get_or-take settling_bytes s i 0 h)) ends (omega arith))
  where
    ends : (i : ℕ) → i < settling_bytes → leb (length s) i ≡ leb (length (take settling_bytes s)) i
    ends i h = go (leb (length s) i) refl
      where
        go : (b : Bool) → leb (length s) i ≡ b → leb (length s) i ≡ leb (length (take settling_bytes s)) i
        go true e = e ∙ sym (le-leb (length (take settling_bytes s)) i (omega (arith, length-take settling_bytes s, leb-true (length s) i e)))
        go false e = e ∙ sym (lt-leb (length (take settling_bytes s)) i (omega (arith, length-take settling_bytes s, leb-false (length s) i e)))
