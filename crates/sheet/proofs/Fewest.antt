-- No sheet is shorter than the fewest bytes that get its answer: each number that was read has a byte, so a place is at least how many numbers come before it.
use Prim.Native.Nat.{ℕ, zero, suc, ◌+◌, ◌-◌, ◌≤◌, ◌<◌}
use mathlib.Core.Path.{◌≡◌, refl}
use mathlib.Core.List.{List, [], ◌∷◌}
use mathlib.Core.Bool.{Bool, cond, false}
use native.Mathlib.Omega.{arith}
use lib.Dec.{eqb, leb, ltb}
use lib.ListN.{length, get_or, replicate}
use borrow.Author.Tests.{leb-false, ltb-true}
use Rattle.states.specs.State.{largest_phase}
use Rattle.hall.specs.Effects.{with_state}
use Rattle.hall.specs.declared.table.Table.{Table}
use Rattle.sheet.specs.declared.entry.Entry.{Entry}
use Rattle.sheet.specs.declared.head.Head.{Head}
use Rattle.answers.specs.Answers.{ends_inside, needless_group, too_large, not_rising, unknown, bytes_after, not_open}
use Rattle.fields.specs.Got.{Got, Rising, rising, each}
use Rattle.fields.specs.Figures.{further}
use Rattle.fields.specs.Number.{groups_at, plain_at, number_at, rising_at}
use Rattle.sheet.specs.Head.{open_step, opens_at, count_at, lists_at, head_at}
use Rattle.sheet.specs.Entry.{phase_on, event_at, blocked_at, state_on, count_on, entry_on, entry_at}
use Rattle.sheet.specs.Reader.{member_step, members_at, task_step, no_tasks, tasks_at, entries_at, table_at}
use Rattle.sheet.proofs.Same.{Agree, fine, none, same_onward, same_times, same_if}

-- the fewest bytes that get an answer: that of 0, acceptance, and those of 30 to 36 in their order
abbrev pub fewest : ℕ → ℕ
fewest n = cond (eqb n 0) 3 (get_or (0 ∷ 2 ∷ 2 ∷ 4 ∷ 1 ∷ 4 ∷ 6 ∷ []) (n - 30) 0)

module _ (s : List ℕ) where
  -- a reading that is refused only by an answer for which s has bytes enough; if it is not, Q holds of what was read
  abbrev Enough : {A : Type 0} → (A → ℕ → Type 0) → Got A → Type 0
  Enough Q g = Agree (λ n. fewest n ≤ length s) Q g g

  -- ---- numbers: one that was read has a byte or more, and all of them are there
  abbrev There : ℕ → ℕ → ℕ → Type 0
  There at v next = (at < next) × (next ≤ length s)

  groups : (k at : ℕ) → 2 ≤ at + k → (k ≡ 0 → at ≤ length s) → Enough (There at) (groups_at k s at)
  groups zero at h l = none {n = too_large} (omega (arith, l refl))
  groups (suc k) at h l =
      same_if _ (leb (length s) at) (λ e. none {n = ends_inside} (omega arith)) (λ e.
      let inside : at < length s = leb-false _ _ e in
      same_if _ (ltb (get_or s at 0) 128)
      (λ f. fine (omega arith, omega arith))
      (λ f. same_onward (groups k (at + 1) (omega arith) (λ z. omega arith)) (λ v next r.
      same_if _ (eqb v 0) (λ z. none {n = needless_group} (omega (arith, r.0, r.1))) (λ z. fine (omega (arith, r.0), r.1)))))

  plain : (at : ℕ) → Enough (There at) (plain_at s at)
  unfolding plain_at
  plain at = groups (suc further) at (omega arith) (λ z. omega arith)

  number : (m at : ℕ) → 1 ≤ at → Enough (There at) (number_at s m at)
  unfolding number_at
  number m at h = same_onward (plain at) (λ v next r. same_if _ (leb v m) (λ e. fine r) (λ e. none {n = too_large} (omega (arith, r.0, r.1))))

  rises : (m floor at : ℕ) → 1 ≤ at → (0 < floor → 3 ≤ at) → Enough (There at) (rising_at s m floor at)
  unfolding rising_at
  rises m floor at h l =
      same_onward (number m at h) (λ v next r.
      same_if _ (ltb v floor) (λ e. let third = l (omega (arith, ltb-true v floor e)) in none {n = not_rising} (omega (arith, r.0, r.1))) (λ e. fine r))

  -- ---- fields: so many numbers come before the place
  abbrev Past : {A : Type 0} → ℕ → A → ℕ → Type 0
  Past c a at = c ≤ at

  event : (opened : List Bool) (floor at : ℕ) → 5 ≤ at → Enough (Past 5) (event_at s opened floor at)
  unfolding event_at phase_on
  event opened floor at h =
      same_onward (rises 15 floor at (omega arith) (λ z. omega arith)) (λ p second e.
      same_if _ (get_or opened p false)
      (λ o. same_onward (number largest_phase second (omega (arith, e.0))) (λ v next f. fine (omega (arith, e.0, f.0))))
      (λ o. none {n = not_open} (omega (arith, e.0, e.1))))

  state : (opened : List Bool) (at : ℕ) → 4 ≤ at → Enough (Past 5) (state_on s opened at)
  unfolding state_on blocked_at
  state opened at h =
      same_onward (plain at) (λ kind next e.
      same_if _ (eqb kind 0) (λ z. fine (omega (arith, e.0))) (λ z.
      same_if _ (eqb kind 1)
      (λ y. same_onward (event opened 0 next (omega (arith, e.0))) (λ v after f. fine f))
      (λ y. none {n = unknown} (omega (arith, e.0, e.1)))))

  entry : (opened : List Bool) (floor at : ℕ) → 3 ≤ at → Enough (Past 5) (entry_at s opened floor at)
  unfolding entry_at entry_on count_on
  entry opened floor at h =
      same_onward (rises 31 floor at (omega arith) (λ z. h)) (λ k second e.
      same_onward (state opened second (omega (arith, e.0))) (λ x third f.
      same_onward (number 16 third (omega arith)) (λ n next g. fine (omega (arith, g.0)))))

  members : (opened : List Bool) (t : Table) (e : Entry) (at : ℕ) → 5 ≤ at → Enough (Past 3) (members_at s opened t e at)
  unfolding members_at each member_step
  members opened t e at h =
      let k = e.number.0 in
      same_onward {P = Past 5}
      (same_onward
      (same_times (λ j. Past 5) (member_step s opened k) (member_step s opened k)
      (λ j r mid l. same_onward (event opened r.floor mid l) (λ m next f. fine f))
      e.count (rising 0 (with_state t k e.state)) at h)
      (λ r next l. fine l))
      (λ u next l. fine (omega arith))

  tasks : (h : Head) (at : ℕ) → 3 ≤ at → Enough (Past 3) (tasks_at s h at)
  unfolding tasks_at each task_step
  tasks h at l =
      same_onward
      (same_times (λ j. Past 3) (task_step s h.opened) (task_step s h.opened)
      (λ j r mid l. same_onward (entry h.opened r.floor mid l) (members h.opened r.sofar))
      h.count (rising 0 (no_tasks h.opened)) at l)
      (λ r next l. fine l)

  -- only after the first number of the list may one not rise
  abbrev Opening : Rising (List Bool) → ℕ → Type 0
  Opening r at = (2 ≤ at) × (0 < r.floor → 3 ≤ at)

  opens : (at : ℕ) → 1 ≤ at → Enough (Past 2) (opens_at s at)
  unfolding opens_at each open_step
  opens at h =
      same_onward (number 16 at h) (λ m first e.
      same_onward
      (same_times (λ j. Opening) (open_step s) (open_step s)
      (λ j r mid l. same_onward (rises 15 r.floor mid (omega (arith, l.0)) l.1) (λ p next v.
      fine (omega (arith, l.0, v.0), λ z. omega (arith, l.0, v.0))))
      m (rising 0 (replicate 16 false)) first (omega (arith, e.0), λ z. absurd (omega arith)))
      (λ r next l. fine l.0))

  head : Enough (λ h at. (3 ≤ at) × (3 ≤ length s)) (head_at s)
  unfolding head_at lists_at count_at
  head =
      same_onward (plain 0) (λ version first e.
      same_if _ (eqb version 1)
      (λ z. same_onward (opens first e.0) (λ o second f.
      same_onward (number 32 second (omega arith)) (λ m next g. fine (omega (arith, g.0), omega (arith, g.0, g.1)))))
      (λ z. none {n = unknown} (omega (arith, e.0, e.1))))

  pub enough : Enough (λ t at. 3 ≤ length s) (table_at s)
  unfolding table_at entries_at
  enough =
      same_onward head (λ h first e.
      same_onward (tasks h first e.0) (λ t at f.
      same_if _ (ltb at (length s)) (λ y. none {n = bytes_after} (omega (arith, ltb-true at (length s) y))) (λ y. fine e.1)))
