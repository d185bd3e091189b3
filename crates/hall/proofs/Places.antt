-- Where a table's arrays hold what it says: the place of an entry is task times sixteen plus phaser.
use mathlib.Core.Path.{◌≡◌, refl, ap, sym}
use mathlib.Core.Bool.{Bool, true, false, ◌&&◌, not, cond, and-false, true≢false}
use Prim.Native.Nat.{ℕ, ◌+◌, ◌*◌, ◌/◌, ◌%◌, ◌<◌, ◌≤◌}
use native.Mathlib.Omega.{arith}
use lib.Dec.{ltb}
use lib.ListN.{get_or}
use borrow.Author.Tests.{lt-ltb, le-ltb, ltb-true}
use Rattle.states.specs.Parts.{entry_sound, open_in, state_sound}
use Rattle.states.specs.State.{free_task, phase0, is_live}
use Rattle.states.specs.Waiting.{waits_at}
use Rattle.hall.specs.Table.{state_at, open_at, member_at, phase_at}
use Rattle.states.specs.declared.state.State.TheVariants.{Free}
use Rattle.hall.specs.declared.table.Table.{Table}
use Rattle.states.proofs.Truth.{and_left}

module _ (t : Table) where
  pub state_in : (k : ℕ) → k < 32 → state_at t k ≡ (get_or t.tasks k free_task).state
  unfolding state_at
  state_in k h = simp (lt-ltb k 32 h)

  pub state_out : (k : ℕ) → 32 ≤ k → state_at t k ≡ Free
  unfolding state_at
  state_out k h = simp (le-ltb k 32 h)

  pub open_in_lem : (p : ℕ) → p < 16 → open_at t p ≡ get_or t.opened p false
  unfolding open_at
  open_in_lem p h = simp (lt-ltb p 16 h)

  pub member_in : (k p : ℕ) → k < 32 → p < 16 → member_at t k p ≡ get_or t.members (k * 16 + p) false
  unfolding member_at
  member_in k p h g = simp (lt-ltb k 32 h, lt-ltb p 16 g)

  pub member_out : (k p : ℕ) → 16 ≤ p → member_at t k p ≡ false
  unfolding member_at
  member_out k p g = simp (le-ltb p 16 g, and-false)

  pub phase_in_lem : (k p : ℕ) → k < 32 → p < 16 → phase_at t k p ≡ (get_or t.phases (k * 16 + p) phase0).0
  unfolding phase_at
  phase_in_lem k p h g = simp (lt-ltb k 32 h, lt-ltb p 16 g)

  -- a task that is live, a phaser that is open, has a number in range
  pub live_below : (k : ℕ) → is_live (state_at t k) ≡ true → k < 32
  unfolding state_at
  live_below k e = go (ltb k 32) refl e
    where
      go : (b : Bool) → ltb k 32 ≡ b → is_live (cond b (get_or t.tasks k free_task).state Free) ≡ true → k < 32
      go true q h = ltb-true k 32 q
      go false q h = absurd (true≢false (sym h))

  pub open_below : (p : ℕ) → open_at t p ≡ true → p < 16
  unfolding open_at
  open_below p e = ltb-true p 16 (and_left (ltb p 16) (get_or t.opened p false) e)

  -- the tests of an entry at its place, and of a state, as the code reads them
  abbrev pub entry_test : ℕ → Bool
  entry_test i = entry_sound (member_at t (i / 16) (i % 16)) (state_at t (i / 16)) (open_at t (i % 16)) (phase_at t (i / 16) (i % 16))

  pub entry_read : (k p : ℕ) → k < 32 → p < 16 → entry_test (k * 16 + p)
      ≡ entry_sound (get_or t.members (k * 16 + p) false) (get_or t.tasks k free_task).state (get_or t.opened p false)
      (get_or t.phases (k * 16 + p) phase0).0
  entry_read k p h g =
      let task : (k * 16 + p) / 16 ≡ k = omega arith in
      let phaser : (k * 16 + p) % 16 ≡ p = omega arith in
      rw (task, phaser) (cc (member_in k p h g, phase_in_lem k p h g, state_in k h, open_in_lem p g))

  abbrev pub state_test : ℕ → Bool
  state_test k = state_sound (open_at t) (state_at t k)

  pub state_read : (k : ℕ) → k < 32 → state_test k ≡ state_sound (open_in t.opened) (get_or t.tasks k free_task).state
  unfolding open_at
  state_read k h = ap (state_sound (open_in t.opened)) (state_in k h)

  -- that task k is no member of phaser p, and doesn't wait at it
  abbrev pub unused_test : ℕ → ℕ → Bool
  unused_test p k = not (member_at t k p) && not (waits_at (state_at t k) p)

  pub unused_read : (p k : ℕ) → p < 16 → k < 32
      → unused_test p k ≡ not (get_or t.members (k * 16 + p) false) && not (waits_at (get_or t.tasks k free_task).state p)
  unused_read p k g h = simp (member_in k p h g, state_in k h)
