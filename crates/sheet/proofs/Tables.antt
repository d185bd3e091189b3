-- What a table says while a task's entry is read into it, and that it stays sound; and the table with no task.
use Prim.Native.Nat.{ℕ, ◌≤◌, ◌<◌}
use mathlib.Core.Path.{◌≡◌, refl, ap, ◌∙◌}
use mathlib.Core.List.{List}
use mathlib.Core.Logic.{⊎_elim}
use mathlib.Core.Bool.{Bool, true, false}
use lib.ListN.{length}
use borrow.Author.Tests.{le-leb}
use Rattle.states.specs.State.{largest_phase, is_live}
use Rattle.hall.specs.Table.{state_at, open_at, member_at, phase_at, joined, fresh_table, Shaped}
use Rattle.hall.specs.Effects.{with_state, with_entry}
use Rattle.hall.specs.Sound.{Sound}
use Rattle.states.specs.declared.state.State.{State}
use Rattle.hall.specs.declared.table.Table.{Table}
use Rattle.states.proofs.Truth.{clash, decide}
use Rattle.hall.proofs.Written.{entry_at, same_member, same_phase, Reads, reads_itself, put_here, put_other, put_at_other, state_shaped}
use Rattle.hall.proofs.Written.{state_reads, entry_shaped, entry_reads}
use Rattle.states.specs.Parts.{state_sound}
use Rattle.hall.proofs.Soundness.{FineTable, sound_fine, fine_sound, sound_iff, fresh_shaped, nothing, fresh_reads, reads_fine, stated_fine}
use Rattle.hall.proofs.Soundness.{entered_fine}
use Rattle.sheet.specs.Reader.{no_tasks}
use Rattle.sheet.specs.Written.{member_bytes, task_bytes}
use Rattle.sheet.proofs.Gather.{listed_same}

-- ---- a task that stays as it was
same_bytes : (t u : Table) (i : ℕ) → state_at u i ≡ state_at t i → ((p : ℕ) → entry_at u i p ≡ entry_at t i p) → task_bytes u i ≡ task_bytes t i
same_bytes t u i e same =
    rw (
      e,
      listed_same (member_at u i) (member_at t i) (member_bytes u i) (member_bytes t i) 16 (λ p l. same_member (same p))
          (λ p l x. rw (same_phase (same p))),
    )

-- ---- soundness
meaning : (t : Table) → FineTable t → Sound t
meaning t f = (sound_iff t).0 (fine_sound t f)

-- a task that is not live is no member
pub absent : (t : Table) → Sound t → (k : ℕ) → is_live (state_at t k) ≡ false → (p : ℕ) → member_at t k p ≡ false
absent t h k l p = ⊎_elim (λ (m : member_at t k p ≡ true). absurd (clash (h.live k p m) l)) (λ m. m) (decide (member_at t k p))

same_open : (t u : Table) → u.opened ≡ t.opened → (p : ℕ) → open_at u p ≡ open_at t p
unfolding open_at
same_open t u e p = rw e

-- u is t with task k in state x, and with memberships of task k
pub record Grown (k : ℕ) (x : State) (t u : Table) : Type 0 where
  pub sound : Sound u
  pub shaped : Shaped u
  pub opens : u.opened ≡ t.opened
  pub state : state_at u k ≡ x
  pub states : (i : ℕ) → ¬ (i ≡ k) → state_at u i ≡ state_at t i
  pub others : (i : ℕ) → ¬ (i ≡ k) → task_bytes u i ≡ task_bytes t i

module _ (k : ℕ) (x : State) (t : Table) (low : k < 32) where
  pub grown_start : Sound t → Shaped t → is_live x ≡ true → state_sound (open_at t) x ≡ true → Grown k x t (with_state t k x)
  unfolding with_state
  grown_start h z l a =
      let u = with_state t k x in
      let r = state_reads z (reads_itself t) k x low in
      let states : (i : ℕ) → ¬ (i ≡ k) → state_at u i ≡ state_at t i = λ i d. r.states i ∙ put_other (state_at t) k x i d in
      record {
        sound = meaning u (reads_fine r (stated_fine (sound_fine t ((sound_iff t).1 h)) k x (λ p m. l) a));
        shaped = state_shaped t z k x;
        opens = refl;
        state = r.states k ∙ put_here (state_at t) k x;
        states = states;
        others = λ i d. same_bytes t u i (states i d) (r.entries i);
      }

  pub grown_more : (u : Table) → Grown k x t u → is_live x ≡ true → (p n : ℕ) → p < 16 → open_at t p ≡ true → n ≤ largest_phase
      → Grown k x t (with_entry u k p (joined n))
  unfolding with_entry
  grown_more u g l p n hp o m =
      let v = with_entry u k p (joined n) in
      let r = entry_reads g.shaped (reads_itself u) k p (joined n) low hp in
      record {
        sound = meaning v (reads_fine r
            (entered_fine (sound_fine u ((sound_iff u).1 g.sound)) k p (joined n)
            (simp (ap is_live g.state ∙ l, same_open t u g.opens p ∙ o, le-leb n largest_phase m))));
        shaped = entry_shaped u g.shaped k p (joined n);
        opens = g.opens;
        state = r.states k ∙ g.state;
        states = λ i d. r.states i ∙ g.states i d;
        others = λ i d.
            same_bytes u v i (r.states i) (λ q. r.entries i q ∙ put_at_other (entry_at u) k p (joined n) i q (λ x. d x.0))
            ∙ g.others i d;
      }

-- ---- no task yet
module _ (o : List Bool) where
  pub none_reads : Reads (no_tasks o) (record { state = nothing.state; opened = open_at (no_tasks o); entry = nothing.entry })
  unfolding fresh_table state_at member_at phase_at
  none_reads = record { states = fresh_reads.states; opens = λ p. refl; entries = fresh_reads.entries }

  pub none_sound : Sound (no_tasks o)
  none_sound = meaning (no_tasks o) (reads_fine none_reads (record { entries = λ k p. refl; awaits = λ k. refl }))

  pub none_shaped : length o ≡ 16 → Shaped (no_tasks o)
  unfolding fresh_table
  none_shaped h = record { tasks = fresh_shaped.tasks; opened = h; phases = fresh_shaped.phases; members = fresh_shaped.members }
