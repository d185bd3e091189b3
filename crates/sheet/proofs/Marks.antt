-- Who is marked while the tasks are read: the blocked ones.
use Prim.Native.Nat.{ℕ, ◌<◌}
use mathlib.Core.Path.{◌≡◌, refl, sym, ap, ◌∙◌}
use mathlib.Core.Bool.{Bool, true, false, cond}
use mathlib.Core.List.{List}
use mathlib.Core.Logic.{◌↔◌, inl, inr, ⊎_elim}
use native.Mathlib.Decide.{dec_lt, ℕ_discrete}
use native.Mathlib.Omega.{arith}
use lib.Dec.{ltb}
use lib.ListN.{length, get_or, set, replicate}
use lib.Seq.{get_or-set_same, get_or-set_other}
use Rattle.sets.specs.Set.{Has}
use Rattle.sets.proofs.Members.{Marked, none_has}
use Rattle.states.specs.State.{free_task, is_blocked}
use Rattle.states.specs.declared.state.State.{State}
use Rattle.states.specs.declared.state.State.TheVariants.{Free}
use Rattle.states.specs.declared.state.Task.{Task}
use Rattle.states.proofs.Truth.{clash, holds, same_test}
use Rattle.hall.specs.Parts.{BlockedSet}
use Rattle.hall.specs.Table.{state_at, fresh_table}
use Rattle.hall.specs.declared.table.Table.{Table}
use Rattle.hall.proofs.Soundness.{get_d_all}
use Rattle.hall.proofs.Places.{state_in, state_out}

-- nobody is blocked where all tasks are free
pub nobody_blocked : (t : Table) → t.tasks ≡ replicate 32 free_task → BlockedSet t 0
nobody_blocked t e = record { iff = λ k. (λ h. absurd (none_has k h), λ b. absurd (clash b (ap is_blocked (free k (dec_lt k 32))))) }
  where
    free : (k : ℕ) → Dec (k < 32) → state_at t k ≡ Free
    free k (yes l) =
        state_in t k l ∙ ap (λ (tasks : List Task). (get_or tasks k free_task).state) e ∙ ap (λ (x : Task). x.state) (get_d_all 32 k free_task)
    free k (no l) = state_out t k (omega arith)

pub nobody_fresh : (t : Table) → t ≡ fresh_table → BlockedSet t 0
unfolding fresh_table
nobody_fresh t e = nobody_blocked t (ap (λ (u : Table). u.tasks) e)

-- a task whose state is written is marked as that state is, and the others stay as they were
module _ (t u : Table) (k : ℕ) (s : State) (l : k < 32) (n : length t.tasks ≡ 32) (wrote : u.tasks ≡ set t.tasks k (record { state = s })) where
  written : state_at u k ≡ s
  written =
      state_in u k l ∙ ap (λ (tasks : List Task). (get_or tasks k free_task).state) wrote
      ∙ ap (λ (x : Task). x.state) (get_or-set_same t.tasks k (record { state = s }) free_task (omega arith))

  other : (j : ℕ) → ¬ (j ≡ k) → state_at u j ≡ state_at t j
  unfolding state_at
  other j d =
      ap (λ (x : Task). cond (ltb j 32) x.state Free)
      (ap (λ (tasks : List Task). get_or tasks j free_task) wrote ∙ get_or-set_other t.tasks k j (record { state = s }) free_task d)

  pub mark_one : (m before at r : ℕ) (inside : Bool) → before ≡ m → at ≡ k → (is_blocked s ≡ true → inside ≡ true)
      → (is_blocked s ≡ false → inside ≡ false) → Marked before at inside r → BlockedSet t m → BlockedSet u r
  mark_one m before at r inside f e y x marked b = record { iff = λ j. go j (ℕ_discrete j k) }
    where
      here : inside ≡ is_blocked (state_at u k)
      here = same_test _ _ (λ i. ap is_blocked written ∙ holds _ (λ f. clash i (x f))) (λ i. y (ap is_blocked (sym written) ∙ i))

      told : Marked m k inside r
      told = rw (f, e) at marked

      go : (j : ℕ) → Dec (j ≡ k) → Has r j ↔ (is_blocked (state_at u j) ≡ true)
      go j (yes q) = rw q (
        λ h. ⊎_elim (λ p. sym here ∙ p.2) (λ p. absurd (p.1 refl)) ((told k).0 h),
        λ i. (told k).1 (inl (l, refl, here ∙ i)),
      )
      go j (no d) =
          let same = ap is_blocked (other j d) in (
            λ h. ⊎_elim (λ p. absurd (d p.1)) (λ p. same ∙ (b.iff j).0 p.0) ((told j).0 h),
            λ i. (told j).1 (inr ((b.iff j).1 (sym same ∙ i), d)),
          )
