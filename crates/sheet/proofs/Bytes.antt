-- The sheet of a table is made of bytes.
use Prim.Native.Nat.{ℕ, zero, suc, ◌+◌, ◌/◌, ◌%◌, ◌<◌}
use mathlib.Core.Path.{◌≡◌, refl}
use mathlib.Core.List.{List, [], ◌∷◌, ◌++◌}
use mathlib.Core.Bool.{Bool, cond, true, false}
use native.Mathlib.Omega.{arith}
use lib.Dec.{ltb}
use borrow.Author.Tests.{ltb-true}
use Rattle.hall.specs.Table.{open_at, state_at, member_at}
use Rattle.states.specs.declared.state.State.{State}
use Rattle.states.specs.declared.state.State.TheVariants.{Free, Running, Blocked}
use Rattle.hall.specs.declared.table.Table.{Table}
use Rattle.fields.specs.Number.{groups_of, number_bytes}
use Rattle.sheet.specs.Written.{count, gather, listed, state_bytes, member_bytes, task_bytes, live_at, sheet_of}
use Rattle.sheet.proofs.Numbers.{Bytes}

-- as a record, so that its list is found
record Eight (l : List ℕ) : Type 0 where
  pub bytes : Bytes l

eight_none : Eight []
eight_none = record { bytes = λ i. omega arith }

eight_cons : (x : ℕ) (l : List ℕ) → x < 256 → Eight l → Eight (x ∷ l)
eight_cons x l h k = record { bytes = go }
  where
    go : Bytes (x ∷ l)
    go zero = h
    go (suc i) = k.bytes i

eight_append : (a b : List ℕ) → Eight a → Eight b → Eight (a ++ b)
eight_append [] b h k = k
eight_append (x ∷ a) b h k = eight_cons x (a ++ b) (h.bytes 0) (eight_append a b (record { bytes = λ i. h.bytes (suc i) }) k)

either : (b : Bool) {x y : List ℕ} → (b ≡ true → Eight x) → (b ≡ false → Eight y) → Eight (cond b x y)
either true p q = p refl
either false p q = q refl

eight_groups : (k n : ℕ) → Eight (groups_of k n)
eight_groups zero n = eight_none
eight_groups (suc k) n =
    either (ltb n 128)
    (λ e. eight_cons n [] (omega (arith, ltb-true n 128 e)) eight_none)
    (λ e. eight_cons (n % 128 + 128) _ (omega arith) (eight_groups k (n / 128)))

eight_number : (n : ℕ) → Eight (number_bytes n)
unfolding number_bytes
eight_number n = eight_groups 10 n

eight_gather : (f : ℕ → Bool) (g : ℕ → List ℕ) (n : ℕ) → ((i : ℕ) → Eight (g i)) → Eight (gather f g n)
eight_gather f g zero h = eight_none
eight_gather f g (suc n) h = either (f n) (λ e. eight_append _ _ (eight_gather f g n h) (h n)) (λ e. eight_gather f g n h)

eight_listed : (f : ℕ → Bool) (g : ℕ → List ℕ) (n : ℕ) → ((i : ℕ) → Eight (g i)) → Eight (listed f g n)
unfolding listed
eight_listed f g n h = eight_append _ _ (eight_number (count f n)) (eight_gather f g n h)

eight_state : (x : State) → Eight (state_bytes x)
eight_state Free = eight_none
eight_state Running = eight_number 0
eight_state (Blocked e) = eight_append _ _ (eight_number 1) (eight_append _ _ (eight_number e.phaser.0) (eight_number e.phase.0))

eight_task : (t : Table) (k : ℕ) → Eight (task_bytes t k)
eight_task t k =
    eight_append _ _ (eight_number k) (eight_append _ _ (eight_state (state_at t k))
    (eight_listed (member_at t k) (member_bytes t k) 16 (λ p. eight_append _ _ (eight_number p) (eight_number _))))

eight_sheet : (t : Table) → Eight (sheet_of t)
unfolding sheet_of
eight_sheet t =
    eight_append _ _ (eight_number 1)
    (eight_append _ _ (eight_listed (open_at t) number_bytes 16 eight_number) (eight_listed (live_at t) (task_bytes t) 32 (eight_task t)))

pub sheet_bytes : (t : Table) → Bytes (sheet_of t)
sheet_bytes t = (eight_sheet t).bytes
