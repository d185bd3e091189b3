-- Laws of how the code goes round (specs/Parts.antt).
use mathlib.Core.Path.{◌≡◌, refl, ap, ◌∙◌}
use mathlib.Core.Logic.{◌⊎◌, inl, inr}
use mathlib.Core.List.{List, [], ◌∷◌}
use Prim.Native.Nat.{ℕ, zero, suc, ◌+◌, ◌-◌, ◌^◌, ◌≤◌, ◌<◌, min}
use native.Mathlib.Decide.{dec_lt}
use native.Mathlib.Omega.{arith}
use lib.ListN.{length, get_or}
use borrow.Author.Tests.{lt-ltb, le-ltb, eq-eqb, ne_eqb}
use Rattle.sets.specs.Set.{bit, Has}
use Rattle.sets.proofs.Members.{has_dec, has_lt}
use Rattle.deadlock.specs.Ring.{Step, Next}
use Rattle.deadlock.specs.Parts.{step_of, go_of, low_of, once_of}

module _ (next : List ℕ) (m : ℕ) where
  -- ---- one step
  pub step_in : (t : ℕ) → t < 32 → Has m (get_or next t 0) → step_of next m t ≡ get_or next t 0
  unfolding step_of
  step_in t l h = rw (lt-ltb t 32 l, eq-eqb (bit m (get_or next t 0)) 1 h) refl

  pub step_out : (t : ℕ) → (Has m (get_or next t 0) → ⊥) → step_of next m t ≡ 32
  unfolding step_of
  step_out t n = go (dec_lt t 32)
    where
      go : Dec (t < 32) → step_of next m t ≡ 32
      go (yes l) = rw (lt-ltb t 32 l, ne_eqb (bit m (get_or next t 0)) 1 n) refl
      go (no l) = rw (le-ltb t 32 (omega arith)) refl

  pub step_off : (t : ℕ) → 32 ≤ t → step_of next m t ≡ 32
  unfolding step_of
  step_off t l = rw (le-ltb t 32 l) refl

  -- a step that comes to a task is a step of the ring walk
  pub step_is : (t : ℕ) → step_of next m t < 32 → Step (Has m) (Next next) t (step_of next m t)
  step_is t h = go (dec_lt t 32) (has_dec m (get_or next t 0))
    where
      go : Dec (t < 32) → Dec (Has m (get_or next t 0)) → Step (Has m) (Next next) t (step_of next m t)
      go (no l) d = let z = step_off t (omega arith) in absurd (omega arith)
      go (yes l) (no n) = let z = step_out t n in absurd (omega arith)
      go (yes l) (yes i) =
          let e = step_in t l i in
          rw e (record { holds = (i, (l, refl)); lowest = λ v q. let z = q.1.1 in omega arith })

  pub step_le : (t : ℕ) → m < 2 ^ 32 → step_of next m t ≤ 32
  step_le t f = go (dec_lt t 32) (has_dec m (get_or next t 0))
    where
      go : Dec (t < 32) → Dec (Has m (get_or next t 0)) → step_of next m t ≤ 32
      go (no l) d = let z = step_off t (omega arith) in omega arith
      go (yes l) (no n) = let z = step_out t n in omega arith
      go (yes l) (yes i) = let z = step_in t l i in let y = has_lt 32 m (get_or next t 0) f i in omega arith

  -- ---- so many steps
  pub go_add : (t i k : ℕ) → go_of next m t (i + k) ≡ go_of next m (go_of next m t i) k
  unfolding go_of
  go_add t zero k = ap (go_of next m t) (let z : 0 + k ≡ k = omega arith in z)
  go_add t (suc i) k = let z : suc i + k ≡ suc (i + k) = omega arith in rw z (go_add (step_of next m t) i k)

  pub go_suc : (t k : ℕ) → go_of next m t (suc k) ≡ step_of next m (go_of next m t k)
  unfolding go_of
  go_suc t zero = refl
  go_suc t (suc k) = go_suc (step_of next m t) k

  -- who is off stays off
  go_off : (t k : ℕ) → 32 ≤ t → 32 ≤ go_of next m t k
  unfolding go_of
  go_off t zero h = h
  go_off t (suc k) h = go_off (step_of next m t) k (let z = step_off t h in omega arith)

  pub go_before : (t i k : ℕ) → i ≤ k → go_of next m t k < 32 → go_of next m t i < 32
  go_before t i k l h = go (dec_lt (go_of next m t i) 32)
    where
      go : Dec (go_of next m t i < 32) → go_of next m t i < 32
      go (yes q) = q
      go (no q) =
          let z : i + (k - i) ≡ k = omega arith in
          let y = go_off (go_of next m t i) (k - i) (omega arith) in
          let x = go_add t i (k - i) in
          absurd (let v : 32 ≤ go_of next m t k = rw (← z, x) y in omega arith)

  -- ---- the lowest on the way
  pub low_le : (t low k : ℕ) → low_of next m t low k ≤ low
  unfolding low_of
  low_le t low zero = omega arith
  low_le t low (suc k) = let z = low_le (step_of next m t) (min (step_of next m t) low) k in omega arith

  pub low_all : (t low k i : ℕ) → 0 < i → i ≤ k → low_of next m t low k ≤ go_of next m t i
  unfolding low_of go_of
  low_all t low zero i p h = absurd (omega arith)
  low_all t low (suc k) zero p h = absurd (omega arith)
  low_all t low (suc k) (suc zero) p h = let z = low_le (step_of next m t) (min (step_of next m t) low) k in omega arith
  low_all t low (suc k) (suc (suc i)) p h = low_all (step_of next m t) (min (step_of next m t) low) k (suc i) (omega arith) (omega arith)

  pub low_is : (t low k : ℕ) → (low_of next m t low k ≡ low) ⊎ ((i : ℕ) × (low_of next m t low k ≡ go_of next m t i))
  unfolding low_of go_of
  low_is t low zero = inl refl
  low_is t low (suc k) = more (low_is (step_of next m t) (min (step_of next m t) low) k) (dec_lt (step_of next m t) low)
    where
      r : ℕ
      r = low_of next m (step_of next m t) (min (step_of next m t) low) k

      more : (r ≡ min (step_of next m t) low) ⊎ ((i : ℕ) × (r ≡ go_of next m (step_of next m t) i)) → Dec (step_of next m t < low)
          → (r ≡ low) ⊎ ((i : ℕ) × (r ≡ go_of next m t i))
      more (inr x) d = inr (suc x.0, x.1)
      more (inl e) (yes q) = inr (1, (let z : min (step_of next m t) low ≡ step_of next m t = omega arith in e ∙ z))
      more (inl e) (no q) = inl (let z : min (step_of next m t) low ≡ low = omega arith in e ∙ z)

  -- ---- once round: p steps, where p is the first number of steps after which the walk is at `low`
  pub once_is : (k t low p : ℕ) → 0 < p → p ≤ k → go_of next m t p ≡ low → ((i : ℕ) → 0 < i → i < p → go_of next m t i ≡ low → ⊥)
      → (length (once_of next m t low k) ≡ p) × ((i : ℕ) → i < p → get_or (once_of next m t low k) i 0 ≡ go_of next m t i)
  unfolding once_of go_of
  once_is zero t low p a b e f = absurd (omega arith)
  once_is (suc k) t low zero a b e f = absurd (omega arith)
  once_is (suc k) t low (suc zero) a b e f =
      let q : once_of next m t low (suc k) ≡ t ∷ [] = rw (eq-eqb (step_of next m t) low e) refl in
      (ap length q, λ i l. let z : i ≡ 0 = omega arith in rw z (ap (λ r. get_or r 0 0) q))
  once_is (suc k) t low (suc (suc p)) a b e f =
      let n = f 1 (omega arith) (omega arith) in
      let q : once_of next m t low (suc k) ≡ t ∷ once_of next m (step_of next m t) low k = rw (ne_eqb (step_of next m t) low n) refl in
      let r = once_is k (step_of next m t) low (suc p) (omega arith) (omega arith) e (λ i h l. f (suc i) (omega arith) (omega arith)) in
      (ap length q ∙ ap suc r.0, λ i l. ap (λ r. get_or r i 0) q ∙ at r.1 i l)
    where
      at : ((i : ℕ) → i < suc p → get_or (once_of next m (step_of next m t) low k) i 0 ≡ go_of next m (step_of next m t) i)
          → (i : ℕ) → i < suc (suc p) → get_or (t ∷ once_of next m (step_of next m t) low k) i 0 ≡ go_of next m t i
      at r zero l = refl
      at r (suc i) l = r i (omega arith)
