-- Laws of searches below a bound, and of what is read in a list after writes.
use mathlib.Core.Path.{◌≡◌, refl, ap, sym, ◌∙◌}
use mathlib.Core.Logic.{◌⊎◌, inl, inr, ⊎_elim}
use mathlib.Core.Bool.{Bool, true, false, ◌&&◌, cond}
use mathlib.Core.List.{List, []}
use Prim.Native.Nat.{ℕ, zero, suc, ◌+◌, ◌<◌, ◌≤◌}
use native.Mathlib.Decide.{ℕ_discrete}
use native.Mathlib.Nat.{eq-or-lt_of_le, le_of_suc-le-suc}
use native.Mathlib.Omega.{arith}
use lib.Dec.{eqb, ltb}
use lib.ListN.{get_or, set, length, length-set}
use lib.Seq.{get_or-set_same, get_or-set_other}
use borrow.Author.Tests.{eqb-true, eqb-false, ltb-true, ltb-false}
use Rattle.std.proofs.Common.{Option, Some, None, MatchOption, replicate, add-one}
use Rattle.std.proofs.Math.Seq.{paste}
use Rattle.std.proofs.lemmas.List.{length-replicate}
use Rattle.std.proofs.lemmas.List.Edits.{paste_none, fill_from_more}
use Rattle.std.proofs.lemmas.Slice.{put_mid-paste}
use borrow.Rule.Slice.PartMut.{put_mid}
use Rattle.std.specs.List.{AllWithin, HoldsAt}
use Rattle.hall.specs.Effects.{filled}
use Rattle.hall.specs.Every.{every, lowest_from}
use Rattle.states.proofs.Truth.{clash}

-- ---- tests below a bound
-- what fails of all fails of one
pub every_find : (f : ℕ → Bool) (n : ℕ) → every f n ≡ false → (k : ℕ) × (k < n) × (f k ≡ false)
unfolding every
every_find f zero e = absurd (clash refl e)
every_find f (suc n) e = go (every f n) (f n) refl refl e (every_find f n)
  where
    go : (a b : Bool) → every f n ≡ a → f n ≡ b → a && b ≡ false → (every f n ≡ false → (k : ℕ) × (k < n) × (f k ≡ false))
        → (k : ℕ) × (k < suc n) × (f k ≡ false)
    go false b p q e rec = let r = rec p in (r.0, omega arith, r.2)
    go true true p q e rec = absurd (clash refl e)
    go true false p q e rec = (n, omega arith, q)

-- the test holds at the number where the search stops
pub lowest_holds : (f : ℕ → Bool) (k n : ℕ) → lowest_from f k n < k + n → f (lowest_from f k n) ≡ true
unfolding lowest_from
lowest_holds f k zero h = absurd (omega arith)
lowest_holds f k (suc n) h = go (f k) refl h (lowest_holds f (k + 1) n)
  where
    go : (b : Bool) → f k ≡ b → cond b k (lowest_from f (k + 1) n) < k + suc n
        → (lowest_from f (k + 1) n < k + 1 + n → f (lowest_from f (k + 1) n) ≡ true) → f (cond b k (lowest_from f (k + 1) n)) ≡ true
    go true e h rec = e
    go false e h rec = rec (omega arith)

-- and fails at those before it
pub lowest_lower : (f : ℕ → Bool) (k n q : ℕ) → k ≤ q → q < lowest_from f k n → f q ≡ false
unfolding lowest_from
lowest_lower f k zero q h l = absurd (omega arith)
lowest_lower f k (suc n) q h l = go (f k) refl l (lowest_lower f (k + 1) n q)
  where
    go : (b : Bool) → f k ≡ b → q < cond b k (lowest_from f (k + 1) n) → (k + 1 ≤ q → q < lowest_from f (k + 1) n → f q ≡ false) → f q ≡ false
    go true e l rec = absurd (omega arith)
    go false e l rec = at (ℕ_discrete q k)
      where
        at : Dec (q ≡ k) → f q ≡ false
        at (yes r) = ap f r ∙ e
        at (no r) = rec (omega arith) l

-- so a number at which it holds, and fails before, is where the search stops
pub lowest_is : (f : ℕ → Bool) (n q : ℕ) → q < n → f q ≡ true → ((r : ℕ) → r < q → f r ≡ false) → lowest_from f 0 n ≡ q
lowest_is f n q h e lower = go (lowest_from f 0 n) refl (ltb (lowest_from f 0 n) q) (ltb q (lowest_from f 0 n)) refl refl
  where
    go : (m : ℕ) → lowest_from f 0 n ≡ m → (b c : Bool) → ltb m q ≡ b → ltb q m ≡ c → m ≡ q
    go m i true c x y =
        let l = ltb-true m q x in
        absurd (clash (ap f (sym i) ∙ lowest_holds f 0 n (omega (arith, i))) (lower m l))
    go m i false true x y = let l = ltb-true q m y in absurd (clash e (lowest_lower f 0 n q (omega arith) (omega (arith, i))))
    go m i false false x y = let l = ltb-false m q x in let r = ltb-false q m y in omega arith

-- and what `position` finds in a list is where the search stops
pub lowest_first : {A : Type 0} (test : ℕ → Bool) (p : A → Bool) (xs : List A) (d : A) (n : ℕ) → length xs ≡ n
    → ((j : ℕ) → j < n → test j ≡ p (get_or xs j d)) → (r : Option ℕ)
    → MatchOption r (AllWithin (λ x. p x ≡ false) xs 0 (length xs))
    (λ i. (i < length xs) × HoldsAt (λ x. p x ≡ true) xs i × AllWithin (λ x. p x ≡ false) xs 0 i)
    → MatchOption r (n ≤ lowest_from test 0 n) (λ i. (i < n) × (i ≡ lowest_from test 0 n))
lowest_first test p xs d n l h None none_is = go (ltb (lowest_from test 0 n) n) refl
  where
    go : (b : Bool) → ltb (lowest_from test 0 n) n ≡ b → n ≤ lowest_from test 0 n
    go true q =
        let m = ltb-true (lowest_from test 0 n) n q in
        absurd (clash (lowest_holds test 0 n (omega arith)) (h (lowest_from test 0 n) m ∙ none_is (lowest_from test 0 n) d (omega arith) (omega arith)))
    go false q = ltb-false (lowest_from test 0 n) n q
lowest_first test p xs d n l h (Some i) (below, here, before) =
    let k : i < n = omega arith in (
      k,
      sym (lowest_is test n i k (h i k ∙ here d) (λ r g. h r (omega arith) ∙ before r d (omega arith) g)),
    )

-- ---- what is read after writes
module _ {A : Type 0} (l : List A) where
  -- after one: the new element at its own place, else the old one
  pub read_set : (i : ℕ) (v : A) (k : ℕ) (d : A) → i < length l → get_or (set l i v) k d ≡ cond (eqb k i) v (get_or l k d)
  read_set i v k d h = go (eqb k i) refl
    where
      go : (b : Bool) → eqb k i ≡ b → get_or (set l i v) k d ≡ cond b v (get_or l k d)
      go true e = rw (eqb-true k i e) (get_or-set_same l i v d h)
      go false e = get_or-set_other l i k v d (eqb-false k i e)

  pub length_filled : (b n : ℕ) (v : A) → length (filled l b n v) ≡ length l
  unfolding filled
  length_filled b zero v = refl
  length_filled b (suc n) v = length-set (filled l b n v) (b + n) v ∙ length_filled b n v

  -- after a part is filled: outside of it the old elements
  pub filled_out : (b n : ℕ) (v : A) (k : ℕ) (d : A) → (k < b) ⊎ (b + n ≤ k) → get_or (filled l b n v) k d ≡ get_or l k d
  unfolding filled
  filled_out b zero v k d h = refl
  filled_out b (suc n) v k d h =
      get_or-set_other (filled l b n v) (b + n) k v d
      (λ e. ⊎_elim (λ (q : k < b). omega (arith, e)) (λ (q : b + suc n ≤ k). omega (arith, e)) h)
      ∙ filled_out b n v k d (⊎_elim (λ (q : k < b). inl q) (λ (q : b + suc n ≤ k). inr (omega arith)) h)

  -- within it the new one
  pub filled_in : (b n : ℕ) (v : A) (k : ℕ) (d : A) → k < n → b + n ≤ length l → get_or (filled l b n v) (b + k) d ≡ v
  unfolding filled
  filled_in b zero v k d h g = absurd (omega arith)
  filled_in b (suc n) v k d h g =
      ⊎_elim (λ (q : k ≡ n). rw q (get_or-set_same (filled l b n v) (b + n) v d (omega (arith, length_filled b n v))))
      (λ (q : k < n).
      get_or-set_other (filled l b n v) (b + n) (b + k) v d (λ e. omega (arith, e)) ∙ filled_in b n v k d q (omega arith))
      (eq-or-lt_of_le (le_of_suc-le-suc h))

  -- a part that is written over with copies of it
  paste_filled : (b n : ℕ) (v : A) → b + n ≤ length l → paste l b (replicate n v) n ≡ filled l b n v
  unfolding filled
  paste_filled b zero v h = sym (paste_none l b [])
  paste_filled b (suc n) v h =
      sym (rw add-one at (fill_from_more l b n v (omega arith))) ∙ ap (λ (x : List A). set x (b + n) v) (paste_filled b n v (omega arith))

  pub part_filled : (b k n : ℕ) (v : A) (part : List A) → part ≡ replicate n v → n ≡ k → b + n ≤ length l
      → put_mid b k l part ≡ filled l b n v
  part_filled b k n v part e q h = put_mid-paste b k l part (replicate n v) n e q (sym (length-replicate n v)) ∙ paste_filled b n v h
