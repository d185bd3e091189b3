-- Counting and gathering; and a rising list that is read in part.
use Prim.Native.Nat.{ℕ, zero, suc, ◌+◌, ◌≤◌, ◌<◌}
use mathlib.Core.Path.{◌≡◌, refl, sym, ◌∙◌}
use mathlib.Core.List.{List, ◌++◌, append_assoc, append-nil}
use mathlib.Core.Bool.{Bool, cond, true, false}
use native.Mathlib.Numerals.{add-one}
use native.Mathlib.Omega.{arith}
use lib.ListN.{take}
use lib.Dec.{leb}
use borrow.Author.Tests.{leb-true, leb-false}
use Rattle.fields.specs.Number.{number_bytes}
use Rattle.sheet.specs.Written.{count, gather, listed}

pub count_le : (f : ℕ → Bool) (n : ℕ) → count f n ≤ n
count_le f zero = omega arith
count_le f (suc n) = go (f n) (count_le f n)
  where
    go : (b : Bool) → count f n ≤ n → cond b (count f n + 1) (count f n) ≤ suc n
    go true h = omega arith
    go false h = omega arith

-- lists of the same
module _ (f f' : ℕ → Bool) where
  pub count_same : (n : ℕ) → ((i : ℕ) → i < n → f i ≡ f' i) → count f n ≡ count f' n
  count_same zero e = refl
  count_same (suc n) e = rw (e n (omega arith), count_same n (λ i h. e i (omega arith)))

  gather_same : (g g' : ℕ → List ℕ) (n : ℕ) → ((i : ℕ) → i < n → f i ≡ f' i) → ((i : ℕ) → i < n → f i ≡ true → g i ≡ g' i) → gather f g n ≡ gather f' g' n
  gather_same g g' zero e d = refl
  gather_same g g' (suc n) e d = go (f n) refl (gather_same g g' n (λ i h. e i (omega arith)) (λ i h. d i (omega arith)))
    where
      go : (b : Bool) → f n ≡ b → gather f g n ≡ gather f' g' n → gather f g (suc n) ≡ gather f' g' (suc n)
      go true x y = rw (← e n (omega arith), x, y, d n (omega arith) x)
      go false x y = rw (← e n (omega arith), x, y)

  pub listed_same : (g g' : ℕ → List ℕ) (n : ℕ) → ((i : ℕ) → i < n → f i ≡ f' i) → ((i : ℕ) → i < n → f i ≡ true → g i ≡ g' i) → listed f g n ≡ listed f' g' n
  unfolding listed
  listed_same g g' n e d = rw (count_same n e, gather_same g g' n e d)

-- where none is there from a to b, the list up to b is the list up to a
module _ (f : ℕ → Bool) (g : ℕ → List ℕ) (a : ℕ) where
  skipped : (b : ℕ) → a ≤ b → ((i : ℕ) → a ≤ i → i < b → f i ≡ false) → (count f b ≡ count f a) × (gather f g b ≡ gather f g a)
  skipped zero h e = let z : a ≡ 0 = omega arith in rw z (refl, refl)
  skipped (suc b) h e = go (leb a b) refl (skipped b)
    where
      go : (c : Bool) → leb a b ≡ c
          → (a ≤ b → ((i : ℕ) → a ≤ i → i < b → f i ≡ false) → (count f b ≡ count f a) × (gather f g b ≡ gather f g a))
          → (count f (suc b) ≡ count f a) × (gather f g (suc b) ≡ gather f g a)
      go true l ih = rw (e b (leb-true a b l) (omega arith)) (ih (leb-true a b l) (λ i x y. e i x (omega arith)))
      go false l ih = let z : a ≡ suc b = omega (arith, leb-false a b l) in rw z (refl, refl)

-- a rising list up to N, n long, of which `left` are still to be read, after the bytes w
pub record Part (s w : List ℕ) (n : ℕ) (f : ℕ → Bool) (g : ℕ → List ℕ) (N left floor at : ℕ) : Type 0 where
  pub bytes : take at s ≡ w ++ gather f g floor
  pub high : floor ≤ N
  pub none : (i : ℕ) → floor ≤ i → i < N → f i ≡ false
  pub counted : count f floor + left ≡ n

pub part_start : (s : List ℕ) (n : ℕ) (f : ℕ → Bool) (g : ℕ → List ℕ) (N at : ℕ) → ((i : ℕ) → f i ≡ false) → Part s (take at s) n f g N n 0 at
part_start s n f g N at e = record { bytes = sym (append-nil _); high = omega arith; none = λ i x y. e i; counted = omega arith }

-- one more, of number p
pub part_step : (s w : List ℕ) (n : ℕ) (f f' : ℕ → Bool) (g g' : ℕ → List ℕ) (N left floor at next p : ℕ)
    → Part s w n f g N (suc left) floor at → floor ≤ p → p < N
    → ((i : ℕ) → ¬ (i ≡ p) → f' i ≡ f i) → f' p ≡ true → ((i : ℕ) → ¬ (i ≡ p) → i < N → g' i ≡ g i)
    → take next s ≡ take at s ++ g' p
    → Part s w n f' g' N left (p + 1) next
part_step s w n f f' g g' N left floor at next p h l hp fs fp gs b =
    let k = skipped f g floor p l (λ i x y. h.none i x (omega arith)) in
    let c : gather f' g' p ≡ gather f g floor = gather_same f' f g' g p (λ i x. fs i (omega arith)) (λ i x y. gs i (omega arith) (omega arith)) ∙ k.1 in
    let d : count f' p ≡ count f floor = count_same f' f p (λ i x. fs i (omega arith)) ∙ k.0 in
    let x : count f' (p + 1) ≡ count f floor + 1 = rw (add-one p, fp, d) in
    record {
      bytes = b ∙ rw (h.bytes, add-one p, fp, c, append_assoc);
      high = omega arith;
      none = λ i x y. fs i (omega arith) ∙ h.none i (omega arith) y;
      counted = omega (arith, x, h.counted);
    }

-- all are read
pub part_done : (s w : List ℕ) (n : ℕ) (f : ℕ → Bool) (g : ℕ → List ℕ) (N floor at : ℕ)
    → Part s (w ++ number_bytes n) n f g N 0 floor at → take at s ≡ w ++ listed f g N
unfolding listed
part_done s w n f g N floor at h =
    let k = skipped f g floor N h.high h.none in
    let c : count f N ≡ n = k.0 ∙ omega (arith, h.counted) in
    h.bytes ∙ rw (c, k.1, append_assoc)
