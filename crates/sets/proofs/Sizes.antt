-- How many tasks a set has.
use mathlib.Core.Path.{◌≡◌, refl}
use Prim.Native.Nat.{ℕ, zero, suc, ◌+◌, ◌/◌, ◌%◌, ◌^◌, ◌≤◌, ◌<◌}
use native.Mathlib.Nat.{pow-suc}
use native.Mathlib.Decide.{ℕ_discrete}
use native.Mathlib.Omega.{arith}
use lib.Count.{ones, ones_step}
use Rattle.sets.specs.Set.{bit, Has, size}
use Rattle.sets.proofs.Bits.{bit_suc, bit_zero, bit_two}
use Rattle.sets.proofs.Members.{Within, Taken, bit_has}

size_front : (n m : ℕ) → size m (suc n) ≡ m % 2 + size (m / 2) n
unfolding size
size_front zero m = omega (arith, bit_zero m)
size_front (suc n) m = let r = size_front n m in omega (arith, bit_suc m n)

-- `count_ones` counts the members
pub ones_size : (n m : ℕ) → m < 2 ^ n → ones m ≡ size m n
unfolding size ones
ones_size zero m h = let z : m ≡ 0 = omega arith in rw z refl
ones_size (suc n) m h =
    let r = ones_size n (m / 2) (omega (arith, pow-suc 2 n)) in
    omega (arith, ones_step m, size_front n m)

pub size_le : (n m : ℕ) → size m n ≤ n
unfolding size
size_le zero m = omega arith
size_le (suc n) m = let r = size_le n m in let z = bit_two m n in omega arith

-- a part has no more members
pub size_within : (n a b : ℕ) → Within a b → size a n ≤ size b n
unfolding size
size_within zero a b w = omega arith
size_within (suc n) a b w = let r = size_within n a b w in let z = bit_has a b n (w n) in omega arith

pub size_full : (n m : ℕ) → ((k : ℕ) → k < n → Has m k) → size m n ≡ n
unfolding size
size_full zero m h = refl
size_full (suc n) m h = let r = size_full n m (λ k l. h k (omega arith)) in let z = h n (omega arith) in omega arith

pub size_pos : (n m k : ℕ) → k < n → Has m k → 0 < size m n
unfolding size
size_pos zero m k l h = absurd (omega arith)
size_pos (suc n) m k l h = go (ℕ_discrete k n) (size_pos n m k)
  where
    go : Dec (k ≡ n) → (k < n → Has m k → 0 < size m n) → 0 < size m n + bit m n
    go (yes e) f = let z : bit m n ≡ 1 = (rw e at h) in omega arith
    go (no e) f = let z = f (omega arith) h in omega arith

-- one taken out is one less
module _ (m t r : ℕ) (p : Taken m t r) where
  other : (k : ℕ) → (k ≡ t → ⊥) → bit r k ≡ bit m k
  other k e = let x = bit_has r m k (λ h. ((p k).0 h).0) in let y = bit_has m r k (λ h. (p k).1 (h, e)) in omega arith

  before : (n : ℕ) → n ≤ t → size r n ≡ size m n
  unfolding size
  before zero l = refl
  before (suc n) l = let z = before n (omega arith) in let y = other n (λ e. omega arith) in omega arith

  pub size_taken : (n : ℕ) → t < n → Has m t → size r n + 1 ≡ size m n
  unfolding size
  size_taken zero l h = absurd (omega arith)
  size_taken (suc n) l h = go (ℕ_discrete n t) (λ q. size_taken n q h)
    where
      gone : bit r t ≡ 0
      gone = go (bit r t) refl (bit_two r t)
        where
          go : (b : ℕ) → bit r t ≡ b → b < 2 → b ≡ 0
          go zero e l = refl
          go (suc b) e l = absurd (((p t).0 (omega arith)).1 refl)

      go : Dec (n ≡ t) → (t < n → size r n + 1 ≡ size m n) → size r n + bit r n + 1 ≡ size m n + bit m n
      go (yes e) f =
          let z = before n (omega arith) in
          let y : bit r n ≡ 0 = rw e gone in
          let x : bit m n ≡ 1 = rw e h in
          omega arith
      go (no e) f = let z = f (omega arith) in let y = other n e in omega arith
