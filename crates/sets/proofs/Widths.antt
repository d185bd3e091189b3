-- Sets at any width: those with the same members are equal, and a set of numbers below n fits n bits.
use mathlib.Core.Path.{◌≡◌, subst}
use mathlib.Core.Logic.{◌↔◌}
use Prim.Native.Nat.{ℕ, zero, suc, ◌+◌, ◌/◌, ◌%◌, ◌^◌, ◌<◌}
use native.Mathlib.Nat.{mod-lt, pow-suc}
use native.Mathlib.Omega.{arith}
use lib.Pow.{pow_pos, shr-shr, split}
use Rattle.sets.specs.Set.{Has}
use Rattle.sets.proofs.Members.{none_zero, same_set}

pub above : (n : ℕ) → n < 2 ^ n
above zero = omega arith
above (suc n) = let z = above n in rw (pow-suc 2 n) (omega arith)

pub same_members : (P : ℕ → Type 0) (a b : ℕ) → ((k : ℕ) → Has a k ↔ P k) → ((k : ℕ) → Has b k ↔ P k) → a ≡ b
same_members P a b = let z = above (a + b) in same_set (a + b) P a b (omega arith) (omega arith)

-- a set of numbers below n is below 2 ^ n
pub members_fit : (n m : ℕ) → ((k : ℕ) → Has m k → k < n) → m < 2 ^ n
members_fit n m h =
    let f : m / 2 ^ n < 2 ^ (m / 2 ^ n) = above (m / 2 ^ n) in
    let z : m / 2 ^ n ≡ 0 = none_zero (m / 2 ^ n) (m / 2 ^ n) f high in
    let s = (rw z at (split m n)) in
    let l = mod-lt m (pow_pos n) in
    omega arith
  where
    high : (k : ℕ) → Has (m / 2 ^ n) k → ⊥
    high k p = let l = h (n + k) (subst (λ x. x % 2 ≡ 1) (shr-shr m n k) p) in omega arith
