-- One bit of a number, by recursion on its place: what the laws of sets rest on.
use mathlib.Core.Path.{◌≡◌, refl, sym, ap, ◌∙◌}
use Prim.Native.Nat.{ℕ, zero, suc, ◌+◌, ◌-◌, ◌*◌, ◌/◌, ◌%◌, ◌^◌, ◌≤◌, ◌<◌, min, max}
use native.Mathlib.Nat.{pow-suc, mod-lt, one-mul}
use native.Mathlib.Numerals.{one-add}
use native.Mathlib.Omega.{arith}
use lib.Pow.{shr-shr, shl_exact}
use lib.Bits.{bit_and, bit_or, and_shr, or_shr, and_step, or_step, and_le_l}
use Rattle.sets.specs.Set.{bit}

pub bit_suc : (m k : ℕ) → bit m (suc k) ≡ bit (m / 2) k
bit_suc m k = ap (λ (x : ℕ). m / 2 ^ x % 2) (sym (one-add k)) ∙ ap (λ (x : ℕ). x % 2) (sym (shr-shr m 1 k))

pub bit_zero : (m : ℕ) → bit m 0 ≡ m % 2
bit_zero m = omega arith

two_pos : 0 < 2
two_pos = omega arith

pub bit_two : (m k : ℕ) → bit m k < 2
bit_two m k = mod-lt (m / 2 ^ k) two_pos

-- a number below 2 ^ n has no bit from n up
pub bit_high : (n m k : ℕ) → m < 2 ^ n → n ≤ k → bit m k ≡ 0
bit_high zero m zero h l = omega arith
bit_high zero m (suc k) h l =
    let z : m / 2 ≡ 0 = omega arith in
    bit_suc m k ∙ rw z (bit_high zero 0 k (omega arith) (omega arith))
bit_high (suc n) m zero h l = omega arith
bit_high (suc n) m (suc k) h l = bit_suc m k ∙ bit_high n (m / 2) k (omega (arith, pow-suc 2 n)) (omega arith)

-- numbers with the same bits are equal
pub bit_ext : (n a b : ℕ) → a < 2 ^ n → b < 2 ^ n → ((k : ℕ) → k < n → bit a k ≡ bit b k) → a ≡ b
bit_ext zero a b ha hb e = omega arith
bit_ext (suc n) a b ha hb e =
    let r =
    bit_ext n (a / 2) (b / 2) (omega (arith, pow-suc 2 n)) (omega (arith, pow-suc 2 n))
    (λ k l. sym (bit_suc a k) ∙ e (suc k) (omega arith) ∙ bit_suc b k) in
    let z = e 0 (omega arith) in
    omega arith

pub bit_of_and : (a b k : ℕ) → bit (bit_and a b) k ≡ min (bit a k) (bit b k)
bit_of_and a b k = rw (and_shr a b k) (low (a / 2 ^ k) (b / 2 ^ k))
  where
    low : (x y : ℕ) → bit_and x y % 2 ≡ min (x % 2) (y % 2)
    low x y = rw (and_step x y) (omega arith)

pub bit_of_or : (a b k : ℕ) → bit (bit_or a b) k ≡ max (bit a k) (bit b k)
bit_of_or a b k = rw (or_shr a b k) (low (a / 2 ^ k) (b / 2 ^ k))
  where
    low : (x y : ℕ) → bit_or x y % 2 ≡ max (x % 2) (y % 2)
    low x y = rw (or_step x y) (omega arith)

-- a bit of a - (a & b): that of a, unless b has it too
pub bit_less : (a b k : ℕ) → bit (a - bit_and a b) k + min (bit a k) (bit b k) ≡ bit a k
bit_less a b zero = rw (bit_zero (a - bit_and a b), bit_zero a, bit_zero b, and_step a b) (low a (b % 2) (bit_and (a / 2) (b / 2)) (and_le_l (a / 2) (b / 2)))
  where
    low : (x y z : ℕ) → z ≤ x / 2 → (x - (z * 2 + min (x % 2) y)) % 2 + min (x % 2) y ≡ x % 2
    low x y z h = omega arith
bit_less a b (suc k) =
    let e = and_step a b in
    let l = and_le_l (a / 2) (b / 2) in
    let d : (a - bit_and a b) / 2 ≡ a / 2 - bit_and (a / 2) (b / 2) = omega arith in
    rw (bit_suc (a - bit_and a b) k, d, bit_suc a k, bit_suc b k) (bit_less (a / 2) (b / 2) k)

-- 2 ^ k has bit k, and no other
pub bit_power : (k : ℕ) → bit (2 ^ k) k ≡ 1
bit_power zero = omega arith
bit_power (suc k) = let d : 2 ^ k * 2 / 2 ≡ 2 ^ k = omega arith in bit_suc (2 ^ suc k) k ∙ rw (pow-suc, d) (bit_power k)

pub bit_power_other : (k j : ℕ) → (j ≡ k → ⊥) → bit (2 ^ k) j ≡ 0
bit_power_other zero zero n = absurd (n refl)
bit_power_other zero (suc j) n = bit_suc 1 j ∙ bit_high zero 0 j (omega arith) (omega arith)
bit_power_other (suc k) zero n = rw pow-suc (omega arith)
bit_power_other (suc k) (suc j) n =
    let d : 2 ^ k * 2 / 2 ≡ 2 ^ k = omega arith in
    bit_suc (2 ^ suc k) j ∙ rw (pow-suc, d) (bit_power_other k j (λ e. n (ap suc e)))

-- a number with bit k is no less than 2 ^ k
pub bit_le : (m k : ℕ) → bit m k ≡ 1 → 2 ^ k ≤ m
bit_le m zero h = omega arith
bit_le m (suc k) h = let r = bit_le (m / 2) k (sym (bit_suc m k) ∙ h) in rw pow-suc (omega arith)

-- `1 << k` at the width n
pub one_shl : (n k : ℕ) → k < n → 1 * 2 ^ k % 2 ^ n ≡ 2 ^ k
one_shl n k h = shl_exact {a = 1} 1 k n (omega arith) (omega arith) ∙ one-mul (2 ^ k)
