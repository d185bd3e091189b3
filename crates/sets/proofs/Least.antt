-- The lowest task of a set.
use mathlib.Core.Path.{◌≡◌, refl, sym, ◌∙◌}
use Prim.Native.Nat.{ℕ, zero, suc, ◌/◌, ◌%◌, ◌^◌, ◌≤◌, ◌<◌}
use native.Mathlib.Nat.{pow-suc, le_antisymm}
use native.Mathlib.Omega.{arith}
use lib.Count.{count_trailing_zeros, trailing_of_zero, trailing_le, under}
use mir.Val.{Fits}
use mir.Syntax.{w64}
use Rattle.sets.specs.Set.{Has, Least, LowestOf}
use Rattle.sets.proofs.Bits.{bit_suc}

-- there is one lowest
pub least_one : (P : ℕ → Type 0) (a b : ℕ) → Least P a → Least P b → a ≡ b
least_one P a b x y = le_antisymm (x.lowest b y.holds) (y.lowest a x.holds)

-- the lowest of P is the lowest of any Q that says the same
pub least_along : {P Q : ℕ → Type 0} {u : ℕ} → ((v : ℕ) → P v → Q v) → ((v : ℕ) → Q v → P v) → Least P u → Least Q u
least_along {u} f g l = record { holds = f u l.holds; lowest = λ v q. l.lowest v (g v q) }

-- ---- `trailing_zeros`, at the width n
pub trailing_has : (n m : ℕ) → m < 2 ^ n → 0 < m → Has m (count_trailing_zeros n m)
unfolding count_trailing_zeros
trailing_has zero m f p = absurd (omega arith)
trailing_has (suc n) m f p = go (m % 2) refl (λ q. trailing_has n (m / 2) (omega (arith, pow-suc 2 n)) q)
  where
    go : (d : ℕ) → m % 2 ≡ d → (0 < m / 2 → Has (m / 2) (count_trailing_zeros n (m / 2))) → Has m (under d (count_trailing_zeros n (m / 2)))
    go zero e r = bit_suc m (count_trailing_zeros n (m / 2)) ∙ r (omega arith)
    go (suc d) e r = omega arith

pub trailing_low : (n m k : ℕ) → Has m k → count_trailing_zeros n m ≤ k
unfolding count_trailing_zeros
trailing_low zero m k h = omega arith
trailing_low (suc n) m k h = go (m % 2) refl k h (trailing_low n (m / 2))
  where
    go : (d : ℕ) → m % 2 ≡ d → (k : ℕ) → Has m k → ((j : ℕ) → Has (m / 2) j → count_trailing_zeros n (m / 2) ≤ j) → under d
        (count_trailing_zeros n (m / 2)) ≤ k
    go zero e zero h r = absurd (omega arith)
    go zero e (suc j) h r = let z = r j (sym (bit_suc m j) ∙ h) in omega arith
    go (suc d) e k h r = omega arith

pub trailing_least : (n m : ℕ) → m < 2 ^ n → 0 < m → Least (Has m) (count_trailing_zeros n m)
trailing_least n m f p = record { holds = trailing_has n m f p; lowest = trailing_low n m }

pub trailing_lowest : (m : ℕ) → m < 2 ^ 32 → LowestOf m (count_trailing_zeros 32 m)
trailing_lowest m f = record { some = trailing_least 32 m f; none = λ e. rw e (trailing_of_zero 32) }

-- a count of zeros fits a `usize`
pub trailing_fits : (m : ℕ) → Fits w64 (count_trailing_zeros 32 m)
trailing_fits m = omega (arith, trailing_le 32 m)
