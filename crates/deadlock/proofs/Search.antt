-- Searches among the first numbers.
use mathlib.Core.Path.{◌≡◌, subst}
use Prim.Native.Nat.{ℕ, zero, suc, ◌+◌, ◌≤◌, ◌<◌}
use native.Mathlib.Nat.{add-zero}
use native.Mathlib.Decide.{dec_lt, ℕ_discrete}
use native.Mathlib.Omega.{arith}

-- where it is lowest
pub lowest_at : (w : ℕ → ℕ) (n : ℕ) → 0 < n → (a : ℕ) × (a < n) × ((b : ℕ) → b < n → w a ≤ w b)
lowest_at w zero h = absurd (omega arith)
lowest_at w (suc zero) h = (0, omega arith, λ b l. let z : b ≡ 0 = omega arith in rw z (omega arith))
lowest_at w (suc (suc n)) h = more (lowest_at w (suc n) (omega arith))
  where
    more : (a : ℕ) × (a < suc n) × ((b : ℕ) → b < suc n → w a ≤ w b) → (a : ℕ) × (a < suc (suc n)) × ((b : ℕ) → b < suc (suc n) → w a ≤ w b)
    more r = turn (dec_lt (w (suc n)) (w r.0))
      where
        last : (a b : ℕ) → b < suc (suc n) → w a ≤ w (suc n) → ((c : ℕ) → c < suc n → w a ≤ w c) → Dec (b < suc n) → w a ≤ w b
        last a b l x f (yes q) = f b q
        last a b l x f (no q) = let z : b ≡ suc n = omega arith in rw z x

        turn : Dec (w (suc n) < w r.0) → (a : ℕ) × (a < suc (suc n)) × ((b : ℕ) → b < suc (suc n) → w a ≤ w b)
        turn (yes q) = (suc n, omega arith, λ b l. last (suc n) b l (omega arith) (λ c i. let z = r.2 c i in omega arith) (dec_lt b (suc n)))
        turn (no q) = (r.0, omega arith, λ b l. last r.0 b l (omega arith) r.2 (dec_lt b (suc n)))

-- the first with P, where the n-th has it
pub first_with : (P : ℕ → Type 0) → ((k : ℕ) → Dec (P k)) → (n : ℕ) → P n → (k : ℕ) × (k ≤ n) × P k × ((j : ℕ) → j < k → P j → ⊥)
first_with P d n p = up n 0 (add-zero n) (λ j l. absurd (omega arith))
  where
    up : (g k : ℕ) → g + k ≡ n → ((j : ℕ) → j < k → P j → ⊥) → (k : ℕ) × (k ≤ n) × P k × ((j : ℕ) → j < k → P j → ⊥)
    up zero k e f = (k, omega arith, (let z : n ≡ k = omega arith in rw z at p), f)
    up (suc g) k e f = turn (d k) (λ h. up g (suc k) (omega arith) h)
      where
        turn : Dec (P k) → (((j : ℕ) → j < suc k → P j → ⊥) → (k : ℕ) × (k ≤ n) × P k × ((j : ℕ) → j < k → P j → ⊥))
            → (k : ℕ) × (k ≤ n) × P k × ((j : ℕ) → j < k → P j → ⊥)
        turn (yes q) r = (k, omega arith, q, f)
        turn (no q) r = r (λ j l. here j l (ℕ_discrete j k))
          where
            here : (j : ℕ) → j < suc k → Dec (j ≡ k) → P j → ⊥
            here j l (yes i) h = q (subst P i h)
            here j l (no i) h = f j (omega arith) h
