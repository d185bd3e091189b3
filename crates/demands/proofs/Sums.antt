-- Sums of a weight over the numbers below a bound.
use mathlib.Core.Path.{◌≡◌}
use mathlib.Core.Logic.{⊎_elim}
use Prim.Native.Nat.{ℕ, zero, suc, ◌+◌, ◌<◌, ◌≤◌}
use native.Mathlib.Nat.{eq-or-lt_of_le, le_of_suc-le-suc}
use native.Mathlib.Omega.{arith}

unfoldable pub sum : (ℕ → ℕ) → ℕ → ℕ
sum f zero = 0
sum f (suc n) = sum f n + f n

pub sum_le : (f g : ℕ → ℕ) (n : ℕ) → ((k : ℕ) → f k ≤ g k) → sum f n ≤ sum g n
unfolding sum
sum_le f g zero h = omega arith
sum_le f g (suc n) h = omega (arith, sum_le f g n h, h n)

-- one of the weights is less, and none is more
pub sum_less : (f g : ℕ → ℕ) (n u : ℕ) → ((k : ℕ) → f k ≤ g k) → u < n → f u < g u → sum f n < sum g n
unfolding sum
sum_less f g zero u h l d = absurd (omega arith)
sum_less f g (suc n) u h l d =
    ⊎_elim (λ (q : u ≡ n). let d' : f n < g n = rw (← q) d in omega (arith, sum_le f g n h))
    (λ (q : u < n). omega (arith, sum_less f g n u h q d, h n)) (eq-or-lt_of_le (le_of_suc-le-suc l))
