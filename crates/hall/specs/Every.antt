-- Tests over the numbers below a bound.
use Rattle.std.specs.Prelude.{Bool, true, ◌&&◌, cond, ℕ, zero, suc, ◌+◌}

-- the test holds at each number below n
unfoldable pub every : (ℕ → Bool) → ℕ → Bool
every test zero = true
every test (suc n) = every test n && test n

-- the lowest of the n numbers from k at which the test holds, or k + n where it holds at none
unfoldable pub lowest_from : (ℕ → Bool) → ℕ → ℕ → ℕ
lowest_from test k zero = k
lowest_from test k (suc n) = cond (test k) k (lowest_from test (k + 1) n)
