-- A set of tasks, kept as a number: "bit k for task k" (document 01, 'The hall sheet').
use Rattle.std.specs.Prelude.{◌≡◌, ℕ, zero, suc, ◌+◌, ◌/◌, ◌%◌, ◌^◌, ◌≤◌, ◌<◌}

-- bit k of m, 0 or 1
abbrev pub bit : ℕ → ℕ → ℕ
bit m k = m / 2 ^ k % 2

-- k is in the set m
abbrev pub Has : ℕ → ℕ → Type 0
Has m k = bit m k ≡ 1

-- how many of the numbers below n are in the set m: "the number of set bits in the mask"
unfoldable pub size : ℕ → ℕ → ℕ
size m zero = zero
size m (suc n) = size m n + bit m n

-- u is the lowest number with P
pub record Least (P : ℕ → Type 0) (u : ℕ) : Type 0 where
  pub holds : P u
  pub lowest : (v : ℕ) → P v → u ≤ v

-- u is the lowest of the set m, and 32, which is no task, where the set is empty
pub record LowestOf (m u : ℕ) : Type 0 where
  pub some : 0 < m → Least (Has m) u
  pub none : m ≡ 0 → u ≡ 32
