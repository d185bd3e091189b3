-- How many there are: a count by meaning.
use Rattle.std.specs.Prelude.{◌≡◌, ℕ, ◌<◌}

-- n is how many there are with P: the numbers from 0 to n - 1 stand for them, each for another one
pub record HowMany {A : Type 0} (P : A → Type 0) (n : ℕ) : Type 0 where
  pub nth : ℕ → A
  pub each : (i : ℕ) → i < n → P (nth i)
  pub once : (i j : ℕ) → i < n → j < n → nth i ≡ nth j → i ≡ j
  pub all : (a : A) → P a → (i : ℕ) × (i < n) × (nth i ≡ a)

-- n is how many pairs the relation E has
abbrev pub Pairs : {A : Type 0} → (A → A → Type 0) → ℕ → Type 0
Pairs {A} E n = HowMany {A = A × A} (λ p. E p.0 p.1) n
