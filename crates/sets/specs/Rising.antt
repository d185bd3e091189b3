-- The tasks of a set, one after the other: what the code's iterator hands out.
use Rattle.std.specs.Prelude.{◌≡◌, ◌↔◌, ℕ, ◌<◌, Option, None, Some}
use Rattle.sets.specs.Set.{Has, Least}

-- of those in `left` the lowest, and after it the others are left; none where nobody is left
abbrev pub Next : ℕ → Option ℕ → ℕ → Type 0
Next left None after = (left ≡ 0) × (after ≡ 0)
Next left (Some t) after = (t < 32) × Least (Has left) t × ((k : ℕ) → Has after k ↔ (Has left k × (k ≡ t → ⊥)))
