-- What is found in a set by a test, which is code: `Said k b` where the test may say b of task k.
use Rattle.std.specs.Prelude.{◌≡◌, ◌↔◌, ℕ, ◌<◌, Bool, true, false, Option, None, Some}

module _ (In : ℕ → Type 0) (Said : ℕ → Bool → Type 0) where
  -- those of the set for whom the test says yes; it says something of each of the set
  pub record Those (Found : ℕ → Type 0) : Type 0 where
    pub inside : (k : ℕ) → Found k → In k
    pub said : (k : ℕ) → In k → (b : Bool) × Said k b × (Found k ↔ (b ≡ true))

  -- the lowest of the set for whom the test says yes, or none
  abbrev pub First : Option ℕ → Type 0
  First None = (k : ℕ) → In k → Said k false
  First (Some t) = In t × Said t true × ((k : ℕ) → In k → k < t → Said k false)
