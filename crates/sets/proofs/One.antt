-- Each promise fixes its result: two results that both meet it are equal. Of those that say who is in the set (only, common, either, less,
-- take, kept, marked), one law says it, `same_members` of Widths.
use mathlib.Core.Path.{◌≡◌, refl, sym, ap, ◌∙◌}
use mathlib.Core.Bool.{Bool, true, false}
use mathlib.Core.Logic.{◌↔◌}
use Prim.Native.Nat.{ℕ, ◌≤◌, ◌<◌}
use native.Mathlib.Nat.{le_antisymm}
use Rattle.std.specs.Prelude.{Option, None, Some}
use native.Mathlib.Decide.{dec_lt}
use native.Mathlib.Omega.{arith}
use lib.Count.{count_trailing_zeros}
use Rattle.sets.specs.Set.{Has, LowestOf}
use Rattle.sets.specs.Tested.{First, Those}
use Rattle.sets.proofs.Testing.{never}
use Rattle.sets.proofs.Least.{least_one, trailing_least}
use Rattle.sets.proofs.Widths.{above, same_members}

pub has_one : (P : Type 0) (a b : Bool) → (a ≡ true) ↔ P → (b ≡ true) ↔ P → a ≡ b
has_one P true b f g = sym (g.1 (f.0 refl))
has_one P false true f g = f.1 (g.0 refl)
has_one P false false f g = refl

pub lowest_one : (m a b : ℕ) → LowestOf m a → LowestOf m b → a ≡ b
lowest_one m a b x y = go (dec_lt 0 m)
  where
    go : Dec (0 < m) → a ≡ b
    go (yes p) = least_one (Has m) a b (x.some p) (y.some p)
    go (no p) = x.none (omega arith) ∙ sym (y.none (omega arith))

-- what is promised of a set by its lowest: every set has one
pub by_lowest_one : (m a b : ℕ) (P : ℕ → ℕ → Type 0) → ((t : ℕ) → LowestOf m t → (k : ℕ) → Has a k ↔ P t k)
    → ((t : ℕ) → LowestOf m t → (k : ℕ) → Has b k ↔ P t k) → a ≡ b
by_lowest_one m a b P x y = let t = lowest (dec_lt 0 m) in same_members (P t.0) a b (x t.0 t.1) (y t.0 t.1)
  where
    lowest : Dec (0 < m) → (t : ℕ) × LowestOf m t
    lowest (yes p) = (count_trailing_zeros m m, record { some = λ _. trailing_least m m (above m) p; none = λ e. absurd (omega arith) })
    lowest (no p) = (32, record { some = λ q. absurd (p q); none = λ _. refl })

-- ---- what is found by a test that says one thing of each
module _ (In : ℕ → Type 0) (Said : ℕ → Bool → Type 0) (one : (k : ℕ) (a b : Bool) → Said k a → Said k b → a ≡ b) where
  pub those_one : (a b : ℕ) → Those In Said (Has a) → Those In Said (Has b) → a ≡ b
  those_one a b x y = same_members (Has a) a b (λ k. (λ h. h, λ h. h)) (λ k. (into y x k, into x y k))
    where
      into : {A B : ℕ → Type 0} → Those In Said A → Those In Said B → (k : ℕ) → A k → B k
      into f g k h =
          let p = f.said k (f.inside k h) in
          let q = g.said k (f.inside k h) in
          q.2.1 (one k q.0 p.0 q.1 p.1 ∙ p.2.0 h)

  pub first_one : (r s : Option ℕ) → First In Said r → First In Said s → r ≡ s
  first_one None None x y = refl
  first_one None (Some u) x y = absurd (never (one u false true (x u y.0) y.1))
  first_one (Some t) None x y = absurd (never (one t false true (y t x.0) x.1))
  first_one (Some t) (Some u) x y = ap Some (le_antisymm (below t u x y (dec_lt u t)) (below u t y x (dec_lt t u)))
    where
      below : (t u : ℕ) → First In Said (Some t) → First In Said (Some u) → Dec (u < t) → t ≤ u
      below t u x y (yes l) = absurd (never (one u false true (x.2 u y.0 l) y.1))
      below t u x y (no l) = omega arith
