-- A set put together from the bottom: what is known, the start, a step.
use mathlib.Core.Path.{◌≡◌, sym, subst}
use mathlib.Core.Logic.{◌↔◌, ◌⊎◌, inl, inr}
use Prim.Native.Nat.{ℕ, ◌+◌, ◌<◌}
use native.Mathlib.Decide.{ℕ_discrete}
use native.Mathlib.Omega.{arith}
use Rattle.sets.specs.Set.{Has}
use Rattle.sets.proofs.Members.{Put, none_has}

module _ (P : ℕ → Type 0) where
  -- `m` has those below n with P
  pub record Built (m n : ℕ) : Type 0 where
    pub iff : (k : ℕ) → Has m k ↔ ((k < n) × P k)

  pub build_start : Built 0 0
  build_start = record { iff = λ k. (λ h. absurd (none_has k h), λ h. absurd (omega arith)) }

  module _ (m n : ℕ) (g : Built m n) where
    pub build_put : n < 32 → P n → (r : ℕ) → Put m n r → Built r (n + 1)
    build_put l p r put = record { iff = λ k. (λ h. into k ((put k).0 h), λ h. from k h (ℕ_discrete k n)) }
      where
        into : (k : ℕ) → Has m k ⊎ ((k < 32) × (k ≡ n)) → (k < n + 1) × P k
        into k (inl h) = let q = (g.iff k).0 h in (omega arith, q.1)
        into k (inr e) = (omega arith, subst P (sym e.1) p)

        from : (k : ℕ) → (k < n + 1) × P k → Dec (k ≡ n) → Has r k
        from k h (yes e) = (put k).1 (inr (omega arith, e))
        from k h (no e) = (put k).1 (inl ((g.iff k).1 (omega arith, h.1)))

    pub build_skip : (P n → ⊥) → Built m (n + 1)
    build_skip ne = record { iff = λ k. (λ h. let q = (g.iff k).0 h in (omega arith, q.1), λ h. from k h (ℕ_discrete k n)) }
      where
        from : (k : ℕ) → (k < n + 1) × P k → Dec (k ≡ n) → Has m k
        from k h (yes e) = absurd (ne (subst P e h.1))
        from k h (no e) = (g.iff k).1 (omega arith, h.1)
