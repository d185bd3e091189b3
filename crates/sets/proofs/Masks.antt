-- The set of those below n at which a test holds, to compute with.
use mathlib.Core.Path.{◌≡◌, refl, sym, ◌∙◌}
use mathlib.Core.Bool.{Bool, true, false, cond, true≢false}
use mathlib.Core.Logic.{◌↔◌, inl, inr, ⊎_elim}
use Prim.Native.Nat.{ℕ, zero, suc, ◌+◌, ◌^◌, ◌≤◌, ◌<◌}
use native.Mathlib.Numerals.{add-one}
use native.Mathlib.Omega.{arith}
use lib.Bits.{bit_or}
use Rattle.sets.specs.Set.{Has}
use Rattle.sets.proofs.Members.{Put, or_iff, power_iff}
use Rattle.sets.proofs.Loops.{Built, build_start, build_put, build_skip}

unfoldable pub mask_of : (ℕ → Bool) → ℕ → ℕ
mask_of test zero = 0
mask_of test (suc n) = cond (test n) (bit_or (mask_of test n) (2 ^ n)) (mask_of test n)

pub mask_has : (test : ℕ → Bool) (n k : ℕ) → n ≤ 32 → Has (mask_of test n) k ↔ ((k < n) × (test k ≡ true))
unfolding mask_of
mask_has test n k l = (built n l).iff k
  where
    put : (m n : ℕ) → n < 32 → Put m n (bit_or m (2 ^ n))
    put m n l k = (
      λ h. ⊎_elim (λ g. inl g) (λ g. let e = (power_iff n k).0 g in inr (omega arith, e)) ((or_iff m (2 ^ n) k).0 h),
      λ h. (or_iff m (2 ^ n) k).1 (⊎_elim (λ g. inl g) (λ g. inr ((power_iff n k).1 g.1)) h),
    )

    more : (n m : ℕ) → n < 32 → Built (λ k. test k ≡ true) m n → (b : Bool) → test n ≡ b → Built (λ k. test k ≡ true) (cond b (bit_or m (2 ^ n)) m) (n + 1)
    more n m l g true e = build_put _ m n g l e (bit_or m (2 ^ n)) (put m n l)
    more n m l g false e = build_skip _ m n g (λ y. true≢false (sym y ∙ e))

    built : (n : ℕ) → n ≤ 32 → Built (λ k. test k ≡ true) (mask_of test n) n
    built zero l = build_start _
    built (suc n) l = rw (← add-one n) (more n (mask_of test n) (omega arith) (built n (omega arith)) (test n) refl)
