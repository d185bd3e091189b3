-- Laws of the tests over the numbers below a bound.
use mathlib.Core.Path.{◌≡◌, refl}
use mathlib.Core.Bool.{Bool, true, false, ◌&&◌, and-false}
use mathlib.Core.Logic.{⊎_elim}
use Prim.Native.Nat.{ℕ, zero, suc, ◌+◌, ◌<◌}
use native.Mathlib.Nat.{eq-or-lt_of_le, le_of_suc-le-suc}
use native.Mathlib.Numerals.{add-one}
use native.Mathlib.Omega.{arith}
use Rattle.hall.specs.Every.{every}
use Rattle.states.proofs.Truth.{and_left, and_right}

pub every_none : (test : ℕ → Bool) → every test 0 ≡ true
unfolding every
every_none test = refl

pub every_more : (test : ℕ → Bool) (n : ℕ) → every test n ≡ true → test n ≡ true → every test (n + 1) ≡ true
unfolding every
every_more test n e h = rw add-one (simp (e, h))

-- the tests so far, and one more
pub every_next : (test : ℕ → Bool) (n m : ℕ) {sofar one : Bool} → m ≡ n + 1 → sofar ≡ every test n → test n ≡ one
    → (sofar && one) ≡ every test m
unfolding every
every_next test n m q e h = rw (q, add-one, e, ← h)

-- a test that fails below the bound fails the whole
pub every_not : (test : ℕ → Bool) (n k : ℕ) → k < n → test k ≡ false → every test n ≡ false
unfolding every
every_not test zero k h e = absurd (omega arith)
every_not test (suc n) k h e =
    ⊎_elim (λ (q : k ≡ n). simp (← q, e, and-false)) (λ (l : k < n). simp (every_not test n k l e))
    (eq-or-lt_of_le (le_of_suc-le-suc h))

-- what holds of all holds of each
pub every_at : (test : ℕ → Bool) (n k : ℕ) → every test n ≡ true → k < n → test k ≡ true
unfolding every
every_at test zero k e h = absurd (omega arith)
every_at test (suc n) k e h =
    ⊎_elim (λ (q : k ≡ n). rw q (and_right (every test n) (test n) e))
    (λ (l : k < n). every_at test n k (and_left (every test n) (test n) e) l)
    (eq-or-lt_of_le (le_of_suc-le-suc h))

-- what holds of each holds of all
pub every_all : (test : ℕ → Bool) (n : ℕ) → ((k : ℕ) → k < n → test k ≡ true) → every test n ≡ true
unfolding every
every_all test zero h = refl
every_all test (suc n) h = simp (every_all test n (λ k l. h k (omega arith)), h n (omega arith))
