-- Going on with what was read.
use Prim.Native.Nat.{ℕ, suc, ◌-◌, ◌<◌}
use mathlib.Core.Path.{◌≡◌, refl}
use native.Mathlib.Omega.{arith}
use Rattle.fields.specs.Got.{Got, value, refused, onward, times, Rising, rising, each}

-- what was read in the end was read from something
pub record Came {A B : Type 0} (g : Got A) (k : A → ℕ → Got B) (b : B) (next : ℕ) : Type 0 where
  pub it : A
  pub at : ℕ
  pub from : g ≡ value it at
  pub onto : k it at ≡ value b next

pub came : {A B : Type 0} {b : B} {next : ℕ} (g : Got A) (k : A → ℕ → Got B) → onward g k ≡ value b next → Came g k b next
came (value a at) k e = record { it = a; at = at; from = refl; onto = e }
came (refused n) k e = absurd (let z : ◌≡◌ {A = ℕ} 0 1 = cc in omega arith)

-- ---- a rising list of which so many are left to read, from here on
unfoldable pub going : {A : Type 0} → (Rising A → ℕ → Got (Rising A)) → ℕ → ℕ → A → ℕ → Got A
going step left floor a at = onward (times step left (rising floor a) at) (λ r next. value r.sofar next)

pub going_start : {A : Type 0} (step : Rising A → ℕ → Got (Rising A)) {left n : ℕ} (a : A) (at : ℕ) → left ≡ n → going step left 0 a at ≡ each step n a at
unfolding each going
going_start step a at e = rw e

module _ {A : Type 0} (step : Rising A → ℕ → Got (Rising A)) (floor : ℕ) (a : A) (at : ℕ) where
  -- a turn, after which the reading goes on from `floor'`
  pub going_turn : {left less floor' up next : ℕ} {b : A} → left ≡ suc less → floor' ≡ up → step (rising floor a) at ≡ value (rising up b) next
      → going step less floor' b next ≡ going step left floor a at
  unfolding going
  going_turn l f e = rw (l, f, e)

  pub going_refused : {left n : ℕ} → 0 < left → step (rising floor a) at ≡ refused n → refused n ≡ going step left floor a at
  unfolding going
  going_refused {left} h e = let z : left ≡ suc (left - 1) = omega arith in rw (z, e)

  pub going_end : {left : ℕ} → left ≡ 0 → value a at ≡ going step left floor a at
  unfolding going
  going_end e = rw e
