-- A small logic of readings: both are refused, by the same number, of which R holds, or both read the same, of which Q holds. One rule for each combinator.
use Prim.Native.Nat.{ℕ, zero, suc}
use mathlib.Core.Path.{◌≡◌, refl}
use mathlib.Core.Bool.{Bool, cond, true, false}
use native.Mathlib.Omega.{arith}
use lib.Dec.{T}
use Rattle.answers.specs.Answers.{among}
use Rattle.sheet.specs.Answers.{sheet_refusals}
use Rattle.fields.specs.Got.{Got, value, refused, onward, times}

pub data Agree {A : Type 0} (R : ℕ → Type 0) (Q : A → ℕ → Type 0) : Got A → Got A → Type 0 where
  fine : {a : A} {at : ℕ} → Q a at → Agree R Q (value a at) (value a at)
  none : {n : ℕ} → R n → Agree R Q (refused n) (refused n)

-- 30 to 36
abbrev pub Refusal : ℕ → Type 0
Refusal n = T (among n sheet_refusals)

abbrev pub Same : {A : Type 0} → (A → ℕ → Type 0) → Got A → Got A → Type 0
Same Q g h = Agree Refusal Q g h

-- of one reading
abbrev pub Ok : {A : Type 0} → (A → ℕ → Type 0) → Got A → Type 0
Ok Q g = Same Q g g

pub same_onward : {A B : Type 0} {R : ℕ → Type 0} {P : A → ℕ → Type 0} {Q : B → ℕ → Type 0} {g h : Got A} {k l : A → ℕ → Got B}
    → Agree R P g h → ((a : A) (at : ℕ) → P a at → Agree R Q (k a at) (l a at)) → Agree R Q (onward g k) (onward h l)
same_onward (fine {a} {at} p) c = c a at p
same_onward (none r) c = none r

pub same_times : {A : Type 0} {R : ℕ → Type 0} (Q : ℕ → A → ℕ → Type 0) (f h : A → ℕ → Got A)
    → ((n : ℕ) (a : A) (at : ℕ) → Q (suc n) a at → Agree R (Q n) (f a at) (h a at))
    → (n : ℕ) (a : A) (at : ℕ) → Q n a at → Agree R (Q 0) (times f n a at) (times h n a at)
same_times Q f h c zero a at q = fine q
same_times Q f h c (suc n) a at q = same_onward (c n a at q) (λ b mid p. same_times Q f h c n b mid p)

pub same_if : {A : Type 0} {R : ℕ → Type 0} (Q : A → ℕ → Type 0) (b : Bool) {x y x' y' : Got A}
    → (b ≡ true → Agree R Q x x') → (b ≡ false → Agree R Q y y') → Agree R Q (cond b x y) (cond b x' y')
same_if Q true p q = p refl
same_if Q false p q = q refl

pub same_weaker : {A : Type 0} {R : ℕ → Type 0} {P Q : A → ℕ → Type 0} {g h : Got A} → ((a : A) (at : ℕ) → P a at → Q a at) → Agree R P g h → Agree R Q g h
same_weaker c (fine {a} {at} p) = fine (c a at p)
same_weaker c (none r) = none r

pub same_equal : {A : Type 0} {R : ℕ → Type 0} {Q : A → ℕ → Type 0} {g h : Got A} → Agree R Q g h → g ≡ h
same_equal (fine p) = refl
same_equal (none r) = refl

pub same_holds : {A : Type 0} {R : ℕ → Type 0} {Q : A → ℕ → Type 0} {g h : Got A} {b : A} {next : ℕ} → Agree R Q g h → g ≡ value b next → Q b next
same_holds {b = b} {next = next} (fine {a} {at} p) e = let x : a ≡ b = cc in let y : at ≡ next = cc in rw (← x, ← y) p
same_holds (none r) e = absurd (let z : ◌≡◌ {A = ℕ} 0 1 = cc in omega arith)
