-- The digits of a number below 10, and of one from 10 up; numbers one after the other.
use mathlib.Core.Path.{◌≡◌, refl}
use mathlib.Core.List.{List, [], ◌∷◌, ◌++◌, append_assoc, append-nil}
use Prim.Native.Nat.{ℕ, suc, ◌+◌, ◌/◌, ◌%◌, ◌^◌, ◌≤◌, ◌<◌}
use native.Mathlib.Nat.{pow-suc}
use native.Mathlib.Omega.{arith}
use borrow.Author.Tests.{lt-ltb, le-ltb}
use Rattle.text.specs.Parts.{Adds}
use Rattle.text.specs.Text.{decimal, digit, digits_of, numbered}
use Rattle.text.specs.declared.text.Text.{Text}
use Rattle.text.proofs.Said.{adds_both}

pub digits_one : (more n : ℕ) → n < 10 → digits_of (suc more) n ≡ digit n ∷ []
unfolding digits_of
digits_one more n h = rw (lt-ltb n 10 h) refl

pub digits_more : (more n : ℕ) → 10 ≤ n → digits_of (suc more) n ≡ digits_of more (n / 10) ++ (digit (n % 10) ∷ [])
unfolding digits_of
digits_more more n h = rw (le-ltb n 10 h) refl

-- a byte that is the only digit
pub adds_digit : {t u : Text} (more n b : ℕ) → Adds t (b ∷ []) u → n < 10 → b ≡ 48 + n → Adds t (digits_of (suc more) n) u
adds_digit more n b added h e = rw (digits_one more n h, ← e) added

-- the digits of one tenth, and a byte that is the last digit; digits that hold a number hold one tenth of it with one less
pub adds_digits : {t u w : Text} (more n m b : ℕ) → ((k : ℕ) → m < 10 ^ suc k → Adds t (digits_of (suc k) m) u) → Adds u (b ∷ []) w
    → 10 ≤ n → n < 10 ^ suc (suc more) → m ≡ n / 10 → b ≡ 48 + n % 10 → Adds t (digits_of (suc (suc more)) n) w
adds_digits more n m b tenth last h fits e f =
    let less : m < 10 ^ suc more = omega (arith, pow-suc 10 (suc more)) in
    rw (digits_more (suc more) n h, ← e, ← f) (adds_both (tenth more less) last)

pub numbered_one : (n : ℕ) → numbered (n ∷ []) ≡ 32 ∷ decimal n
unfolding numbered
numbered_one n = append-nil _

-- a byte that is a blank, and a number
pub adds_number : {t u w : Text} (n b : ℕ) → Adds t (b ∷ []) u → Adds u (decimal n) w → b ≡ 32 → Adds t (numbered (n ∷ [])) w
adds_number n b blank number e = rw numbered_one (adds_both (rw e at blank) number)

pub numbered_append : (a b : List ℕ) → numbered (a ++ b) ≡ numbered a ++ numbered b
unfolding numbered
numbered_append [] b = refl
numbered_append (n ∷ a) b = rw (numbered_append a b, append_assoc) refl
