-- Sets of tasks by their members.
use mathlib.Core.Path.{◌≡◌, refl, sym, ◌∙◌}
use mathlib.Core.Bool.{Bool, true}
use mathlib.Core.Logic.{◌↔◌, ◌⊎◌, inl, inr}
use Prim.Native.Nat.{ℕ, zero, suc, ◌+◌, ◌-◌, ◌/◌, ◌*◌, ◌^◌, ◌≤◌, ◌<◌, min}
use native.Mathlib.Nat.{pow-suc}
use native.Mathlib.Decide.{dec_lt, ℕ_discrete}
use native.Mathlib.Omega.{arith}
use lib.Pow.{pow_pos}
use lib.Bits.{bit_and, bit_or}
use Rattle.sets.specs.Set.{bit, Has}
use Rattle.sets.proofs.Bits.{bit_suc, bit_zero, bit_two, bit_high, bit_ext, bit_of_and, bit_of_or, bit_less, bit_power, bit_power_other, bit_le}

-- ---- who is in
pub has_dec : (m k : ℕ) → Dec (Has m k)
has_dec m k = ℕ_discrete (bit m k) 1

-- a member of a set below 2 ^ n is below n
pub has_lt : (n m k : ℕ) → m < 2 ^ n → Has m k → k < n
has_lt n m k f h = go (dec_lt k n)
  where
    go : Dec (k < n) → k < n
    go (yes l) = l
    go (no l) = let z = bit_high n m k f (omega arith) in absurd (omega arith)

pub has_pos : (m k : ℕ) → Has m k → 0 < m
has_pos m k h = let z = bit_le m k h in let p = pow_pos k in omega arith

pub none_has : (k : ℕ) → Has 0 k → ⊥
none_has k h = let p = has_pos 0 k h in omega arith

-- the full set has everybody below n
pub full_has : (n k : ℕ) → k < n → Has (2 ^ n - 1) k
full_has zero k h = absurd (omega arith)
full_has (suc n) zero h = let p = pow_pos n in rw (pow-suc 2 n) (omega arith)
full_has (suc n) (suc k) h =
    let p = pow_pos n in
    let d : (2 ^ n * 2 - 1) / 2 ≡ 2 ^ n - 1 = omega arith in
    bit_suc (2 ^ suc n - 1) k ∙ rw (pow-suc 2 n, d) (full_has n k (omega arith))

-- a set that is not 0 has a member
pub some_has : (n m : ℕ) → m < 2 ^ n → 0 < m → (k : ℕ) × Has m k
some_has zero m f p = absurd (omega arith)
some_has (suc n) m f p = go (dec_lt 0 (m / 2)) (λ q. some_has n (m / 2) (omega (arith, pow-suc 2 n)) q)
  where
    go : Dec (0 < m / 2) → (0 < m / 2 → (k : ℕ) × Has (m / 2) k) → (k : ℕ) × Has m k
    go (yes q) f = let r = f q in (suc r.0, bit_suc m r.0 ∙ r.1)
    go (no q) f = (0, omega arith)

pub none_zero : (n m : ℕ) → m < 2 ^ n → ((k : ℕ) → Has m k → ⊥) → m ≡ 0
none_zero n m f e = go (dec_lt 0 m)
  where
    go : Dec (0 < m) → m ≡ 0
    go (yes p) = let r = some_has n m f p in absurd (e r.0 r.1)
    go (no p) = omega arith

-- ---- the same members, so the same set
pub bit_has : (a b k : ℕ) → (Has a k → Has b k) → bit a k ≤ bit b k
bit_has a b k f = go (has_dec a k)
  where
    go : Dec (Has a k) → bit a k ≤ bit b k
    go (yes h) = let z = f h in omega arith
    go (no h) = let z = bit_two a k in omega arith

pub ext_has : (n a b : ℕ) → a < 2 ^ n → b < 2 ^ n → ((k : ℕ) → Has a k → Has b k) → ((k : ℕ) → Has b k → Has a k) → a ≡ b
ext_has n a b ha hb f g = bit_ext n a b ha hb (λ k l. let x = bit_has a b k (f k) in let y = bit_has b a k (g k) in omega arith)

-- two sets that have exactly those with P
pub same_set : (n : ℕ) (P : ℕ → Type 0) (a b : ℕ) → a < 2 ^ n → b < 2 ^ n → ((k : ℕ) → Has a k ↔ P k) → ((k : ℕ) → Has b k ↔ P k) → a ≡ b
same_set n P a b ha hb f g = ext_has n a b ha hb (λ k h. (g k).1 ((f k).0 h)) (λ k h. (f k).1 ((g k).0 h))

-- ---- the operations
pub and_iff : (a b k : ℕ) → Has (bit_and a b) k ↔ (Has a k × Has b k)
and_iff a b k =
    let e = bit_of_and a b k in
    let x = bit_two a k in
    let y = bit_two b k in
    (λ h. (omega arith, omega arith), λ h. omega arith)

pub or_iff : (a b k : ℕ) → Has (bit_or a b) k ↔ (Has a k ⊎ Has b k)
or_iff a b k = (λ h. go h (has_dec a k), back)
  where
    go : Has (bit_or a b) k → Dec (Has a k) → Has a k ⊎ Has b k
    go h (yes p) = inl p
    go h (no p) = let e = bit_of_or a b k in let x = bit_two a k in inr (omega arith)

    back : Has a k ⊎ Has b k → Has (bit_or a b) k
    back (inl h) = let e = bit_of_or a b k in let y = bit_two b k in omega arith
    back (inr h) = let e = bit_of_or a b k in let x = bit_two a k in omega arith

pub less_iff : (a b k : ℕ) → Has (a - bit_and a b) k ↔ (Has a k × (Has b k → ⊥))
less_iff a b k =
    let e = bit_less a b k in
    let x = bit_two a k in
    let y = bit_two b k in (
      λ h. (omega arith, λ g. omega arith),
      λ h. go e x y h (has_dec b k),
    )
  where
    go : bit (a - bit_and a b) k + min (bit a k) (bit b k) ≡ bit a k → bit a k < 2 → bit b k < 2 → Has a k × (Has b k → ⊥) → Dec (Has b k)
        → Has (a - bit_and a b) k
    go e x y h (yes p) = absurd (h.1 p)
    go e x y h (no p) = omega arith

pub power_iff : (t k : ℕ) → Has (2 ^ t) k ↔ (k ≡ t)
power_iff t k = (λ h. go h (ℕ_discrete k t), λ e. rw e (bit_power t))
  where
    go : Has (2 ^ t) k → Dec (k ≡ t) → k ≡ t
    go h (yes e) = e
    go h (no e) = let z = bit_power_other t k e in absurd (omega arith)

-- ---- r is m with t put into it; with t taken out, which is what `take` promises; without t unless it stays, which is what `kept` does; with t or without it,
-- as told, which is what `marked` does
abbrev pub Put : ℕ → ℕ → ℕ → Type 0
Put m t r = (k : ℕ) → Has r k ↔ (Has m k ⊎ ((k < 32) × (k ≡ t)))

abbrev pub Taken : ℕ → ℕ → ℕ → Type 0
Taken m t r = (k : ℕ) → Has r k ↔ (Has m k × (k ≡ t → ⊥))

abbrev pub Kept : ℕ → ℕ → Bool → ℕ → Type 0
Kept m t stays r = (k : ℕ) → Has r k ↔ (Has m k × (k ≡ t → stays ≡ true))

abbrev pub Marked : ℕ → ℕ → Bool → ℕ → Type 0
Marked m t inside r = (k : ℕ) → Has r k ↔ (((k < 32) × (k ≡ t) × (inside ≡ true)) ⊎ (Has m k × (k ≡ t → ⊥)))

-- the set without t, as a number
pub without_taken : (m t : ℕ) → Taken m t (m - bit_and m (2 ^ t))
without_taken m t k =
    let e = less_iff m (2 ^ t) k in
    let p = power_iff t k in
    (λ h. ((e.0 h).0, λ q. (e.0 h).1 (p.1 q)), λ h. e.1 (h.0, λ q. h.1 (p.0 q)))

-- ---- a part is no greater as a number, and less where it misses one: the measure of a loop that takes from a set
abbrev pub Within : ℕ → ℕ → Type 0
Within a b = (k : ℕ) → Has a k → Has b k

pub within_le : (n a b : ℕ) → a < 2 ^ n → Within a b → a ≤ b
within_le zero a b f w = omega arith
within_le (suc n) a b f w =
    let r = within_le n (a / 2) (b / 2) (omega (arith, pow-suc 2 n)) (λ k h. sym (bit_suc b k) ∙ w (suc k) (bit_suc a k ∙ h)) in
    let z = bit_has a b 0 (w 0) in
    omega (arith, bit_zero a, bit_zero b)

pub within_lt : (n a b k : ℕ) → a < 2 ^ n → Within a b → Has b k → (Has a k → ⊥) → a < b
within_lt n a b k f w h g = go (ℕ_discrete a b)
  where
    go : Dec (a ≡ b) → a < b
    go (yes e) = absurd (g (rw e h))
    go (no e) = let l = within_le n a b f w in omega arith

pub taken_within : (m t r : ℕ) → Taken m t r → Within r m
taken_within m t r p k h = ((p k).0 h).0

pub taken_lt : (n m t r : ℕ) → r < 2 ^ n → Has m t → Taken m t r → r < m
taken_lt n m t r f h p = within_lt n r m t f (taken_within m t r p) h (λ g. ((p t).0 g).1 refl)

-- who is not in what is left was taken now, or before
pub taken_out : (m t r k : ℕ) → Taken m t r → (Has r k → ⊥) → (k ≡ t) ⊎ (Has m k → ⊥)
taken_out m t r k p n = go (ℕ_discrete k t)
  where
    go : Dec (k ≡ t) → (k ≡ t) ⊎ (Has m k → ⊥)
    go (yes e) = inl e
    go (no e) = inr (λ h. n ((p k).1 (h, e)))
