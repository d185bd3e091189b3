-- Laws of how many there are: of none, of two kinds that have nothing in common, of those taken to fewer, of a part, of an image, of a set, of pairs row by
-- row; and that it is one number.
use mathlib.Core.Path.{◌≡◌, refl, sym, ap, ◌∙◌, subst}
use mathlib.Core.Bool.{cond}
use mathlib.Core.Logic.{◌↔◌, ◌⊎◌, inl, inr}
use Prim.Native.Nat.{ℕ, zero, suc, ◌+◌, ◌-◌, ◌^◌, ◌≤◌, ◌<◌}
use native.Mathlib.Nat.{le_antisymm}
use native.Mathlib.Decide.{dec_lt, ℕ_discrete}
use native.Mathlib.Omega.{arith}
use lib.Dec.{ltb}
use lib.Pow.{pow_pos}
use borrow.Author.Tests.{lt-ltb, le-ltb}
use Rattle.sets.specs.Set.{bit, Has, size}
use Rattle.sets.proofs.Bits.{bit_two}
use Rattle.sets.proofs.Members.{full_has, has_lt}
use Rattle.sets.proofs.Sizes.{size_full}
use Rattle.deadlock.proofs.Rings.{repeats}
use Rattle.density.specs.HowMany.{HowMany}

module _ {A : Type 0} where
  pub many_none : {P : A → Type 0} → A → ((a : A) → P a → ⊥) → HowMany P 0
  many_none a none = record {
    nth = λ i. a;
    each = λ i l. absurd (omega arith);
    once = λ i j l m e. absurd (omega arith);
    all = λ b p. absurd (none b p);
  }

  pub many_one : (a : A) → HowMany (λ b. a ≡ b) 1
  many_one a = record {
    nth = λ i. a;
    each = λ i l. refl;
    once = λ i j l m e. omega arith;
    all = λ b p. (0, omega arith, p);
  }

  pub many_along : {P Q : A → Type 0} {n : ℕ} → ((a : A) → P a ↔ Q a) → HowMany P n → HowMany Q n
  many_along iff x = record {
    nth = x.nth;
    each = λ i l. (iff (x.nth i)).0 (x.each i l);
    once = x.once;
    all = λ a q. x.all a ((iff a).1 q);
  }

  -- ---- those of the one kind, then those of the other
  module _ {P Q : A → Type 0} {m n : ℕ} (x : HowMany P m) (y : HowMany Q n) where
    at : ℕ → A
    at i = cond (ltb i m) (x.nth i) (y.nth (i - m))

    low : (i : ℕ) → i < m → at i ≡ x.nth i
    unfolding at
    low i l = rw (lt-ltb i m l) refl

    high : (i j : ℕ) → i ≡ m + j → at i ≡ y.nth j
    unfolding at
    high i j e = let z : i - m ≡ j = omega arith in rw (le-ltb i m (omega arith), z) refl

    data Side (i : ℕ) : Type 0 where
      left : i < m → Side i
      right : (j : ℕ) → j < n → i ≡ m + j → Side i

    side : (i : ℕ) → i < m + n → Side i
    side i l = go (dec_lt i m)
      where
        go : Dec (i < m) → Side i
        go (yes h) = left h
        go (no h) = right (i - m) (omega arith) (omega arith)

    pub many_both : ((a : A) → P a → Q a → ⊥) → HowMany (λ a. P a ⊎ Q a) (m + n)
    many_both apart = record { nth = at; each = λ i l. each i (side i l); once = λ i j l k. once i j (side i l) (side j k); all = all }
      where
        each : (i : ℕ) → Side i → P (at i) ⊎ Q (at i)
        each i (left l) = inl (subst P (sym (low i l)) (x.each i l))
        each i (right j l e) = inr (subst Q (sym (high i j e)) (y.each j l))

        never : (i j : ℕ) → i < m → j < n → x.nth i ≡ y.nth j → ⊥
        never i j l k e = apart (y.nth j) (subst P e (x.each i l)) (y.each j k)

        once : (i j : ℕ) → Side i → Side j → at i ≡ at j → i ≡ j
        once i j (left l) (left k) e = x.once i j l k (sym (low i l) ∙ e ∙ low j k)
        once i j (left l) (right b k f) e = absurd (never i b l k (sym (low i l) ∙ e ∙ high j b f))
        once i j (right a l f) (left k) e = absurd (never j a k l (sym (low j k) ∙ sym e ∙ high i a f))
        once i j (right a l f) (right b k g) e = let z = y.once a b l k (sym (high i a f) ∙ e ∙ high j b g) in omega arith

        all : (a : A) → P a ⊎ Q a → (i : ℕ) × (i < m + n) × (at i ≡ a)
        all a (inl p) = let i = x.all a p in (i.0, omega arith, low i.0 i.1 ∙ i.2)
        all a (inr q) = let i = y.all a q in (m + i.0, omega arith, high (m + i.0) i.0 refl ∙ i.2)

-- ---- where each with P is taken to one with Q, and those with Q are fewer, two are taken to the same one
module _ {A B : Type 0} {P : A → Type 0} {Q : B → Type 0} {m n : ℕ} (f : A → B) (into : (a : A) → P a → Q (f a)) (x : HowMany P m)
    (y : HowMany Q n) where
  place : (i : ℕ) → Dec (i < m) → ℕ
  place i (yes l) = (y.all (f (x.nth i)) (into (x.nth i) (x.each i l))).0
  place i (no l) = 0

  placed : (i : ℕ) → i < m → (d : Dec (i < m)) → (place i d < n) × (y.nth (place i d) ≡ f (x.nth i))
  unfolding place
  placed i l (yes k) = let j = y.all (f (x.nth i)) (into (x.nth i) (x.each i k)) in (j.1, j.2)
  placed i l (no k) = absurd (k l)

  pub many_twice : n < m → (a b : A) × P a × P b × (a ≡ b → ⊥) × (f a ≡ f b)
  many_twice l = twice (repeats at n (2 ^ n - 1) (omega (arith, pow_pos n)) (λ k h. full_has n (at k) (there k (omega (arith, full))).0))
    where
      at : ℕ → ℕ
      at i = place i (dec_lt i m)

      full : size (2 ^ n - 1) n ≡ n
      full = size_full n (2 ^ n - 1) (full_has n)

      there : (i : ℕ) → i ≤ n → (at i < n) × (y.nth (at i) ≡ f (x.nth i))
      there i h = placed i (omega arith) (dec_lt i m)

      twice : (i j : ℕ) × (i < j) × (j ≤ size (2 ^ n - 1) n) × (at i ≡ at j) → (a b : A) × P a × P b × (a ≡ b → ⊥) × (f a ≡ f b)
      twice (i, j, less, end, e) =
          let u : i < m = omega (arith, full) in
          let v : j < m = omega (arith, full) in
          let same = sym (there i (omega (arith, full))).1 ∙ ap y.nth e ∙ (there j (omega (arith, full))).1 in
          (x.nth i, x.nth j, x.each i u, x.each j v, λ q. let z = x.once i j u v q in omega arith, same)

-- so a part is no more than the whole, and how many there are is one number
module _ {A : Type 0} where
  pub many_le : {P Q : A → Type 0} {m n : ℕ} → ((a : A) → P a → Q a) → HowMany P m → HowMany Q n → m ≤ n
  many_le {P} {Q} {m} {n} into x y = go (dec_lt n m)
    where
      go : Dec (n < m) → m ≤ n
      go (yes l) = let z = many_twice (λ a. a) into x y l in absurd (z.4 z.5)
      go (no l) = omega arith

  pub many_same : {P : A → Type 0} {m n : ℕ} → HowMany P m → HowMany P n → m ≡ n
  many_same x y = le_antisymm (many_le (λ a p. p) x y) (many_le (λ a p. p) y x)

-- ---- the image of those with P
pub many_image : {A B : Type 0} {P : A → Type 0} {n : ℕ} (f : A → B) → ((a b : A) → P a → P b → f a ≡ f b → a ≡ b) → HowMany P n
    → HowMany (λ b. (a : A) × P a × (f a ≡ b)) n
many_image f same x = record {
  nth = λ i. f (x.nth i);
  each = λ i l. (x.nth i, x.each i l, refl);
  once = λ i j l k e. x.once i j l k (same (x.nth i) (x.nth j) (x.each i l) (x.each j k) e);
  all = λ b q. let i = x.all q.0 q.1 in (i.0, i.1, ap f i.2 ∙ q.2);
}

-- ---- of a set
below : (m n : ℕ) → HowMany (λ k. (k < n) × Has m k) (size m n)
unfolding size
below m zero = many_none 0 (λ k h. absurd (omega arith))
below m (suc n) = many_along iff (many_both (below m n) (last (bit m n) refl (bit_two m n)) (λ k p q. let e = q.0 in let l = p.0 in omega arith))
  where
    last : (b : ℕ) → bit m n ≡ b → b < 2 → HowMany (λ k. (n ≡ k) × Has m n) b
    last zero e l = many_none 0 (λ k h. let z = h.1 in absurd (omega arith))
    last (suc zero) e l = many_along (λ k. (λ q. (q, e), λ q. q.0)) (many_one n)
    last (suc (suc b)) e l = absurd (omega arith)

    iff : (k : ℕ) → (((k < n) × Has m k) ⊎ ((n ≡ k) × Has m n)) ↔ ((k < suc n) × Has m k)
    iff k = (into, from (ℕ_discrete n k))
      where
        into : ((k < n) × Has m k) ⊎ ((n ≡ k) × Has m n) → (k < suc n) × Has m k
        into (inl h) = (omega arith, h.1)
        into (inr h) = (omega arith, subst (Has m) h.0 h.1)

        from : Dec (n ≡ k) → (k < suc n) × Has m k → ((k < n) × Has m k) ⊎ ((n ≡ k) × Has m n)
        from (yes e) h = inr (e, subst (Has m) (sym e) h.1)
        from (no e) h = inl (omega arith, h.1)

pub many_set : (n m : ℕ) → m < 2 ^ n → HowMany (Has m) (size m n)
many_set n m f = many_along (λ k. (λ h. h.1, λ h. (has_lt n m k f h, h))) (below m n)

-- ---- pairs, one row more: those of a kind that has none of row k, then row k
pub many_row : {A : Type 0} {S : ℕ × A → Type 0} {Q : A → Type 0} {m n : ℕ} (k : ℕ) → HowMany S m → HowMany Q n
    → ((a : A) → S (k, a) → ⊥) → HowMany (λ p. S p ⊎ ((p.0 ≡ k) × Q p.1)) (m + n)
many_row {A} {S} {Q} k x y apart = many_along iff (many_both x (many_image (λ a. (k, a)) (λ a b p q e. ap (λ (p : ℕ × A). p.1) e) y) other)
  where
    other : (p : ℕ × A) → S p → (a : A) × Q a × ((k, a) ≡ p) → ⊥
    other p s q = apart q.0 (subst S (sym q.2) s)

    iff : (p : ℕ × A) → (S p ⊎ ((a : A) × Q a × ((k, a) ≡ p))) ↔ (S p ⊎ ((p.0 ≡ k) × Q p.1))
    iff p = (into, from)
      where
        into : S p ⊎ ((a : A) × Q a × ((k, a) ≡ p)) → S p ⊎ ((p.0 ≡ k) × Q p.1)
        into (inl s) = inl s
        into (inr q) = inr (sym (ap (λ (p : ℕ × A). p.0) q.2), subst Q (ap (λ (p : ℕ × A). p.1) q.2) q.1)

        from : S p ⊎ ((p.0 ≡ k) × Q p.1) → S p ⊎ ((a : A) × Q a × ((k, a) ≡ p))
        from (inl s) = inl s
        from (inr q) = inr (p.1, q.1, λ i. (sym q.0 i, p.1))
