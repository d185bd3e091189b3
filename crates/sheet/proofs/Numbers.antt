-- A number that is read stands on the sheet as its bytes, and the bytes of a number are read as that number.
use Prim.Native.Nat.{ℕ, zero, suc, ◌+◌, ◌-◌, ◌*◌, ◌/◌, ◌%◌, ◌^◌, ◌≤◌, ◌<◌}
use mathlib.Core.Path.{◌≡◌, refl, sym, ap, ◌∙◌}
use mathlib.Core.List.{List, [], ◌∷◌, ◌++◌, append_assoc}
use mathlib.Core.Bool.{Bool, true, false}
use native.Mathlib.Numerals.{add-one}
use native.Mathlib.Omega.{arith}
use lib.ListN.{length, get_or, take, drop, length-drop}
use lib.Seq.{take-suc, drop-drop, get_or-drop}
use lib.Dec.{eqb, ltb, leb}
use borrow.Author.Tests.{eqb-false, ltb-true, ltb-false, leb-true, leb-false, lt-ltb, le-ltb, lt-leb, le-leb, ne_eqb}
use Rattle.fields.specs.Got.{value}
use Rattle.fields.specs.Figures.{further}
use Rattle.fields.specs.Number.{groups_at, plain_at, number_at, rising_at, groups_of, number_bytes}
use Rattle.sheet.proofs.Same.{Ok, fine, none, same_onward, same_if, same_weaker}

-- what stands on a sheet are bytes
abbrev pub Bytes : List ℕ → Type 0
Bytes s = (i : ℕ) → get_or s i 0 < 256

-- the largest number that the groups hold
abbrev pub any_number : ℕ
any_number = 128 ^ suc further - 1

-- a number under 128 has one group
one_group : (k v : ℕ) → v < 128 → groups_of (suc k) v ≡ v ∷ []
one_group k v h = rw (lt-ltb v 128 h)

pub one_byte : (v : ℕ) → v < 128 → number_bytes v ≡ v ∷ []
unfolding number_bytes
one_byte v h = one_group 9 v h

-- a number of 128 or more has a group after its first
further_one : (k n : ℕ) → n < 128 ^ suc k → 128 ≤ n → 0 < k
further_one zero n h b = absurd (omega arith)
further_one (suc k) n h b = omega arith

-- more groups than it takes make no difference
groups_enough : (k j n : ℕ) → n < 128 ^ k → 0 < k → k ≤ j → groups_of j n ≡ groups_of k n
groups_enough (suc k) (suc j) n h p l = go (ltb n 128) refl (groups_enough k j (n / 128))
  where
    go : (b : Bool) → ltb n 128 ≡ b → (n / 128 < 128 ^ k → 0 < k → k ≤ j → groups_of j (n / 128) ≡ groups_of k (n / 128))
        → groups_of (suc j) n ≡ groups_of (suc k) n
    go true t ih = rw t
    go false t ih = rw (t, ih (omega arith) (further_one k n h (ltb-false n 128 t)) (omega arith))
groups_enough (suc k) zero n h p l = absurd (omega arith)
groups_enough zero j n h p l = absurd (omega arith)

-- a number that a reader takes, in as many groups as it may have
number_groups : (n : ℕ) → n < 128 ^ suc further → number_bytes n ≡ groups_of (suc further) n
unfolding number_bytes
number_groups n h = groups_enough (suc further) 10 n h (omega arith) (omega arith)

-- ---- what was read
record Stands (k : ℕ) (s : List ℕ) (at v next : ℕ) : Type 0 where
  pub place : next ≡ at + length (groups_of k v)
  pub bytes : take next s ≡ take at s ++ groups_of k v
  pub short : length (groups_of k v) ≤ k
  pub small : v < 128 ^ k

pow_pos : (k : ℕ) → 0 < 128 ^ k
pow_pos zero = omega arith
pow_pos (suc k) = omega (arith, pow_pos k)

module _ (s : List ℕ) (eight : Bytes s) where
  first : (k at : ℕ) → at < length s → get_or s at 0 < 128 → Stands (suc k) s at (get_or s at 0) (at + 1)
  first k at h l =
      let e = one_group k (get_or s at 0) l in
      record { place = rw e; bytes = rw (e, add-one) (take-suc s at 0 h); short = rw e (omega arith); small = omega (arith, pow_pos k) }

  after : (k at : ℕ) → at < length s → 128 ≤ get_or s at 0 → (v next : ℕ) → ¬ (v ≡ 0) → Stands k s (at + 1) v next
      → Stands (suc k) s at (get_or s at 0 - 128 + v * 128) next
  after k at h b v next nz n =
      let x : ℕ = get_or s at 0 - 128 + v * 128 in
      let m : x % 128 + 128 ≡ get_or s at 0 = omega (arith, eight at) in
      let d : x / 128 ≡ v = omega (arith, eight at) in
      let g : groups_of (suc k) x ≡ get_or s at 0 ∷ groups_of k v = rw (le-ltb x 128 (omega arith), m, d) in
      record {
        place = rw g (omega (arith, n.place));
        bytes = rw g (n.bytes ∙ rw (add-one, take-suc s at 0, append_assoc));
        short = rw g (omega (arith, n.short));
        small = omega (arith, eight at, n.small);
      }

  groups_ok : (k at : ℕ) → Ok (Stands k s at) (groups_at k s at)
  groups_ok zero at = none tt
  groups_ok (suc k) at =
      same_if _ (leb (length s) at) (λ e. none tt) (λ e.
      same_if _ (ltb (get_or s at 0) 128)
      (λ f. fine (first k at (leb-false _ _ e) (ltb-true _ _ f)))
      (λ f. same_onward (groups_ok k (at + 1)) (λ v next n.
      same_if _ (eqb v 0) (λ z. none tt) (λ z. fine (after k at (leb-false _ _ e) (ltb-false _ _ f) v next (eqb-false v 0 z) n)))))

-- a number between a floor and a largest value
pub record Read (s : List ℕ) (m floor at v next : ℕ) : Type 0 where
  pub place : next ≡ at + length (number_bytes v)
  pub bytes : take next s ≡ take at s ++ number_bytes v
  pub short : length (number_bytes v) ≤ suc further
  pub most : v ≤ m
  pub least : floor ≤ v

-- the same number, between others
within : {s : List ℕ} {m m' floor floor' at v next : ℕ} → Read s m floor at v next → v ≤ m' → floor' ≤ v
    → Read s m' floor' at v next
within r most least = record { place = r.place; bytes = r.bytes; short = r.short; most = most; least = least }

module _ (s : List ℕ) (eight : Bytes s) where
  pub plain_ok : (at : ℕ) → Ok (Read s any_number 0 at) (plain_at s at)
  unfolding plain_at
  plain_ok at =
      same_weaker
      (λ v next n.
      let e = number_groups v n.small in
      record { place = rw e n.place; bytes = rw e n.bytes; short = rw e n.short; most = omega (arith, n.small); least = omega arith })
      (groups_ok s eight (suc further) at)

  pub number_ok : (m at : ℕ) → Ok (Read s m 0 at) (number_at s m at)
  unfolding number_at
  number_ok m at =
      same_onward (plain_ok at) (λ v next r. same_if _ (leb v m) (λ e. fine (within r (leb-true v m e) (omega arith))) (λ e. none tt))

  pub rising_ok : (m floor at : ℕ) → Ok (Read s m floor at) (rising_at s m floor at)
  unfolding rising_at
  rising_ok m floor at =
      same_onward (number_ok m at) (λ v next r. same_if _ (ltb v floor) (λ e. none tt) (λ e. fine (within r r.most (ltb-false v floor e))))

-- ---- what is to be read
record Front (s : List ℕ) (at b : ℕ) (l : List ℕ) : Type 0 where
  pub inside : at < length s
  pub byte : get_or s at 0 ≡ b
  pub behind : drop (at + 1) s ≡ l

front : (s : List ℕ) (at b : ℕ) (l : List ℕ) → drop at s ≡ b ∷ l → Front s at b l
front s at b l e = record {
  inside = omega (arith, length-drop at s, ap length e);
  byte = let z : at ≡ at + 0 = omega arith in ap (λ i. get_or s i 0) z ∙ sym (get_or-drop at s 0 0) ∙ ap (λ x. get_or x 0 0) e;
  behind = sym (drop-drop 1 at s) ∙ ap (drop 1) e;
}

groups_read : (k n : ℕ) (s : List ℕ) (at : ℕ) (rest : List ℕ) → n < 128 ^ k → drop at s ≡ groups_of k n ++ rest → 0 < k
    → groups_at k s at ≡ value n (at + length (groups_of k n))
groups_read zero n s at rest h e pos = elim pos [ ]
groups_read (suc k) n s at rest h e pos = go (groups_read k (n / 128) s (at + 1) rest) (ltb n 128) refl
  where
    go : (n / 128 < 128 ^ k → drop (at + 1) s ≡ groups_of k (n / 128) ++ rest → 0 < k
        → groups_at k s (at + 1) ≡ value (n / 128) (at + 1 + length (groups_of k (n / 128))))
        → (b : Bool) → ltb n 128 ≡ b → groups_at (suc k) s at ≡ value n (at + length (groups_of (suc k) n))
    go ih true t =
        let f : Front s at n rest = front s at n rest (rw t at e) in
        rw (t, lt-leb (length s) at f.inside, f.byte, t)
    go ih false t =
        let f : Front s at (n % 128 + 128) (groups_of k (n / 128) ++ rest) = front s at (n % 128 + 128) (groups_of k (n / 128) ++ rest) (rw t at e) in
        let big : 128 ≤ n = ltb-false n 128 t in
        let z : eqb (n / 128) 0 ≡ false = ne_eqb (n / 128) 0 (omega arith) in
        let v : n % 128 + 128 - 128 + n / 128 * 128 ≡ n = omega arith in
        let w : at + 1 + length (groups_of k (n / 128)) ≡ at + suc (length (groups_of k (n / 128))) = omega arith in
        let later = ih (omega arith) f.behind (further_one k n h big) in
        rw (t, lt-leb (length s) at f.inside, f.byte, le-ltb (n % 128 + 128) 128 (omega arith), later, z, v, w)

module _ (n : ℕ) (s : List ℕ) (at : ℕ) (rest : List ℕ) (here : drop at s ≡ number_bytes n ++ rest) where
  pub read_plain : n ≤ any_number → plain_at s at ≡ value n (at + length (number_bytes n))
  unfolding plain_at
  read_plain h =
      let e = number_groups n (omega arith) in
      rw e (groups_read (suc further) n s at rest (omega arith) (rw e at here) (omega arith))

  pub read_number : (m : ℕ) → m ≤ any_number → n ≤ m → number_at s m at ≡ value n (at + length (number_bytes n))
  unfolding number_at
  read_number m h l = rw (read_plain (omega arith), le-leb n m l)

  pub read_rising : (m floor : ℕ) → m ≤ any_number → n ≤ m → floor ≤ n → rising_at s m floor at ≡ value n (at + length (number_bytes n))
  unfolding rising_at
  read_rising m floor h l f = rw (read_number m h l, le-ltb n floor f)
