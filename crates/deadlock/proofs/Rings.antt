-- The ring is one, has no repeats, and is no longer than the named set; over any named tasks and any edges.
use mathlib.Core.Path.{◌≡◌, sym, ap, ◌∙◌, subst}
use mathlib.Core.Logic.{◌⊎◌, inl, inr}
use mathlib.Core.List.{List}
use Prim.Native.Nat.{ℕ, zero, suc, ◌+◌, ◌-◌, ◌^◌, ◌≤◌, ◌<◌}
use native.Mathlib.Nat.{add-suc, add-zero, zero-add, le_antisymm}
use native.Mathlib.Decide.{dec_lt, ℕ_discrete}
use native.Mathlib.Omega.{arith}
use lib.ListN.{length, get_or}
use lib.Seq.{ext_get_or}
use lib.Bits.{bit_and}
use Rattle.sets.specs.Set.{Has, size}
use Rattle.sets.proofs.Members.{Taken, has_lt, without_taken}
use Rattle.sets.proofs.Sizes.{size_taken}
use Rattle.sets.proofs.Least.{least_one}
use Rattle.deadlock.specs.Ring.{Step, RingWalk, Ring}

-- ---- a walk in a set is back at a task already seen within as many steps as the set has members
module _ (w : ℕ → ℕ) (n m : ℕ) (fits : m < 2 ^ n) (inside : (k : ℕ) → k ≤ size m n → Has m (w k)) where
  abbrev Twice : ℕ → Type 0
  Twice k = (i j : ℕ) × (i < j) × (j < k) × (w i ≡ w j)

  -- `left` has those of the set that the first k places have not seen
  pub record Fresh (k : ℕ) : Type 0 where
    pub left : ℕ
    pub count : size left n + k ≡ size m n
    pub unseen : (u : ℕ) → Has m u → Has left u ⊎ ((i : ℕ) × (i < k) × (w i ≡ u))

  seen : (k : ℕ) → k ≤ suc (size m n) → Twice k ⊎ Fresh k
  seen zero h = inr (record { left = m; count = add-zero (size m n); unseen = λ u l. inl l })
  seen (suc k) h = more (seen k (omega arith))
    where
      more : Twice k ⊎ Fresh k → Twice (suc k) ⊎ Fresh (suc k)
      more (inl r) = inl (r.0, r.1, r.2, omega arith, r.4)
      more (inr g) = turn (g.unseen (w k) (inside k (omega arith)))
        where
          rest : ℕ
          rest = g.left - bit_and g.left (2 ^ w k)

          taken : Taken g.left (w k) rest
          taken = without_taken g.left (w k)

          keep : (u : ℕ) → Dec (u ≡ w k) → Has g.left u ⊎ ((i : ℕ) × (i < k) × (w i ≡ u)) → Has rest u ⊎ ((i : ℕ) × (i < suc k) × (w i ≡ u))
          keep u (yes e) x = inr (k, omega arith, sym e)
          keep u (no e) (inl x) = inl ((taken u).1 (x, e))
          keep u (no e) (inr x) = inr (x.0, omega arith, x.2)

          turn : Has g.left (w k) ⊎ ((i : ℕ) × (i < k) × (w i ≡ w k)) → Twice (suc k) ⊎ Fresh (suc k)
          turn (inl x) =
              let z = size_taken g.left (w k) rest taken n (has_lt n m (w k) fits (inside k (omega arith))) x in
              let c = g.count in
              inr (record { left = rest; count = omega arith; unseen = λ u l. keep u (ℕ_discrete u (w k)) (g.unseen u l) })
          turn (inr x) = inl (x.0, k, x.1, omega arith, x.2)

  pub repeats : (i j : ℕ) × (i < j) × (j ≤ size m n) × (w i ≡ w j)
  repeats = turn (seen (suc (size m n)) (omega arith))
    where
      turn : Twice (suc (size m n)) ⊎ Fresh (suc (size m n)) → (i j : ℕ) × (i < j) × (j ≤ size m n) × (w i ≡ w j)
      turn (inl r) = (r.0, r.1, r.2, omega arith, r.4)
      turn (inr g) = let c = g.count in absurd (omega arith)

module _ (Named : ℕ → Type 0) (Edge : ℕ → ℕ → Type 0) where
  abbrev Walk : (ℕ → ℕ) → Type 0
  Walk = RingWalk Named Edge

  pub walk_named : (w : ℕ → ℕ) → Walk w → (k : ℕ) → Named (w k)
  walk_named w a zero = a.starts.holds
  walk_named w a (suc k) = (a.steps k).holds.0

  -- two walks that meet go on together
  pub together : (w v : ℕ → ℕ) → Walk w → Walk v → (i j : ℕ) → w i ≡ v j → (d : ℕ) → w (i + d) ≡ v (j + d)
  together w v a b i j e zero = rw (add-zero i, add-zero j) e
  together w v a b i j e (suc d) =
      let h = together w v a b i j e d in
      rw (add-suc i d, add-suc j d) (least_one _ _ _ (subst (λ x. Step Named Edge x (w (suc (i + d)))) h (a.steps (i + d))) (b.steps (j + d)))

  -- there is one walk
  pub walk_one : (w v : ℕ → ℕ) → Walk w → Walk v → (d : ℕ) → w d ≡ v d
  walk_one w v a b d = rw zero-add at (together w v a b 0 0 (least_one Named _ _ a.starts b.starts) d)

  -- ---- a walk that is at place k + p where it was at place k
  module _ (w : ℕ → ℕ) (a : Walk w) (k p : ℕ) (some : 0 < p) (back : w (k + p) ≡ w k) where
    -- it is there again and again
    pub again : (K : ℕ) → k ≤ K → (e : ℕ) × (K ≤ e) × (e < K + p) × (w e ≡ w k)
    again zero l = let z : k ≡ 0 = omega arith in (0, omega arith, omega arith, ap w (sym z))
    again (suc K) l = turn (dec_lt k (suc K)) (again K)
      where
        turn : Dec (k < suc K) → (k ≤ K → (e : ℕ) × (K ≤ e) × (e < K + p) × (w e ≡ w k)) → (e : ℕ) × (suc K ≤ e) × (e < suc K + p) × (w e ≡ w k)
        turn (no n) f = let z : k ≡ suc K = omega arith in (suc K, omega arith, omega arith, ap w (sym z))
        turn (yes n) f = near (f (omega arith))
          where
            near : (e : ℕ) × (K ≤ e) × (e < K + p) × (w e ≡ w k) → (e : ℕ) × (suc K ≤ e) × (e < suc K + p) × (w e ≡ w k)
            near r = pick (dec_lt K r.0)
              where
                pick : Dec (K < r.0) → (e : ℕ) × (suc K ≤ e) × (e < suc K + p) × (w e ≡ w k)
                pick (yes q) = (r.0, omega arith, omega arith, r.3)
                pick (no q) = (r.0 + p, omega arith, omega arith, together w w a a r.0 k r.3 p ∙ back)

    -- what holds at p places from k on holds from k on
    pub always : (P : ℕ → Type 0) → ((d : ℕ) → d < p → P (w (k + d))) → (d : ℕ) → P (w (k + d))
    always P f d = down d d (omega arith)
      where
        down : (g d : ℕ) → d ≤ g → P (w (k + d))
        down zero d h = f d (omega arith)
        down (suc g) d h = turn (dec_lt d p) (λ l. down g (d - p) (omega arith))
          where
            turn : Dec (d < p) → (p ≤ d → P (w (k + (d - p)))) → P (w (k + d))
            turn (yes l) r = f d l
            turn (no l) r =
                let i : k + p + (d - p) ≡ k + d = omega arith in
                let e : w (k + d) ≡ w (k + (d - p)) = rw i at (together w w a a (k + p) k back (d - p)) in
                rw e (r (omega arith))

  module _ (r : List ℕ) (x : Ring Named Edge r) where
    -- the first of the ring is the lowest of all that follow
    pub ring_low : (d : ℕ) → x.walk x.from ≤ x.walk (x.from + d)
    ring_low = always x.walk x.walks x.from (length r) x.some x.back (λ t. x.walk x.from ≤ t) (λ d l. near d l (dec_lt 0 d))
      where
        near : (d : ℕ) → d < length r → Dec (0 < d) → x.walk x.from ≤ x.walk (x.from + d)
        near d l (yes q) = let z = x.lowest d q l in omega arith
        near d l (no q) = let z : d ≡ 0 = omega arith in rw (z, add-zero) (omega arith)

    -- no task stands in it twice
    pub ring_apart : (i j : ℕ) → i < j → j < length r → get_or r i 0 ≡ get_or r j 0 → ⊥
    ring_apart i j h l e =
        let f = x.from in
        let q = sym (x.here i (omega arith)) ∙ e ∙ x.here j l in
        let n = length r - j in
        let a : f + j + n ≡ f + length r = omega arith in
        let b : f + i + n ≡ f + (i + n) = omega arith in
        let y = rw (a, b) at (together x.walk x.walk x.walks x.walks (f + i) (f + j) q n) in
        let z = x.lowest (i + n) (omega arith) (omega arith) in
        let v = x.back in
        omega arith

  -- ---- the ring is one
  module _ (r s : List ℕ) (x : Ring Named Edge r) (y : Ring Named Edge s) where
    first_le : x.walk x.from ≤ y.walk y.from
    first_le =
        let e = again y.walk y.walks y.from (length s) y.some y.back (x.from + y.from) (omega arith) in
        let i : x.from + (e.0 - x.from) ≡ e.0 = omega arith in
        rw (i, walk_one x.walk y.walk x.walks y.walks e.0, e.3) at (ring_low r x (e.0 - x.from))

  in_step : (r s : List ℕ) (x : Ring Named Edge r) (y : Ring Named Edge s) (d : ℕ) → x.walk (x.from + d) ≡ y.walk (y.from + d)
  in_step r s x y = together x.walk y.walk x.walks y.walks x.from y.from (le_antisymm (first_le r s x y) (first_le s r y x))

  length_le : (r s : List ℕ) → Ring Named Edge r → Ring Named Edge s → length r ≤ length s
  length_le r s x y = turn (dec_lt (length s) (length r))
    where
      turn : Dec (length s < length r) → length r ≤ length s
      turn (no l) = omega arith
      turn (yes l) =
          let a = x.lowest (length s) y.some l in
          let b = in_step r s x y (length s) ∙ y.back in
          let c = first_le s r y x in
          absurd (omega arith)

  pub ring_one : (r s : List ℕ) → Ring Named Edge r → Ring Named Edge s → r ≡ s
  ring_one r s x y =
      ext_get_or 0 r s (le_antisymm (length_le r s x y) (length_le s r y x))
      (λ i l. x.here i l ∙ in_step r s x y i ∙ sym (y.here i (let z = length_le r s x y in omega arith)))

-- ---- where the named tasks are a set
module _ (n m : ℕ) (fits : m < 2 ^ n) (Edge : ℕ → ℕ → Type 0) where
  pub walk_repeats : (w : ℕ → ℕ) → RingWalk (Has m) Edge w → (i j : ℕ) × (i < j) × (j ≤ size m n) × (w i ≡ w j)
  walk_repeats w a = repeats w n m fits (λ k l. walk_named (Has m) Edge w a k)

  pub ring_short : (r : List ℕ) → Ring (Has m) Edge r → length r ≤ size m n
  ring_short r x = turn (dec_lt (size m n) (length r))
    where
      turn : Dec (size m n < length r) → length r ≤ size m n
      turn (no l) = omega arith
      turn (yes l) =
          let e = repeats (λ k. x.walk (x.from + k)) n m fits (λ k q. walk_named (Has m) Edge x.walk x.walks (x.from + k)) in
          absurd (ring_apart (Has m) Edge r x e.0 e.1 e.2 (omega arith) (x.here e.0 (omega arith) ∙ e.4 ∙ sym (x.here e.1 (omega arith))))
