-- There is a ring where anybody is named and each named task has a step.
use mathlib.Core.Path.{◌≡◌, refl, sym, ap, ◌∙◌}
use mathlib.Core.Logic.Dec
use mathlib.Core.List.{List, [], ◌∷◌}
use Prim.Native.Nat.{ℕ, zero, suc, ◌+◌, ◌-◌, ◌^◌, ◌≤◌, ◌<◌}
use native.Mathlib.Nat.{add-zero}
use native.Mathlib.Decide.{dec_lt, ℕ_discrete}
use native.Mathlib.Omega.{arith}
use lib.ListN.{length, get_or}
use lib.Count.{count_trailing_zeros}
use Rattle.sets.specs.Set.{Has, size}
use Rattle.sets.proofs.Least.{trailing_least}
use Rattle.deadlock.specs.Ring.{Step, RingWalk, Ring}
use Rattle.deadlock.proofs.Search.{lowest_at, first_with}
use Rattle.deadlock.proofs.Rings.{together, always, walk_repeats}

-- the places of a walk, from a on
unfoldable pub places : (ℕ → ℕ) → ℕ → ℕ → List ℕ
places w a zero = []
places w a (suc n) = w a ∷ places w (suc a) n

pub length_places : (w : ℕ → ℕ) (a n : ℕ) → length (places w a n) ≡ n
unfolding places
length_places w a zero = refl
length_places w a (suc n) = ap suc (length_places w (suc a) n)

pub get_d_places : (w : ℕ → ℕ) (a n i : ℕ) → i < n → get_or (places w a n) i 0 ≡ w (a + i)
unfolding places
get_d_places w a zero i h = absurd (omega arith)
get_d_places w a (suc n) zero h = ap w (sym (add-zero a))
get_d_places w a (suc n) (suc i) h = let e : suc a + i ≡ a + suc i = omega arith in get_d_places w (suc a) n i (omega arith) ∙ ap w e

-- ---- a walk that is at i + p where it was at i, and is lowest of these p at i + b
module _ (Named : ℕ → Type 0) (Edge : ℕ → ℕ → Type 0) (w : ℕ → ℕ) (a : RingWalk Named Edge w) (i p : ℕ) (some : 0 < p) (back : w (i + p) ≡ w i) (b : ℕ)
    (lowest : (c : ℕ) → c < p → w (i + b) ≤ w (i + c)) where
  home : w (i + b + p) ≡ w (i + b)
  home = let z : i + p + b ≡ i + b + p = omega arith in rw z at (together Named Edge w w a a (i + p) i back b)

  low : (d : ℕ) → w (i + b) ≤ w (i + b + d)
  low d =
      let z : i + (b + d) ≡ i + b + d = omega arith in
      rw z at (always Named Edge w a i p some back (λ t. w (i + b) ≤ t) lowest (b + d))

  -- from there to where it is first back
  abbrev turned : (q : ℕ) → 0 < q → w (i + b + q) ≡ w (i + b) → ((j : ℕ) → j < q → (0 < j) × (w (i + b + j) ≡ w (i + b)) → ⊥)
      → Ring Named Edge (places w (i + b) q)
  turned q pos home first =
      let len = length_places w (i + b) q in
      record {
        walk = w;
        walks = a;
        from = i + b;
        some = omega arith;
        here = λ k l. get_d_places w (i + b) q k (omega arith);
        back = rw len home;
        lowest = λ k h l. above k h (omega arith) (ℕ_discrete (w (i + b + k)) (w (i + b)));
      }
    where
      above : (k : ℕ) → 0 < k → k < q → Dec (w (i + b + k) ≡ w (i + b)) → w (i + b) < w (i + b + k)
      above k h l (yes z) = absurd (first k l (h, z))
      above k h l (no z) = let y = low k in omega arith

module _ (n m : ℕ) (fits : m < 2 ^ n) (Edge : ℕ → ℕ → Type 0) where
  -- ---- the ring of a walk that there is
  pub record Found : Type 0 where
    pub list : List ℕ
    pub ring : Ring (Has m) Edge list
    pub soon : ring.from ≤ size m n

  pub walk_ring : (w : ℕ → ℕ) → RingWalk (Has m) Edge w → Found
  walk_ring w a =
      let e = walk_repeats n m fits Edge w a in
      let i = e.0 in
      let p = e.1 - e.0 in
      let z : e.0 + (e.1 - e.0) ≡ e.1 = omega arith in
      let back : w (i + p) ≡ w i = ap w z ∙ sym e.4 in
      let b = lowest_at (λ d. w (i + d)) p (omega arith) in
      let f = i + b.0 in
      let r = home (Has m) Edge w a i p (omega arith) back b.0 b.2 in
      let q = first_with (λ q. (0 < q) × (w (f + q) ≡ w f)) (λ q. Dec.and (dec_lt 0 q) (ℕ_discrete (w (f + q)) (w f))) p (omega arith, r) in
      record {
        list = places w f q.0;
        ring = turned (Has m) Edge w a i p (omega arith) back b.0 b.2 q.0 q.2.0 q.2.1 q.3;
        soon = omega (arith, e.3);
      }

  -- ---- and there is a walk
  module _ (some : 0 < m) (step : (t : ℕ) → Has m t → (u : ℕ) × Step (Has m) Edge t u) where
    at : ℕ → (t : ℕ) × Has m t
    at zero = let l = trailing_least n m fits some in (count_trailing_zeros n m, l.holds)
    at (suc k) = let r = at k in let s = step r.0 r.1 in (s.0, s.1.holds.0)

    pub ring_walk : (w : ℕ → ℕ) × RingWalk (Has m) Edge w
    unfolding at
    ring_walk = (λ k. (at k).0, record { starts = trailing_least n m fits some; steps = λ k. (step (at k).0 (at k).1).1 })

    pub ring_exists : (r : List ℕ) × Ring (Has m) Edge r
    ring_exists = let w = ring_walk in let f = walk_ring w.0 w.1 in (f.list, f.ring)
