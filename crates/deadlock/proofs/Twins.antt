-- The named set and the ring, to compute with.
use mathlib.Core.Path.{◌≡◌, refl, ap, ◌∙◌}
use mathlib.Core.Logic.{inl}
use mathlib.Core.Bool.{Bool, true, false}
use mathlib.Core.List.{List}
use Prim.Native.Nat.{ℕ, zero, suc, ◌+◌, ◌-◌, ◌*◌, ◌^◌, ◌<◌}
use native.Mathlib.Decide.{dec_lt, ℕ_discrete}
use native.Mathlib.Omega.{arith}
use lib.ListN.{get_or}
use lib.Dec.{ltb, eqb}
use lib.Bits.{bit_and, and_le_r}
use lib.Count.{count_trailing_zeros}
use borrow.Author.Tests.{lt-ltb, le-ltb, eq-eqb, ne_eqb}
use Rattle.sets.specs.Set.{bit, Has, size}
use Rattle.sets.proofs.Members.{has_lt, has_pos, and_iff, without_taken, taken_lt}
use Rattle.sets.proofs.Least.{least_along, trailing_has, trailing_least, trailing_lowest}
use Rattle.deadlock.specs.Walk.{Row, NamedBy}
use Rattle.deadlock.specs.Ring.{Step, Ring, Next}
use Rattle.deadlock.specs.Parts.{go_of}
use Rattle.deadlock.proofs.Clearing.{RowClearing, named_closed, clear_pass, clear_done, rows_start, rows_drop, rows_keep}
use Rattle.deadlock.proofs.Found.{places, get_d_places}
use Rattle.deadlock.proofs.Stepping.{step_in, go_suc}
use Rattle.deadlock.proofs.Reached.{ring_from, ring_from_lem}
use Rattle.deadlock.proofs.Moves.{next_ring}

-- the arms wait: a call's arguments are computed first
abbrev choose : Bool → (Unit {0} → ℕ) → (Unit {0} → ℕ) → ℕ
choose true a b = a tt
choose false a b = b tt

unfoldable pub clear : ℕ → List ℕ → ℕ → ℕ → ℕ
clear zero rows m t = m
clear (suc fuel) rows m t =
    choose (ltb t 32)
    (λ _. choose (eqb (bit m t) 1)
    (λ _. choose (eqb (bit_and (get_or rows t 0) m) 0) (λ _. clear fuel rows (m - bit_and m (2 ^ t)) 0) (λ _. clear fuel rows m (t + 1)))
    (λ _. clear fuel rows m (t + 1)))
    (λ _. m)

unfoldable pub named_of : List ℕ → ℕ → ℕ
unfolding clear
named_of rows among = clear (2 ^ 32 * 33) rows among 0

clear_named : (fuel among : ℕ) (rows : List ℕ) (m t : ℕ) → m * 33 + (32 - t) < fuel → RowClearing among rows m t
    → NamedBy (Row among rows) (clear fuel rows m t)
unfolding clear
clear_named zero among rows m t h g = absurd (omega arith)
clear_named (suc fuel) among rows m t h g =
    turn (dec_lt t 32) (ℕ_discrete (bit m t) 1) (ℕ_discrete (bit_and (get_or rows t 0) m) 0) (clear_named fuel among rows)
  where
    f : m < 2 ^ 32
    f = g.fits

    turn : Dec (t < 32) → Dec (Has m t) → Dec (bit_and (get_or rows t 0) m ≡ 0)
        → ((m t : ℕ) → m * 33 + (32 - t) < fuel → RowClearing among rows m t → NamedBy (Row among rows) (clear fuel rows m t))
        → NamedBy (Row among rows) (clear (suc fuel) rows m t)
    turn (no l) b c r =
        rw (le-ltb t 32 (omega arith)) (clear_done among (Row among rows) m (let e : t ≡ 32 = (let z = g.near in omega arith) in rw e at g))
    turn (yes l) (no b) c r =
        rw (lt-ltb t 32 l, ne_eqb (bit m t) 1 b) (r m (t + 1) (omega arith) (clear_pass among (Row among rows) m t g l (λ h. absurd (b h))))
    turn (yes l) (yes b) (no c) r =
        let le = and_le_r (get_or rows t 0) m in
        rw (lt-ltb t 32 l, eq-eqb (bit m t) 1 b, ne_eqb (bit_and (get_or rows t 0) m) 0 c)
        (r m (t + 1) (omega arith) (rows_keep among rows m t _ g l (and_iff (get_or rows t 0) m) (omega arith) c))
    turn (yes l) (yes b) (yes c) r =
        let x : m - bit_and m (2 ^ t) < 2 ^ 32 = omega arith in
        let y = taken_lt 32 m t (m - bit_and m (2 ^ t)) x b (without_taken m t) in
        rw (lt-ltb t 32 l, eq-eqb (bit m t) 1 b, eq-eqb (bit_and (get_or rows t 0) m) 0 c)
        (r (m - bit_and m (2 ^ t)) 0 (omega arith)
        (rows_drop among rows m t _ g l (and_iff (get_or rows t 0) m) c (m - bit_and m (2 ^ t)) x (without_taken m t)))

pub named_of_named : (rows : List ℕ) (among : ℕ) → among < 2 ^ 32 → NamedBy (Row among rows) (named_of rows among)
unfolding named_of
named_of_named rows among f = clear_named (2 ^ 32 * 33) among rows among 0 (omega arith) (rows_start among rows f among refl)

-- ---- the ring, from the number at each task's place
unfoldable pub ring_of : List ℕ → ℕ → List ℕ
ring_of next m = ring_from next m (count_trailing_zeros 32 m) (size m 32)

module _ (next : List ℕ) (m : ℕ) (f : m < 2 ^ 32) (p : 0 < m) (closed : (t : ℕ) → Has m t → Has m (get_or next t 0)) where
  go_inside : (k : ℕ) → Has m (go_of next m (count_trailing_zeros 32 m) k)
  unfolding go_of
  go_inside zero = trailing_has 32 m f p
  go_inside (suc k) =
      let t = go_of next m (count_trailing_zeros 32 m) k in
      let c = closed t (go_inside k) in
      rw (go_suc next m (count_trailing_zeros 32 m) k, step_in next m t (has_lt 32 m t f (go_inside k)) c) c

  pub ring_of_ring : Ring (Has m) (Next next) (ring_of next m)
  unfolding ring_of
  ring_of_ring =
      let n = size m 32 in
      ring_from_lem next m f (count_trailing_zeros 32 m) (trailing_lowest m f) n (omega arith)
      (has_lt 32 m (go_of next m (count_trailing_zeros 32 m) n) f (go_inside n))

-- ---- the ring, from rows of edges: the lowest of row t that is named stands at the place of t
unfoldable pub nexts_of : List ℕ → ℕ → List ℕ
unfolding places
nexts_of rows m = places (λ t. count_trailing_zeros 32 (bit_and (get_or rows t 0) m)) 0 32

nexts_at : (rows : List ℕ) (m t : ℕ) → t < 32 → get_or (nexts_of rows m) t 0 ≡ count_trailing_zeros 32 (bit_and (get_or rows t 0) m)
unfolding nexts_of
nexts_at rows m t l =
    let z : 0 + t ≡ t = omega arith in
    get_d_places (λ t. count_trailing_zeros 32 (bit_and (get_or rows t 0) m)) 0 32 t l ∙ ap (λ t. count_trailing_zeros 32 (bit_and (get_or rows t 0) m)) z

module _ (among : ℕ) (rows : List ℕ) (m : ℕ) (f : m < 2 ^ 32) (named : NamedBy (Row among rows) m) where
  nexts_step : (t : ℕ) → Has m t → Step (Has m) (Row among rows) t (get_or (nexts_of rows m) t 0)
  nexts_step t h =
      let l = has_lt 32 m t f h in
      let c = named_closed (Row among rows) m named t h in
      let both = and_iff (get_or rows t 0) m in
      let some = has_pos _ c.0 ((both c.0).1 (c.2.1, c.1)) in
      let le = and_le_r (get_or rows t 0) m in
      let low = trailing_least 32 (bit_and (get_or rows t 0) m) (omega arith) some in
      rw (nexts_at rows m t l) (least_along (λ v q. let b = (both v).0 q in (b.1, (c.2.0, b.0))) (λ v q. (both v).1 (q.1.1, q.0)) low)

  pub rows_ring : 0 < m → Ring (Has m) (Row among rows) (ring_of (nexts_of rows m) m)
  rows_ring p =
      next_ring (nexts_of rows m) m f (Row among rows) (λ t h. inl (nexts_step t h)) (ring_of (nexts_of rows m) m)
      (ring_of_ring (nexts_of rows m) m f p (λ t h. (nexts_step t h).holds.0))
