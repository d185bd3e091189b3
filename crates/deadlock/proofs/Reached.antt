-- The code's walk from the lowest named task comes to the ring, or to the place where it stops.
use mathlib.Core.Path.{◌≡◌, sym, ap, ◌∙◌, subst}
use mathlib.Core.Logic.{◌⊎◌, inl, inr}
use mathlib.Core.Bool.{false}
use mathlib.Core.List.{List, [], ◌++◌}
use Prim.Native.Nat.{ℕ, zero, suc, ◌+◌, ◌-◌, ◌^◌, ◌≤◌, ◌<◌}
use native.Mathlib.Nat.{add-zero}
use native.Mathlib.Decide.{dec_lt}
use native.Mathlib.Omega.{arith}
use lib.ListN.{length, get_or, replicate}
use lib.Seq.{ext_get_or}
use Rattle.sets.specs.Set.{Has, size, Least, LowestOf}
use Rattle.sets.proofs.Members.{has_lt}
use Rattle.sets.proofs.Sizes.{size_le}
use Rattle.deadlock.specs.declared.ring.Round.{Round}
use Rattle.deadlock.specs.Ring.{RingWalk, Ring, DeadEnd, Comes, round, stops, Shown, Next}
use Rattle.deadlock.specs.Parts.{go_of, low_of, once_of, Filled}
use Rattle.deadlock.proofs.Rings.{walk_one, repeats, again, ring_low, ring_short}
use Rattle.deadlock.proofs.Found.{Found, walk_ring}
use Rattle.deadlock.proofs.Stepping.{step_in, step_is, go_add, go_suc, go_before, low_le, low_all, low_is, once_is}

-- what the code goes round, so many steps from the task where the walk begins
unfoldable pub ring_from : List ℕ → ℕ → ℕ → ℕ → List ℕ
ring_from next m s steps =
    let late = go_of next m s steps in
    let low = low_of next m late late steps in
    once_of next m low low 32

module _ (next : List ℕ) (m : ℕ) (fits : m < 2 ^ 32) (s : ℕ) (start : LowestOf m s) where
  abbrev place : ℕ → ℕ
  place k = go_of next m s k

  -- where nobody is named the walk is nowhere from the start
  begins : s < 32 → Least (Has m) s
  begins l = go (dec_lt 0 m)
    where
      go : Dec (0 < m) → Least (Has m) s
      go (yes p) = start.some p
      go (no p) = let z = start.none (omega arith) in absurd (omega arith)

  -- ---- where as many steps as there are named tasks, or more, come to a task
  module _ (steps : ℕ) (enough : size m 32 ≤ steps) (closed : place steps < 32) where
    abbrev late : ℕ
    late = place steps

    inside : (k : ℕ) → k ≤ steps → Has m (place k)
    unfolding go_of
    inside zero l = (begins (go_before next m s 0 steps (omega arith) closed)).holds
    inside (suc k) l =
        let h = go_before next m s (suc k) steps l closed in
        let e = go_suc next m s k in
        rw e (step_is next m (place k) (rw e at h)).holds.0

    -- it comes back, so it goes on for ever
    on_and_on : (i j : ℕ) → i < j → j ≤ steps → place i ≡ place j → (g k : ℕ) → k ≤ g → place k < 32
    on_and_on i j p q e zero k h = has_lt 32 m (place k) fits (inside k (omega arith))
    on_and_on i j p q e (suc g) k h = turn (dec_lt steps k) (λ l. on_and_on i j p q e g (k - (j - i)) (omega arith))
      where
        turn : Dec (steps < k) → (steps < k → place (k - (j - i)) < 32) → place k < 32
        turn (no l) f = has_lt 32 m (place k) fits (inside k (omega arith))
        turn (yes l) f =
            let d = k - j in
            let a : j + d ≡ k = omega arith in
            let b : i + d ≡ k - (j - i) = omega arith in
            let back = go_add next m s j d ∙ ap (λ t. go_of next m t d) (sym e) ∙ sym (go_add next m s i d) in
            let c : place k ≡ place (k - (j - i)) = ap place (sym a) ∙ back ∙ ap place b in
            rw c (f (omega arith))

    forever : (k : ℕ) → place k < 32
    forever k =
        let r = repeats place 32 m fits (λ i l. inside i (omega arith)) in
        on_and_on r.0 r.1 r.2 (omega arith) r.4 k k (omega arith)

    walks : RingWalk (Has m) (Next next) place
    unfolding go_of
    walks = record {
      starts = begins (forever 0);
      steps = λ k. let e = go_suc next m s k in rw e (step_is next m (place k) (rw e at (forever (suc k))));
    }

    -- the ring that there is has the lowest first, and is gone round by then
    pub ring_from_lem : Ring (Has m) (Next next) (ring_from next m s steps)
    unfolding ring_from
    ring_from_lem = subst (Ring (Has m) (Next next)) (sym is) x
      where
        found : Found 32 m fits (Next next)
        found = walk_ring 32 m fits (Next next) place walks

        list : List ℕ
        list = found.list

        x : Ring (Has m) (Next next) list
        x = found.ring

        from : ℕ
        from = x.from

        low : ℕ
        low = low_of next m late late steps

        soon : from ≤ steps
        soon = let z = found.soon in omega arith

        few : length list ≤ size m 32
        few = ring_short 32 m fits (Next next) list x

        short : length list ≤ steps
        short = let z = few in omega arith

        same : (k : ℕ) → x.walk k ≡ place k
        same = walk_one (Has m) (Next next) x.walk place x.walks walks

        least : (k : ℕ) → steps ≤ k → place from ≤ place k
        least k l =
            let z : from + (k - from) ≡ k = (let y = soon in omega arith) in
            rw (z, same from, same k) at (ring_low (Has m) (Next next) list x (k - from))

        on : (i : ℕ) → go_of next m late i ≡ place (steps + i)
        on i = sym (go_add next m s steps i)

        above : place from ≤ low
        above = turn (low_is next m late late steps)
          where
            turn : (low ≡ late) ⊎ ((i : ℕ) × (low ≡ go_of next m late i)) → place from ≤ low
            turn (inl e) = let z = least steps (omega arith) in omega arith
            turn (inr e) = let z = least (steps + e.0) (omega arith) in let y = e.1 ∙ on e.0 in omega arith

        below : low ≤ place from
        below = turn (again (Has m) (Next next) x.walk x.walks from (length list) x.some x.back steps soon)
          where
            near : (i : ℕ) → i ≤ steps → Dec (0 < i) → low ≤ place (steps + i)
            near i l (yes p) = let z = low_all next m late late steps i p l in let y = on i in omega arith
            near i l (no p) = let z : i ≡ 0 = omega arith in let y = low_le next m late late steps in rw (z, add-zero) y

            turn : (e : ℕ) × (steps ≤ e) × (e < steps + length list) × (x.walk e ≡ x.walk from) → low ≤ place from
            turn e =
                let i = e.0 - steps in
                let z : steps + i ≡ e.0 = omega arith in
                let y = short in
                let v : low ≤ place e.0 = rw z at (near i (omega arith) (dec_lt 0 i)) in
                let q : place e.0 ≡ place from = sym (same e.0) ∙ e.3 ∙ same from in
                omega arith

        first : low ≡ place from
        first = let a = above in let b = below in omega arith

        goes : (i : ℕ) → go_of next m low i ≡ x.walk (from + i)
        goes i = ap (λ t. go_of next m t i) first ∙ sym (go_add next m s from i) ∙ sym (same (from + i))

        home : low ≡ x.walk from
        home = first ∙ sym (same from)

        once : (length (once_of next m low low 32) ≡ length list) × ((i : ℕ) → i < length list → get_or (once_of next m low low 32) i 0 ≡ go_of next m low i)
        once =
            once_is next m 32 low low (length list) x.some (omega (arith, few, size_le 32 m)) (goes (length list) ∙ x.back ∙ sym home)
            (λ i h l e. let z = x.lowest i h l in let y = sym (goes i) ∙ e ∙ home in omega arith)

        is : once_of next m low low 32 ≡ list
        is = ext_get_or 0 (once_of next m low low 32) list once.0 (λ i l. at i (let e = once.0 in omega arith))
          where
            at : (i : ℕ) → i < length list → get_or (once_of next m low low 32) i 0 ≡ get_or list i 0
            at i q = once.1 i q ∙ goes i ∙ sym (x.here i q)

  -- ---- where the walk has stopped, after any number of steps
  module _ (some : 0 < m) (steps : ℕ) (stopped : 32 ≤ place steps) where
    last : (k : ℕ) → 32 ≤ place k → (i : ℕ) × (place i < 32) × (32 ≤ place (suc i))
    unfolding go_of
    last zero h = let z = has_lt 32 m s fits (start.some some).holds in absurd (omega arith)
    last (suc k) h = turn (dec_lt (place k) 32) (last k)
      where
        turn : Dec (place k < 32) → (32 ≤ place k → (i : ℕ) × (place i < 32) × (32 ≤ place (suc i))) → (i : ℕ) × (place i < 32) × (32 ≤ place (suc i))
        turn (yes l) f = (k, l, h)
        turn (no l) f = f (omega arith)

    pub dead_end : DeadEnd (Has m) (Next next)
    unfolding go_of
    dead_end = go (last steps stopped)
      where
        go : (i : ℕ) × (place i < 32) × (32 ≤ place (suc i)) → DeadEnd (Has m) (Next next)
        go r = record {
          walk = place;
          after = r.0;
          starts = start.some some;
          steps = λ k l. let e = go_suc next m s k in rw e (step_is next m (place k) (rw e at (go_before next m s (suc k) r.0 (omega arith) r.1)));
          none = λ u h e.
              let i : Has m (get_or next (place r.0) 0) = rw e.1 at h in
              let l = has_lt 32 m u fits h in
              let z = go_suc next m s r.0 ∙ step_in next m (place r.0) e.0 i ∙ sym e.1 in
              omega (arith, z, r.2);
        }

  pub stops_comes : 0 < m → (steps at : ℕ) → at ≡ place steps → 32 ≤ at → Comes (Has m) (Next next) false []
  stops_comes p steps at e l = stops (dead_end p steps (omega arith))

  -- ---- the code's answer
  pub round_ring : (steps : ℕ) → size m 32 ≤ steps → (at low : ℕ) → at ≡ place steps → at < 32 → low ≡ low_of next m at at steps
      → (answer : Round) → Filled (once_of next m low low 32) answer → Shown (Has m) (Next next) answer
  unfolding ring_from
  round_ring steps n at low e l q answer f =
      let z : low ≡ low_of next m (place steps) (place steps) steps = q ∙ ap (λ t. low_of next m t t steps) e in
      let i : once_of next m low low 32 ≡ ring_from next m s steps = ap (λ t. once_of next m t t 32) z in
      record {
        ring = ring_from next m s steps;
        comes = round (ring_from_lem steps n (omega arith));
        long = f.long ∙ ap length i;
        places = f.places ∙ ap (λ r. r ++ replicate (32 - length r) 255) i;
      }
