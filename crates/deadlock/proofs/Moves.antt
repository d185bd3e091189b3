-- The ring along other edges: where each step is a step there, and a task with no step has none there, the answer is the same.
use mathlib.Core.Path.{refl, sym, subst}
use mathlib.Core.Bool.{Bool}
use mathlib.Core.Logic.{◌⊎◌, inl, inr}
use mathlib.Core.List.{List, []}
use Prim.Native.Nat.{ℕ, zero, suc, ◌^◌, ◌<◌}
use Rattle.std.specs.Prelude.{Option, None, Some, true, false}
use native.Mathlib.Omega.{arith}
use lib.ListN.{get_or}
use Rattle.sets.specs.Set.{Has}
use Rattle.sets.proofs.Members.{has_lt}
use Rattle.deadlock.specs.declared.ring.Round.{Round}
use Rattle.deadlock.specs.Ring.{Step, Ring, DeadEnd, Comes, nobody, round, stops, RingIn, Next}
use Rattle.deadlock.proofs.Rings.{walk_named}

module _ (Named : ℕ → Type 0) (Edge Edge' : ℕ → ℕ → Type 0) (steps : (t u : ℕ) → Named t → Step Named Edge t u → Step Named Edge' t u) where
  pub ring_moves : (r : List ℕ) → Ring Named Edge r → Ring Named Edge' r
  ring_moves r x = record {
    walk = x.walk;
    walks = record { starts = x.walks.starts; steps = λ k. steps _ _ (walk_named Named Edge x.walk x.walks k) (x.walks.steps k) };
    from = x.from;
    some = x.some;
    here = x.here;
    back = x.back;
    lowest = x.lowest;
  }

  module _ (none : (t : ℕ) → Named t → ((u : ℕ) → Named u → Edge t u → ⊥) → (u : ℕ) → Named u → Edge' t u → ⊥) where
    pub end_moves : DeadEnd Named Edge → DeadEnd Named Edge'
    end_moves x = record {
      walk = x.walk;
      after = x.after;
      starts = x.starts;
      steps = λ k l. steps _ _ (here k (omega arith)) (x.steps k l);
      none = none _ (here x.after (omega arith)) x.none;
    }
      where
        here : (k : ℕ) → k < suc x.after → Named (x.walk k)
        here zero l = x.starts.holds
        here (suc k) l = (x.steps k (omega arith)).holds.0

    pub comes_moves : (b : Bool) (r : List ℕ) → Comes Named Edge b r → Comes Named Edge' b r
    comes_moves _ _ (nobody n) = nobody n
    comes_moves _ r (round x) = round (ring_moves r x)
    comes_moves _ _ (stops x) = stops (end_moves x)

    pub in_moves : (answer : Option Round) → RingIn Named Edge answer → RingIn Named Edge' answer
    in_moves None x = comes_moves false [] x
    in_moves (Some answer) x = record { ring = x.ring; comes = comes_moves true x.ring x.comes; long = x.long; places = x.places }

-- where the number at each named task's place is its step, or no named task's where it has none
module _ (next : List ℕ) (m : ℕ) (fits : m < 2 ^ 32) (Edge : ℕ → ℕ → Type 0)
    (each : (t : ℕ) → Has m t → Step (Has m) Edge t (get_or next t 0) ⊎ (((u : ℕ) → Has m u → Edge t u → ⊥) × (Has m (get_or next t 0) → ⊥))) where
  next_steps : (t u : ℕ) → Has m t → Step (Has m) (Next next) t u → Step (Has m) Edge t u
  next_steps t u h s = go (each t h)
    where
      go : Step (Has m) Edge t (get_or next t 0) ⊎ (((u : ℕ) → Has m u → Edge t u → ⊥) × (Has m (get_or next t 0) → ⊥)) → Step (Has m) Edge t u
      go (inl x) = subst (Step (Has m) Edge t) (sym s.holds.1.1) x
      go (inr x) = absurd (x.1 (subst (Has m) s.holds.1.1 s.holds.0))

  next_none : (t : ℕ) → Has m t → ((u : ℕ) → Has m u → Next next t u → ⊥) → (u : ℕ) → Has m u → Edge t u → ⊥
  next_none t h n = go (each t h)
    where
      go : Step (Has m) Edge t (get_or next t 0) ⊎ (((u : ℕ) → Has m u → Edge t u → ⊥) × (Has m (get_or next t 0) → ⊥)) → (u : ℕ) → Has m u → Edge t u → ⊥
      go (inl x) = absurd (n (get_or next t 0) x.holds.0 (has_lt 32 m t fits h, refl))
      go (inr x) = x.0

  pub next_ring : (r : List ℕ) → Ring (Has m) (Next next) r → Ring (Has m) Edge r
  next_ring = ring_moves (Has m) (Next next) Edge next_steps

  pub next_in : (answer : Option Round) → RingIn (Has m) (Next next) answer → RingIn (Has m) Edge answer
  next_in = in_moves (Has m) (Next next) Edge next_steps next_none
