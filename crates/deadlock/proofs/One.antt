-- Each promise fixes its result: two results that both meet it are equal.
use mathlib.Core.Path.{◌≡◌, refl, sym, ap, ◌∙◌, subst}
use mathlib.Core.Bool.{Bool, true, false, true≢false}
use mathlib.Core.Logic.{◌↔◌}
use mathlib.Core.List.{List, [], ◌++◌}
use Prim.Native.Nat.{ℕ, zero, suc, ◌-◌, ◌<◌}
use Rattle.std.specs.Prelude.{Option, None, Some}
use native.Mathlib.Omega.{arith}
use lib.ListN.{length, replicate}
use Rattle.sets.proofs.Least.{least_one}
use Rattle.sets.proofs.Widths.{same_members}
use Rattle.deadlock.specs.declared.ring.Round.{Round}
use Rattle.deadlock.specs.Walk.{EndlessWalk, NamedBy}
use Rattle.deadlock.specs.Ring.{Step, Ring, DeadEnd, Comes, nobody, round, stops, RingIn}
use Rattle.deadlock.proofs.Rings.{ring_one}

pub named_one : (Edge : ℕ → ℕ → Type 0) (a b : ℕ) → NamedBy Edge a → NamedBy Edge b → a ≡ b
named_one Edge a b x y = same_members (EndlessWalk Edge) a b x.iff y.iff

answers : (m n : ℕ) (r s : List ℕ) → m ≡ n → r ≡ s → ◌≡◌ {A = Round} (record { length = m; tasks = r }) (record { length = n; tasks = s })
answers m n r s q e = rw (q, e) refl

module _ (Named : ℕ → Type 0) (Edge : ℕ → ℕ → Type 0) where
  -- a walk that goes on does not stop
  never_both : (r : List ℕ) → Ring Named Edge r → DeadEnd Named Edge → ⊥
  never_both r x y =
      let n = (x.walks.steps y.after).holds in
      y.none (x.walk (suc y.after)) n.0 (subst (λ t. Edge t (x.walk (suc y.after))) (same y.after (omega arith)) n.1)
    where
      same : (k : ℕ) → k < suc y.after → x.walk k ≡ y.walk k
      same zero l = least_one Named _ _ x.walks.starts y.starts
      same (suc k) l =
          least_one _ _ _ (subst (λ t. Step Named Edge t (x.walk (suc k))) (same k (omega arith)) (x.walks.steps k)) (y.steps k (omega arith))

  comes_one : (a b : Bool) (r s : List ℕ) → Comes Named Edge a r → Comes Named Edge b s → (a ≡ b) × (r ≡ s)
  comes_one _ _ _ _ (nobody n) (nobody n') = (refl, refl)
  comes_one _ _ _ _ (nobody n) (round y) = absurd (n (y.walk 0) y.walks.starts.holds)
  comes_one _ _ _ _ (nobody n) (stops y) = absurd (n (y.walk 0) y.starts.holds)
  comes_one _ _ _ _ (round x) (nobody n) = absurd (n (x.walk 0) x.walks.starts.holds)
  comes_one _ _ r s (round x) (round y) = (refl, ring_one Named Edge r s x y)
  comes_one _ _ r _ (round x) (stops y) = absurd (never_both r x y)
  comes_one _ _ _ _ (stops x) (nobody n) = absurd (n (x.walk 0) x.starts.holds)
  comes_one _ _ _ s (stops x) (round y) = absurd (never_both s y x)
  comes_one _ _ _ _ (stops x) (stops y) = (refl, refl)

  pub ring_in_one : (a b : Option Round) → RingIn Named Edge a → RingIn Named Edge b → a ≡ b
  ring_in_one None None x y = refl
  ring_in_one None (Some b) x y = absurd (true≢false (comes_one true false y.ring [] y.comes x).0)
  ring_in_one (Some a) None x y = absurd (true≢false (comes_one true false x.ring [] x.comes y).0)
  ring_in_one (Some a) (Some b) x y =
      let c = comes_one true true x.ring y.ring x.comes y.comes in
      ap Some
      (answers a.length b.length a.tasks b.tasks
      (x.long ∙ ap length c.1 ∙ sym y.long)
      (x.places ∙ ap (λ l. l ++ replicate (32 - length l) 255) c.1 ∙ sym y.places))

  -- there is none exactly where the walk stops
  pub stops_iff : (answer : Option Round) → RingIn Named Edge answer → (answer ≡ None) ↔ DeadEnd Named Edge
  stops_iff None x = (λ e. into false [] x refl, λ d. refl)
    where
      into : (b : Bool) (r : List ℕ) → Comes Named Edge b r → b ≡ false → DeadEnd Named Edge
      into _ _ (nobody n) e = absurd (true≢false e)
      into _ _ (round y) e = absurd (true≢false e)
      into _ _ (stops d) e = d
  stops_iff (Some a) x = (λ e. absurd (cc), λ d. absurd (true≢false (comes_one true false x.ring [] x.comes (stops d)).0))
