-- A blocked task is stuck, or a series that ends in its release is at hand; so it is stuck exactly when no series contains one.
use mathlib.Core.Path.{◌≡◌, refl, ap, sym, ◌∙◌, subst}
use mathlib.Core.Logic.{◌⊎◌, inl, inr, ⊎_elim, ◌↔◌}
use mathlib.Core.Bool.{true}
use mathlib.Core.List.{List, [], ◌∷◌, ◌++◌}
use Prim.Native.Nat.{ℕ, zero, suc, ◌≤◌}
use native.Mathlib.Decide.{ℕ_discrete}
use native.Mathlib.Omega.{arith}
use Rattle.hall.specs.Sound.{Sound}
use Rattle.hall.specs.Parts.{sound_of}
use Rattle.hall.specs.Table.{Shaped}
use Rattle.hall.specs.Waiting.{BlockedOn}
use Rattle.states.specs.Waiting.{Awaited}
use Rattle.hall.specs.declared.table.Table.{Table}
use Rattle.hall.proofs.Kept.{call_shaped, call_sound}
use Rattle.hall.proofs.Soundness.{sound_iff}
use Rattle.hall.specs.declared.calls.Call.{Call}
use Rattle.hall.specs.Calls.{call_of}
use Rattle.demands.specs.Series.{Accepted, Contains, Never, release, WayOn}
use Rattle.demands.proofs.Stuck.{StuckAt}
use Rattle.demands.proofs.Never.{stuck_never}
use Rattle.demands.proofs.Steps.{left, lightens_stuck, lightens_left, Homeward, Tight, tight_stuck, look}

-- what a step leaves, and the table before it
step_back : (t : Table) (k : ℕ) (e : Awaited) → BlockedOn t k e → (p : Homeward t)
    → (BlockedOn (call_of t p.call).table k e → StuckAt (call_of t p.call).table k ⊎ WayOn (call_of t p.call).table k)
    → StuckAt t k ⊎ WayOn t k
step_back t k e b p rest = go (ℕ_discrete k p.task)
  where
    back : StuckAt (call_of t p.call).table k ⊎ WayOn (call_of t p.call).table k → StuckAt t k ⊎ WayOn t k
    back (inl x) = inl (lightens_stuck p.lightens k x)
    back (inr w) = inr (record { calls = p.call ∷ w.calls; series = (p.accepted, w.series) })

    go : Dec (k ≡ p.task) → StuckAt t k ⊎ WayOn t k
    go (yes q) =
        let c : p.call ≡ release k = p.releases e (subst (λ j. BlockedOn t j e) q b) ∙ ap release (sym q) in
        inr (record { calls = []; series = (subst (Accepted t) c p.accepted, tt) })
    go (no n) = back (rest (p.lightens.others k n ∙ b))

-- step by step, as long as anybody can take one; in the end the blocked ones are a deadlocked set
module _ (t : Table) (z : Shaped t) (s : sound_of t ≡ true) (k : ℕ) (e : Awaited) (b : BlockedOn t k e) where
  step_or_stuck : (Homeward t → StuckAt t k ⊎ WayOn t k) → StuckAt t k ⊎ WayOn t k
  step_or_stuck f = ⊎_elim f (λ (h : Tight t). inl (tight_stuck t h k e b)) (look t z s)

go_on : (n : ℕ) (t : Table) → Shaped t → sound_of t ≡ true → left t ≤ n → (k : ℕ) (e : Awaited) → BlockedOn t k e → StuckAt t k ⊎ WayOn t k
go_on zero t z s l k e b = step_or_stuck t z s k e b (λ p. absurd (omega (arith, lightens_left p.lightens)))
go_on (suc n) t z s l k e b =
    step_or_stuck t z s k e b
    (λ p. step_back t k e b p
    (λ c. go_on n (call_of t p.call).table (call_shaped t z p.call) (call_sound t z s p.call) (omega (arith, lightens_left p.lightens)) k e c))

pub stuck_or_way_on : (t : Table) → Shaped t → Sound t → (k : ℕ) (e : Awaited) → BlockedOn t k e → StuckAt t k ⊎ WayOn t k
stuck_or_way_on t z s = go_on (left t) t z ((sound_iff t).1 s) (omega arith)

-- ---- exactly when
ends_contains : (k : ℕ) (calls : List Call) → Contains k (calls ++ (release k ∷ []))
ends_contains k [] = inl (record { kind = refl; task = refl })
ends_contains k (c ∷ calls) = inr (ends_contains k calls)

pub stuck_iff_never : (t : Table) → Shaped t → Sound t → (k : ℕ) (e : Awaited) → BlockedOn t k e → StuckAt t k ↔ Never t k
stuck_iff_never t z s k e b = (
  stuck_never t z k,
  λ h. ⊎_elim (λ (x : StuckAt t k). x) (λ (w : WayOn t k). absurd (h (w.calls ++ (release k ∷ [])) w.series (ends_contains k w.calls)))
      (stuck_or_way_on t z s k e b),
)
