-- Laws of who waits and who impedes.
use mathlib.Core.Path.{◌≡◌, refl, ap}
use mathlib.Core.Logic.{◌↔◌}
use mathlib.Core.Bool.{Bool, true, false, not}
use Prim.Native.Nat.{ℕ, ◌+◌, ◌*◌, ◌<◌}
use lib.Dec.{ltb}
use lib.ListN.{get_or}
use borrow.Author.Tests.{ltb-true, lt-ltb, not-true, not-false}
use Rattle.states.specs.State.{is_live}
use Rattle.states.specs.Waiting.{Awaited, behind}
use Rattle.states.proofs.Truth.{clash, and_left, and_right}
use Rattle.hall.specs.Table.{in_table, member_at, phase_at, Entry}
use Rattle.hall.specs.Waiting.{BlockedOn, impedes_of, Impedes, reached_of}
use Rattle.hall.specs.declared.table.Table.{Table}
use Rattle.hall.proofs.Every.{every_at}
use Rattle.hall.proofs.Lists.{every_find}
use Rattle.hall.proofs.Places.{live_below}
use Rattle.hall.proofs.Written.{entry_at}

-- a blocked task's number is in range
pub blocked_below : (t : Table) (k : ℕ) (e : Awaited) → BlockedOn t k e → k < 32
blocked_below t k e b = live_below t k (ap is_live b)

pub member_below : (t : Table) (k p : ℕ) → member_at t k p ≡ true → (k < 32) × (p < 16)
unfolding member_at
member_below t k p m =
    let e = and_left (in_table k p) (get_or t.members (k * 16 + p) false) m in
    (ltb-true k 32 (and_left (ltb k 32) (ltb p 16) e), ltb-true p 16 (and_right (ltb k 32) (ltb p 16) e))

module _ (t : Table) (u : ℕ) (e : Awaited) where
  -- "A member with a phase less than n impedes event (p, n)."
  pub impedes_iff : Impedes t u e ↔ ((member_at t u e.phaser.0 ≡ true) × (phase_at t u e.phaser.0 < e.phase.0))
  unfolding impedes_of
  impedes_iff =
      let m = member_at t u e.phaser.0 in
      let n = phase_at t u e.phaser.0 in
      let less = ltb n e.phase.0 in
      (λ i. (and_left m less i, ltb-true n e.phase.0 (and_right m less i)), λ x. simp (x.0, lt-ltb n e.phase.0 x.1))

  pub impedes_below : Impedes t u e → u < 32
  impedes_below i = (member_below t u e.phaser.0 (impedes_iff.0 i).0).0

-- who impedes goes by its entries alone
pub impedes_same : (t v : Table) (u : ℕ) → ((p : ℕ) → entry_at v u p ≡ entry_at t u p) → (e : Awaited) → impedes_of v u e ≡ impedes_of t u e
unfolding impedes_of
impedes_same t v u same e = ap (λ (x : Entry). behind x.member x.phase e.phase.0) (same e.phaser.0)

-- an event is reached exactly where nobody impedes it
pub impeded_unreached : (t : Table) (u : ℕ) (e : Awaited) → Impedes t u e → reached_of t e ≡ true → ⊥
unfolding reached_of
impeded_unreached t u e i r = clash i (not-true (impedes_of t u e) (every_at (λ u. not (impedes_of t u e)) 32 u r (impedes_below t u e i)))

pub unreached_impeded : (t : Table) (e : Awaited) → reached_of t e ≡ false → (u : ℕ) × Impedes t u e
unfolding reached_of
unreached_impeded t e r = let f = every_find (λ u. not (impedes_of t u e)) 32 r in (f.0, not-false (impedes_of t f.0 e) f.2)

pub reached_iff : (t : Table) (e : Awaited) → (reached_of t e ≡ true) ↔ ((u : ℕ) → Impedes t u e → ⊥)
reached_iff t e = (λ r u i. impeded_unreached t u e i r, λ h. go (reached_of t e) refl h)
  where
    go : (b : Bool) → reached_of t e ≡ b → ((u : ℕ) → Impedes t u e → ⊥) → b ≡ true
    go true r h = refl
    go false r h = let x = unreached_impeded t e r in absurd (h x.0 x.1)
