-- What the code reads of a table, and what the table says.
use mathlib.Core.Path.{◌≡◌, refl, sym, ap, ◌∙◌, subst}
use mathlib.Core.Bool.{Bool, true, false}
use mathlib.Core.Logic.{◌↔◌}
use Prim.Native.Nat.{ℕ, ◌+◌, ◌*◌, ◌%◌, ◌<◌}
use native.Mathlib.Decide.{dec_lt}
use native.Mathlib.Nat.{mod-eq_of_lt}
use native.Mathlib.Omega.{arith}
use lib.ListN.{get_or}
use borrow.Author.Tests.{lt-ltb, le-ltb}
use Rattle.states.specs.Parts.{event_of, awaits_of, impedes_at}
use Rattle.states.specs.State.{event, free_task, phase0, is_blocked}
use Rattle.states.specs.Waiting.{Awaited}
use Rattle.states.specs.declared.state.State.{State}
use Rattle.states.specs.declared.state.State.TheVariants.{Free, Running, Blocked}
use Rattle.states.proofs.Events.{is_blocked_lem, event_is, awaits_iff}
use Rattle.states.proofs.Truth.{clash}
use Rattle.seating.specs.Parts.{BlockedIn, LateIn}
use Rattle.seating.proofs.Filling.{late_at}
use Rattle.hall.specs.Parts.{BlockedSet, Late}
use Rattle.hall.specs.Table.{state_at}
use Rattle.hall.specs.Waiting.{impedes_of, BlockedOn, Impedes, ImpedesTask}
use Rattle.hall.specs.declared.table.Table.{Table}
use Rattle.hall.proofs.Impeded.{blocked_below}
use Rattle.hall.proofs.Places.{state_in, member_in, member_out, phase_in_lem}

-- ---- who is blocked
module _ (t : Table) where
  pub blocked_set : (m : ℕ) → BlockedIn t.tasks m → BlockedSet t m
  blocked_set m g = record {
    iff = λ k. (
      λ h. let x = (g.iff k).0 h in ap is_blocked (state_in t k x.0) ∙ x.1,
      λ b. let e = is_blocked_lem (state_at t k) b in let l = blocked_below t k e.0 e.1 in (g.iff k).1 (l, ap is_blocked (sym (state_in t k l)) ∙ b),
    );
  }

  -- ---- who impedes
  -- nobody impedes the event of no phaser
  no_phaser_lem : (u : ℕ) → Impedes t u (event 16 0) → ⊥
  unfolding impedes_of
  no_phaser_lem u h = clash h (simp (member_out t u 16 (omega arith)))

  -- who impedes what task k awaits
  pub impedes_task : (k u : ℕ) → Impedes t u (event_of (state_at t k)) ↔ ImpedesTask t k u
  unfolding event_of
  impedes_task k u = (go (state_at t k) refl, λ i. subst (Impedes t u) (sym (event_is (state_at t k) i.event i.waits)) i.impedes)
    where
      go : (s : State) → state_at t k ≡ s → Impedes t u (event_of s) → ImpedesTask t k u
      go Free q h = absurd (no_phaser_lem u h)
      go Running q h = absurd (no_phaser_lem u h)
      go (Blocked e) q h = record { event = e; waits = q; impedes = h }

-- ---- what the code reads at a task below 32
module _ (t : Table) (k : ℕ) (l : k < 32) where
  -- what it awaits
  pub event_read : (e : Awaited) → e ≡ event_of (get_or t.tasks k free_task).state → e ≡ event_of (state_at t k)
  event_read e h = h ∙ ap event_of (sym (state_in t k l))

  -- whether it awaits e
  pub awaits_read : (e : Awaited) (b : Bool) → b ≡ awaits_of (get_or t.tasks k free_task).state e → (b ≡ true) ↔ BlockedOn t k e
  awaits_read e b h =
      let q = h ∙ ap (λ s. awaits_of s e) (sym (state_in t k l)) in
      let iff = awaits_iff (state_at t k) e in
      (λ y. iff.0 (sym q ∙ y), λ y. q ∙ iff.1 y)

  -- whether it impedes e: the entry in e's column is that of e's phaser, where there is such a phaser
  abbrev entry : ℕ → Awaited → Bool
  entry p e = impedes_at (get_or t.members (k * 16 + p) false) (get_or t.phases (k * 16 + p) phase0) e

  impedes_at_lem : (e : Awaited) → entry (e.phaser.0 % 16) e ≡ impedes_of t k e
  unfolding impedes_at impedes_of
  impedes_at_lem e = go (dec_lt e.phaser.0 16)
    where
      go : Dec (e.phaser.0 < 16) → entry (e.phaser.0 % 16) e ≡ impedes_of t k e
      go (yes h) = simp (lt-ltb _ _ h, mod-eq_of_lt h, member_in t k _ l h, phase_in_lem t k _ l h)
      go (no h) = simp (le-ltb e.phaser.0 16 (omega arith), member_out t k e.phaser.0 (omega arith))

  pub impedes_is : (e : Awaited) (p : ℕ) (b : Bool) → p ≡ e.phaser.0 % 16 → b ≡ entry p e → b ≡ impedes_of t k e
  impedes_is e p b column h = h ∙ ap (λ j. entry j e) column ∙ impedes_at_lem e

  -- whether its kept phase is less than e's
  pub late_in : (e : Awaited) → LateIn t.phases k e ↔ Late t k e
  late_in e = (λ y. (y.0, rw (phase_in_lem t k _ l y.0) y.1), λ y. (y.0, rw (phase_in_lem t k _ l y.0) at y.1))

  pub late_read : (e : Awaited) (p : ℕ) (b : Bool) → p ≡ e.phaser.0 % 16 → b ≡ impedes_at true (get_or t.phases (k * 16 + p) phase0) e
      → (b ≡ true) ↔ Late t k e
  late_read e p b column h = let q = late_at t.phases k e p _ b column refl h in (λ y. (late_in e).0 (q.0 y), λ y. q.1 ((late_in e).1 y))
