-- Laws of a call that is ruled by tests, and what a call that is not refused says of its numbers.
use mathlib.Core.Path.{◌≡◌, refl, ap, sym, subst}
use mathlib.Core.Logic.{◌↔◌}
use mathlib.Core.Bool.{Bool, true, cond}
use mathlib.Core.List.{List, [], ◌∷◌}
use Prim.Native.Nat.{ℕ, ◌<◌, ◌≤◌}
use native.Mathlib.Omega.{arith}
use lib.Dec.{ltb, eqb}
use borrow.Author.Tests.{leb-true, ltb-true, ne_eqb}
use Rattle.answers.specs.Answers.{none_free, not_sound, number_of}
use Rattle.answers.specs.declared.Refusal.{Refusal}
use Rattle.answers.proofs.Numbers.{number_high}
use Rattle.states.specs.State.{largest_phase}
use Rattle.states.specs.Tests.{Test, ◌else◌, refusal_of, caller_tests, member_tests, admit_tests, arrive_tests, wait_at_tests}
use Rattle.states.proofs.Refusals.{refuses, Passed, passed, passed_none, Each, each_map, each_high, refusal_cases, first_of, caller_first}
use Rattle.hall.specs.Calls.{refused, ruled}
use Rattle.hall.specs.Parts.{sound_of}
use Rattle.hall.specs.Table.{state_at, member_at, phase_at}
use Rattle.hall.specs.Tests.{lowest_free, lowest_unopened, seen_at, open_task_tests, open_phaser_tests, close_phaser_tests, release_tests}
use Rattle.hall.specs.declared.calls.Called.{Called}
use Rattle.hall.specs.declared.table.Table.{Table}
use Rattle.hall.proofs.Places.{live_below, open_below}

module _ (t : Table) (tests : List Test) (effect : Called) where
  -- where one fails it is refused
  pub ruled_refused : (n : ℕ) → n ≡ refusal_of tests → (n ≡ 0 → ⊥) → refused t n ≡ ruled t tests effect
  unfolding ruled
  ruled_refused n e h = simp (← e, ne_eqb n 0 h)

  pub refused_by : (r : Refusal) → number_of r ≡ refusal_of tests → refused t (number_of r) ≡ ruled t tests effect
  refused_by r e = let high = number_high r in ruled_refused (number_of r) e (λ z. omega (arith, z))

  pub accepted_by : refusal_of tests ≡ 0 → effect ≡ ruled t tests effect
  unfolding ruled
  accepted_by e = simp e

  -- where all hold it is its effect
  pub ruled_is : Passed tests → ruled t tests effect ≡ effect
  unfolding ruled
  ruled_is p = ap (λ (n : ℕ). cond (eqb n 0) effect (refused t n)) (passed_none tests p)

  -- what holds of each refusal, and of the effect where all tests hold, holds of the call
  pub ruled_cases : (P : Called → Type 0) → refuses tests ≡ true → Each (λ n. P (refused t n)) tests → (Passed tests → P effect)
      → P (ruled t tests effect)
  unfolding ruled
  ruled_cases P r e d =
      refusal_cases (λ n. P (cond (eqb n 0) effect (refused t n))) tests (λ p. d p)
      (each_map (λ n. P (refused t n)) (λ n. P (cond (eqb n 0) effect (refused t n)))
      (λ n h x. subst (λ (b : Bool). P (cond b effect (refused t n))) (sym (ne_eqb n 0 (λ q. omega (arith, q)))) x) tests r e)

  -- it is accepted exactly where all hold
  pub ruled_accepted : refuses tests ≡ true → effect.answer < 10 → ((ruled t tests effect).answer < 10) ↔ Passed tests
  ruled_accepted r l = (
    ruled_cases (λ c. c.answer < 10 → Passed tests) r (each_high (λ n. n < 10 → Passed tests) (λ n h e. absurd (omega arith)) tests r) (λ p z. p),
    λ p. subst (λ (c : Called). c.answer < 10) (sym (ruled_is p)) l,
  )

pub open_task_first : (t : Table) → refusal_of (open_task_tests t) ≡ cond (sound_of t) (cond (ltb (lowest_free t) 32) 0 none_free) not_sound
unfolding open_task_tests refusal_of
open_task_first t = refl

pub open_phaser_first : (t : Table) (a : ℕ) → refusal_of (open_phaser_tests t a)
    ≡ first_of (refusal_of (caller_tests (sound_of t) (state_at t a))) (cond (ltb (lowest_unopened t) 16) 0 none_free)
unfolding open_phaser_tests refusal_of
open_phaser_first t a = caller_first (sound_of t) (state_at t a) (ltb (lowest_unopened t) 16 else none_free ∷ [])

-- ---- the numbers of a call that is not refused are in range
pub caller_in_range : (t : Table) (a : ℕ) → refusal_of (caller_tests (sound_of t) (state_at t a)) ≡ 0 → a < 32
unfolding caller_tests refuses Passed
caller_in_range t a e = live_below t a (passed (caller_tests (sound_of t) (state_at t a)) refl e).1.0

pub release_in_range : (t : Table) (a : ℕ) → refusal_of (release_tests t a) ≡ 0 → a < 32
unfolding release_tests refuses Passed
release_in_range t a e = live_below t a (passed (release_tests t a) refl e).1.0

pub close_in_range : (t : Table) (p : ℕ) → refusal_of (close_phaser_tests t p) ≡ 0 → p < 16
unfolding close_phaser_tests refuses Passed
close_in_range t p e = open_below t p (passed (close_phaser_tests t p) refl e).1.0

module _ (t : Table) (a p : ℕ) where
  pub member_in_range : refusal_of (member_tests (seen_at t a p)) ≡ 0 → (a < 32) × (p < 16)
  unfolding member_tests caller_tests refuses Passed
  member_in_range e =
      let h = passed (member_tests (seen_at t a p)) refl e in
      (live_below t a h.1.0, open_below t p h.1.1.1.0)

  pub arrive_in_range : refusal_of (arrive_tests (seen_at t a p)) ≡ 0 → ((a < 32) × (p < 16)) × (phase_at t a p < largest_phase)
  unfolding arrive_tests member_tests caller_tests refuses Passed
  arrive_in_range e =
      let h = passed (arrive_tests (seen_at t a p)) refl e in
      ((live_below t a h.1.0, open_below t p h.1.1.1.0), ltb-true (phase_at t a p) largest_phase h.1.1.1.1.1.0)

  pub wait_at_in_range : (n : ℕ) → refusal_of (wait_at_tests (seen_at t a p) n) ≡ 0 → (a < 32) × (n ≤ largest_phase)
  unfolding wait_at_tests caller_tests refuses Passed
  wait_at_in_range n e =
      let h = passed (wait_at_tests (seen_at t a p) n) refl e in
      (live_below t a h.1.0, leb-true n largest_phase h.1.1.1.1.0)

  pub admit_in_range : (b : ℕ) → refusal_of (admit_tests (seen_at t a p) (state_at t b) (member_at t b p)) ≡ 0 → (b < 32) × (p < 16)
  unfolding admit_tests member_tests caller_tests refuses Passed
  admit_in_range b e =
      let h = passed (admit_tests (seen_at t a p) (state_at t b) (member_at t b p)) refl e in
      (live_below t b h.1.1.1.1.1.0, open_below t p h.1.1.1.0)

-- what the calls of the code go by
pub ruleset call_laws = (
  refused_by,
  accepted_by,
  open_task_first,
  open_phaser_first,
  caller_in_range,
  release_in_range,
  close_in_range,
  member_in_range,
  arrive_in_range,
  wait_at_in_range,
  admit_in_range,
)
