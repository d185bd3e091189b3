-- Calls move the table by figure 3's rules: the theorems of `hall`, gathered by kind.
use mathlib.Core.Path.{◌≡◌, ap, sym, ◌∙◌}
use mathlib.Core.Logic.{◌↔◌, inl, inr}
use Prim.Native.Nat.{ℕ, ◌<◌}
use native.Mathlib.Omega.{arith}
use Rattle.answers.specs.Answers.{done, wait_passed, now_blocked}
use Rattle.hall.specs.Rules.{put, PhaserMap, phaser_of, phasers_of}
use Rattle.hall.specs.Table.{Shaped, state_at, phase_at}
use Rattle.states.specs.State.{event}
use Rattle.hall.specs.Tests.{lowest_free}
use Rattle.hall.specs.declared.calls.Called.{Called}
use Rattle.states.specs.Waiting.{awaiting}
use Rattle.states.specs.declared.state.State.{State}
use Rattle.states.specs.declared.state.State.TheVariants.{Running}
use Rattle.hall.specs.declared.table.Table.{Table}
use Rattle.hall.proofs.Changes.{Gives, Waited, open_task_changes, end_task_changes, open_phaser_changes, close_phaser_changes, admit_changes}
use Rattle.hall.proofs.Changes.{leave_changes, arrive_changes, wait_changes, wait_at_changes, release_changes}
use Rattle.hall.proofs.Figure3.{Steps, open_task_exact, end_task_exact, open_phaser_exact, close_phaser_exact, admit_exact, leave_exact}
use Rattle.hall.proofs.Figure3.{arrive_exact, wait_passes, wait_blocks, wait_at_passes, wait_at_blocks, release_exact}
use Rattle.states.proofs.Truth.{clash}
use Rattle.hall.proofs.Written.{Says}
use Rattle.hall.proofs.Maps.{phaser_there, member_is, phasers_same}
use Rattle.demands.specs.Moves.{Rule, Waits, ByRules}
use Rattle.hall.specs.declared.calls.Call.{Call}
use Rattle.hall.specs.Calls.{call_of}

-- ---- a call that is done where it is accepted
module _ {r : Called} {value : ℕ} {x : Says} (gives : r.answer < 10 → Gives r done value x) where
  -- accepted with a map and a value exactly there
  opening : {Where : ℕ → PhaserMap → Type 0} → ((v : ℕ) (M' : PhaserMap) → (Steps r M' × (r.value ≡ v)) ↔ Where v M')
      → Rule r Where x.state
  opening exact = record {
    moves = λ v M'. (
      λ x. (exact v M').0 ((omega (arith, x.0), x.2), x.1),
      λ w. let s = (exact v M').1 w in ((gives s.0.0).answers, s.1, s.0.1),
    );
    states = λ e. (gives (omega (arith, e))).reads.states;
  }

  -- accepted with a map exactly there, and with the value that it then has
  moving : {W : PhaserMap → Type 0} {Where : ℕ → PhaserMap → Type 0} → ((M' : PhaserMap) → Steps r M' ↔ W M')
      → ((v : ℕ) (M' : PhaserMap) → (W M' × (v ≡ value)) ↔ Where v M') → Rule r Where x.state
  moving exact also = opening (λ v M'. (
    λ x. (also v M').0 ((exact M').0 x.0, sym x.1 ∙ (gives x.0.0).values),
    λ w. let y = (also v M').1 w in let s = (exact M').1 y.0 in (s, (gives s.0).values ∙ sym y.1),
  ))

-- the state of the task whose number is the value
by_value : {r : Called} {Where : ℕ → PhaserMap → Type 0} (state : ℕ → ℕ → State) (n : ℕ) → (r.answer < 10 → r.value ≡ n)
    → Rule r Where (state n) → Rule r Where (state r.value)
by_value state n values x = record {
  moves = x.moves;
  states = λ e k. x.states e k ∙ ap (λ (m : ℕ). state m k) (sym (values (omega (arith, e))));
}

-- ---- a wait
waiting : (t : Table) (z : Shaped t) (a p n : ℕ) {r : Called} {Passes Blocks : Type 0} → (r.answer ≡ wait_passed) ↔ Passes
    → (r.answer ≡ now_blocked) ↔ Blocks → (r.answer < 10 → Waited t z a p n r) → Waits t a p n r Passes Blocks
waiting t z a p n {r} passes blocks waited = record {
  passes = passes;
  unchanged = λ e. unchanged e (waited (omega (arith, e)));
  blocks = blocks;
  phasers = λ e. phasers e (waited (omega (arith, e)));
  states = λ e. states e (waited (omega (arith, e)));
}
  where
    answers : {c : Called} → r ≡ c → r.answer ≡ c.answer
    answers q = ap (λ (c : Called). c.answer) q

    unchanged : r.answer ≡ wait_passed → Waited t z a p n r → (r.value ≡ 0) × (r.table ≡ t)
    unchanged e (inl x) = (ap (λ (c : Called). c.value) x.1, ap (λ (c : Called). c.table) x.1)
    unchanged e (inr x) = absurd (omega (arith, e, answers x.1))

    phasers : r.answer ≡ now_blocked → Waited t z a p n r → (r.value ≡ 0) × (phasers_of r.table ≡ phasers_of t)
    phasers e (inl x) = absurd (omega (arith, e, answers x.1))
    phasers e (inr x) = (ap (λ (c : Called). c.value) x.1, phasers_same t r.table x.2)

    states : r.answer ≡ now_blocked → Waited t z a p n r → (k : ℕ) → state_at r.table k ≡ put (state_at t) a (awaiting (event p n)) k
    states e (inl x) = absurd (omega (arith, e, answers x.1))
    states e (inr x) = x.2.states

pub by_rules : (t : Table) → Shaped t → (c : Call) → ByRules t c (call_of t c)
unfolding call_of
by_rules t z c =
    let a = c.task in
    let p = c.phaser in
    let o = c.other in
    record {
      open_task = λ q. rw q
          (by_value (λ n. put (state_at t) n Running) (lowest_free t) (λ l. (open_task_changes t z l).values)
          (opening (open_task_changes t z) (open_task_exact t z)));
      end_task = λ q. rw q
          (moving (end_task_changes t z a) (end_task_exact t z a) (λ v M'. (λ x. (x.0.0, x.1, x.0.1), λ x. ((x.0, x.2), x.1))));
      open_phaser = λ q. rw q (opening (open_phaser_changes t z a) (open_phaser_exact t z a p));
      close_phaser = λ q. rw q
          (moving (close_phaser_changes t z p) (close_phaser_exact t z p)
          (λ v M'. (λ x. (x.0.0, x.0.1, x.1, x.0.2), λ x. ((x.0, x.1, x.3), x.2))));
      admit = λ q. rw q
          (moving (admit_changes t z a p o) (admit_exact t z a p o) (λ v M'. (λ x. (x.0.0, x.0.1, x.0.2, x.1), λ x. ((x.0, x.1, x.2), x.3))));
      leave = λ q. rw q (moving (leave_changes t z a p) (leave_exact t z a p) (λ v M'. (λ x. (x.0.0, x.0.1, x.1), λ x. ((x.0, x.1), x.2))));
      arrive = λ q. rw q
          (moving (arrive_changes t z a p) (arrive_exact t z a p) (λ v M'. (λ x. (x.0.0, x.0.1, x.0.2, x.1), λ x. ((x.0, x.1, x.2), x.3))));
      wait = λ q. rw q (waiting t z a p (phase_at t a p) (wait_passes t z a p) (wait_blocks t z a p) (wait_changes t z a p));
      wait_at = λ q. rw q (waiting t z a p o (wait_at_passes t z a p o) (wait_at_blocks t z a p o) (wait_at_changes t z a p o));
      no_members = λ q r e h l. rw q
          ((wait_at_passes t z a p o).1 (
            r,
            record { phaser = phaser_of t p; there = phaser_there t p e; all = λ u m i. absurd (clash (member_is t p u m i).0 (h u)) },
            l,
          ));
      release = λ q. rw q
          (moving (release_changes t z a) (release_exact t z a)
          (λ v M'. (λ x. (x.0.0, x.0.1, x.1, x.0.2), λ x. ((x.0, x.1, x.3), x.2))));
    }
