-- A step touches one task at most: of every other the next table says what the table said. So what deadlock rests on stays through every call (a task whose
-- event is impeded by a blocked one stays blocked on it, and what a blocked task impedes it goes on impeding), and apart from one task nobody is newly
-- blocked or newly impedes.
use mathlib.Core.Path.{◌≡◌, refl, ap, sym, ◌∙◌}
use mathlib.Core.Logic.{◌⊎◌, inl, inr}
use mathlib.Core.Bool.{Bool, false}
use mathlib.Core.List.{[], ◌∷◌}
use Prim.Native.Nat.{ℕ, ◌<◌}
use native.Mathlib.Decide.{ℕ_discrete}
use native.Mathlib.Omega.{arith}
use borrow.Author.Tests.{eq-eqb, ne_eqb}
use Rattle.deadlock.proofs.Theory.{Frame, ApartFrom}
use Rattle.states.specs.State.{is_blocked, event}
use Rattle.states.specs.Waiting.{Awaited, awaiting}
use Rattle.states.specs.declared.state.State.{State}
use Rattle.states.specs.declared.state.State.TheVariants.{Free, Running}
use Rattle.states.proofs.Events.{is_free_lem, one_awaited}
use Rattle.states.proofs.Refusals.{each_all}
use Rattle.states.proofs.Truth.{clash}
use Rattle.hall.specs.Calls.{refused, end_task_of, release_of, call_of}
use Rattle.hall.specs.Effects.{with_state}
use Rattle.hall.specs.Table.{state_at, phase_at, Entry, joined, absent, Shaped}
use Rattle.hall.specs.Tests.{lowest_free, lowest_unopened, end_task_tests, release_tests}
use Rattle.hall.specs.Waiting.{BlockedOn, Impedes, reached_of}
use Rattle.hall.specs.declared.calls.Call.{Call}
use Rattle.hall.specs.declared.table.Table.{Table}
use Rattle.hall.proofs.ByEffect.{OfKind, Step, stays, opens_task, ends_task, opens_phaser, closes_phaser, admits, leaves, advances, blocks}
use Rattle.hall.proofs.ByEffect.{releases, call_step}
use Rattle.hall.proofs.Changes.{free_lowest, opens_task_reads, ends_task_reads, opens_phaser_reads, closes_phaser_reads, admits_reads}
use Rattle.hall.proofs.Changes.{leaves_reads, advances_reads, blocks_reads, releases_reads}
use Rattle.hall.proofs.Impeded.{impedes_iff, impedes_same, impeded_unreached}
use Rattle.hall.proofs.Places.{state_out}
use Rattle.hall.proofs.Rows.{row_accepted, row_cases, end_task_row, Release, release_row}
use Rattle.hall.proofs.Written.{Says, said, entry_at, Reads, reads_itself, reads_member, stated, entered, cleared}
use Rattle.hall.proofs.Written.{put_here, put_other, put_at_other}

-- ---- what a step leaves alone
-- of every task but j, y says what x does
record Aside (j : ℕ) (x y : Says) : Type 0 where
  states : (k : ℕ) → (k ≡ j → ⊥) → y.state k ≡ x.state k
  entries : (k : ℕ) → (k ≡ j → ⊥) → (p : ℕ) → y.entry k p ≡ x.entry k p

module _ (j : ℕ) (x : Says) where
  aside_same : (opened : ℕ → Bool) → Aside j x (record { state = x.state; opened = opened; entry = x.entry })
  aside_same opened = record { states = λ k n. refl; entries = λ k n p. refl }

  aside_state : (s : State) → Aside j x (stated x j s)
  aside_state s = record { states = put_other x.state j s; entries = λ k n p. refl }

  aside_entry : (opened : ℕ → Bool) (q : ℕ) (e : Entry)
      → Aside j x (entered (record { state = x.state; opened = opened; entry = x.entry }) j q e)
  aside_entry opened q e = record { states = λ k n. refl; entries = λ k n p. put_at_other x.entry j q e k p (λ y. n y.0) }

  aside_ended : (s : State) → Aside j x (stated (cleared x j) j s)
  aside_ended s = record { states = put_other x.state j s; entries = λ k n p. rw (ne_eqb k j n) }

-- ---- the frame of `deadlock`, over the two relations alone
abbrev pub FrameOf : Table → Table → Type 0
FrameOf t u = Frame (BlockedOn t) (Impedes t) (BlockedOn u) (Impedes u)

abbrev pub ApartOf : Table → Table → ℕ → Type 0
ApartOf t u = ApartFrom (BlockedOn t) (Impedes t) (BlockedOn u) (Impedes u)

module _ (t : Table) {u : Table} {x : Says} {j : ℕ} (r : Reads u x) (a : Aside j (said t) x) where
  same_entries : (v : ℕ) → (v ≡ j → ⊥) → (p : ℕ) → entry_at u v p ≡ entry_at t v p
  same_entries v n p = r.entries v p ∙ a.entries v n p

  -- apart from j nobody is newly blocked, and nobody newly impedes
  aside_apart : ApartOf t u j
  aside_apart = record {
    blocked = λ k e n b. sym (r.states k ∙ a.states k n) ∙ b;
    impedes = λ v e n i. sym (impedes_same t u v (same_entries v n) e) ∙ i;
  }

  -- where j was not blocked, what deadlock rests on stays
  aside_frame : is_blocked (state_at t j) ≡ false → FrameOf t u
  aside_frame w = record {
    stays = λ k e b v f c i. r.states k ∙ (a.states k (other k e b) ∙ b);
    keeps = λ v f b e i. impedes_same t u v (same_entries v (other v f b)) e ∙ i;
  }
    where
      other : (k : ℕ) (e : Awaited) → BlockedOn t k e → k ≡ j → ⊥
      other k e b q = clash (ap is_blocked b) (ap (λ (i : ℕ). is_blocked (state_at t i)) q ∙ w)

-- ---- each effect
-- a call that may block the task that it touches, or make a blocked one impede: an admit or a wait
abbrev pub MayBlock : Call → Type 0
MayBlock c = OfKind c (4 ∷ []) ⊎ OfKind c (7 ∷ 8 ∷ [])

-- the one task that a step touches: it is awake after it, unless the call may block it
pub record Touches (t : Table) (c : Call) (u : Table) : Type 0 where
  pub task : ℕ
  pub apart : ApartOf t u task
  pub awake : (is_blocked (state_at u task) ≡ false) ⊎ MayBlock c
  pub frame : FrameOf t u

module _ (t : Table) (z : Shaped t) (c : Call) where
  awake_after : {u : Table} {x : Says} (j : ℕ) → Reads u x → is_blocked (x.state j) ≡ false → (is_blocked (state_at u j) ≡ false) ⊎ MayBlock c
  awake_after j r w = inl (ap is_blocked (r.states j) ∙ w)

  -- task j, which was awake
  touched : {u : Table} {x : Says} (j : ℕ) → is_blocked (state_at t j) ≡ false → Reads u x → Aside j (said t) x
      → (is_blocked (state_at u j) ≡ false) ⊎ MayBlock c → Touches t c u
  touched j w r a after = record { task = j; apart = aside_apart t r a; awake = after; frame = aside_frame t r a w }

  -- nobody: 32 is no task
  nobody : {u : Table} (opened : ℕ → Bool) → Reads u (record { state = state_at t; opened = opened; entry = entry_at t }) → Touches t c u
  nobody opened r =
      let w = ap is_blocked (state_out t 32 (omega arith)) in
      touched 32 w r (aside_same 32 (said t) opened) (awake_after 32 r w)

  -- one whose event is reached
  released : Release t c.task → Touches t c (with_state t c.task Running)
  released h =
      let r = releases_reads t z c.task h in
      let a = aside_state c.task (said t) Running in
      record {
        task = c.task;
        apart = aside_apart t r a;
        awake = awake_after c.task r (ap is_blocked (put_here (state_at t) c.task Running));
        frame = record {
          stays = λ k e b v f d i. r.states k ∙ (a.states k (λ q. unreached k e b v i q) ∙ b);
          keeps = λ v f b e i. impedes_same t _ v (r.entries v) e ∙ i;
        };
      }
    where
      unreached : (k : ℕ) (e : Awaited) → BlockedOn t k e → (v : ℕ) → Impedes t v e → k ≡ c.task → ⊥
      unreached k e b v i q =
          let same = one_awaited (state_at t c.task) h.event e h.blocked (ap (state_at t) (sym q) ∙ b) in
          impeded_unreached t v e i (ap (reached_of t) (sym same) ∙ h.reached)

  pub step_touches : (u : Table) → Step t c u → Touches t c u
  step_touches _ stays = nobody (λ p. (said t).opened p) (reads_itself t)
  step_touches _ (opens_task k h) =
      let r = opens_task_reads t z h in
      let j = lowest_free t in
      touched j (ap is_blocked (is_free_lem (state_at t j) ((free_lowest t).0 h.free))) r (aside_state j (said t) Running)
      (awake_after j r (ap is_blocked (put_here (state_at t) j Running)))
  step_touches _ (ends_task k h) =
      let r = ends_task_reads t z c.task h in
      touched c.task (ap is_blocked h.runs) r (aside_ended c.task (said t) Free)
      (awake_after c.task r (ap is_blocked (put_here (state_at t) c.task Free)))
  step_touches _ (opens_phaser k h) =
      let r = opens_phaser_reads t z c.task h in
      let w = ap is_blocked h.caller.runs in
      touched c.task w r (aside_entry c.task (said t) _ (lowest_unopened t) (joined 0)) (awake_after c.task r w)
  step_touches _ (closes_phaser k h) = nobody _ (closes_phaser_reads t z c.phaser h)
  step_touches _ (admits k h) =
      touched c.other h.awake (admits_reads t z c.task c.phaser c.other h)
      (aside_entry c.other (said t) _ c.phaser (joined (phase_at t c.task c.phaser))) (inr (inl k))
  step_touches _ (leaves k h) =
      let r = leaves_reads t z c.task c.phaser h in
      let w = ap is_blocked h.caller.runs in
      touched c.task w r (aside_entry c.task (said t) _ c.phaser absent) (awake_after c.task r w)
  step_touches _ (advances k n h l) =
      let r = advances_reads t z c.task c.phaser n h in
      let w = ap is_blocked h.caller.runs in
      touched c.task w r (aside_entry c.task (said t) _ c.phaser (joined n)) (awake_after c.task r w)
  step_touches _ (blocks k n h) =
      touched c.task (ap is_blocked h.caller.runs) (blocks_reads t z c.task (event c.phaser n) h.caller)
      (aside_state c.task (said t) (awaiting (event c.phaser n))) (inr (inr k))
  step_touches _ (releases k h) = released h

  -- every call, refused or not
  pub call_touches : Touches t c (call_of t c).table
  call_touches = step_touches (call_of t c).table (call_step t c)

-- an impeded event's release is not accepted
pub impeded_refused : (t : Table) (k u : ℕ) (e : Awaited) → BlockedOn t k e → Impedes t u e → (release_of t k).answer < 10 → ⊥
impeded_refused t k u e b i l =
    let h = (row_accepted (release_row t k)).0 l in
    impeded_unreached t u e i (ap (reached_of t) (one_awaited (state_at t k) e h.event b h.blocked) ∙ h.reached)

-- ---- backwards: through an end or a release nobody becomes blocked, and nobody comes to impede
pub record Fewer (t u : Table) : Type 0 where
  pub blocked : (k : ℕ) (e : Awaited) → BlockedOn u k e → BlockedOn t k e
  pub impedes : (v : ℕ) (e : Awaited) → Impedes u v e → Impedes t v e

pub fewer_frame : (t u : Table) → Fewer t u → FrameOf u t
fewer_frame t u f = record { stays = λ k e b v g c i. f.blocked k e b; keeps = λ v g b e i. f.impedes v e i }

fewer_same : (t : Table) → Fewer t t
fewer_same t = record { blocked = λ k e b. b; impedes = λ v e i. i }

-- where only task j is touched, which is awake then and impedes no more than before
apart_fewer : (t u : Table) (j : ℕ) → ApartOf t u j → is_blocked (state_at u j) ≡ false
    → ((e : Awaited) → Impedes u j e → Impedes t j e) → Fewer t u
apart_fewer t u j a w less = record { blocked = λ k e b. blocked k e b (ℕ_discrete k j); impedes = λ v e i. impedes v e i (ℕ_discrete v j) }
  where
    blocked : (k : ℕ) (e : Awaited) → BlockedOn u k e → Dec (k ≡ j) → BlockedOn t k e
    blocked k e b (yes q) = absurd (clash (ap is_blocked b) (ap (λ (i : ℕ). is_blocked (state_at u i)) q ∙ w))
    blocked k e b (no n) = a.blocked k e n b

    impedes : (v : ℕ) (e : Awaited) → Impedes u v e → Dec (v ≡ j) → Impedes t v e
    impedes v e i (yes q) = rw q (less e (rw q at i))
    impedes v e i (no n) = a.impedes v e n i

module _ (t : Table) (z : Shaped t) (a : ℕ) where
  pub end_fewer : Fewer t (end_task_of t a).table
  end_fewer =
      row_cases (end_task_row t a) (λ d. Fewer t d.table) (each_all (λ n. Fewer t (refused t n).table) (λ n. fewer_same t) (end_task_tests t a))
      (λ h.
      let r = ends_task_reads t z a h in
      apart_fewer t _ a (aside_apart t r (aside_ended a (said t) Free)) (ap is_blocked (r.states a ∙ put_here (state_at t) a Free))
      (λ e i. absurd (clash ((impedes_iff _ a e).0 i).0 (reads_member r a e.phaser.0 ∙ rw (eq-eqb a a refl)))))

  pub release_fewer : Fewer t (release_of t a).table
  release_fewer =
      row_cases (release_row t a) (λ d. Fewer t d.table) (each_all (λ n. Fewer t (refused t n).table) (λ n. fewer_same t) (release_tests t a))
      (λ h.
      let r = releases_reads t z a h in
      apart_fewer t _ a (aside_apart t r (aside_state a (said t) Running)) (ap is_blocked (r.states a ∙ put_here (state_at t) a Running))
      (λ e i. sym (impedes_same t _ a (r.entries a) e) ∙ i))
