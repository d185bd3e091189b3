-- What every call keeps: a refusal leaves the table, the arrays keep their lengths, a sound table stays sound.
use mathlib.Core.Path.{◌≡◌, refl, ap, sym, ◌∙◌}
use mathlib.Core.Logic.{◌⊎◌, inl, inr}
use mathlib.Core.Bool.{true, false}
use Prim.Native.Nat.{ℕ, ◌≤◌}
use native.Mathlib.Omega.{arith}
use borrow.Author.Tests.{eqb-true, eq-eqb, le-leb}
use Rattle.answers.specs.Answers.{no_kind}
use Rattle.states.specs.State.{largest_phase, is_live, event}
use Rattle.states.specs.Waiting.{Awaited, awaiting, waits_at}
use Rattle.states.specs.declared.state.State.{State}
use Rattle.states.specs.declared.state.State.TheVariants.{Free, Running, Blocked}
use Rattle.states.proofs.Refusals.{each_all}
use Rattle.states.proofs.Truth.{clash}
use Rattle.hall.specs.Calls.{refused, kind_count, call_of}
use Rattle.hall.specs.Effects.{with_open, without_entries}
use Rattle.hall.specs.Parts.{sound_of}
use Rattle.hall.specs.Table.{state_at, open_at, phase_at, joined, absent, Shaped}
use Rattle.hall.specs.Tests.{lowest_free, lowest_unopened, unused}
use Rattle.hall.specs.Waiting.{BlockedOn}
use Rattle.hall.specs.declared.calls.Call.{Call}
use Rattle.hall.specs.declared.calls.Called.{Called}
use Rattle.hall.specs.declared.table.Table.{Table}
use Rattle.hall.proofs.ByEffect.{Step, stays, opens_task, ends_task, opens_phaser, closes_phaser, admits, leaves, advances, blocks, releases}
use Rattle.hall.proofs.ByEffect.{Ruled, call_cases, call_step}
use Rattle.hall.proofs.Changes.{unused_iff, opens_task_reads, ends_task_reads, opens_phaser_reads, closes_phaser_reads, admits_reads}
use Rattle.hall.proofs.Changes.{leaves_reads, advances_reads, blocks_reads, releases_reads}
use Rattle.hall.proofs.Rows.{row_cases}
use Rattle.hall.proofs.Soundness.{Fine, FineTable, sound_fine, fine_sound, sound_iff, reads_fine, stated_fine, entered_fine, cleared_fine}
use Rattle.hall.proofs.Soundness.{opening_fine}
use Rattle.hall.proofs.Written.{Says, said, Reads, stated, entered, opening, cleared, state_shaped, entry_shaped, open_shaped, row_shaped}

-- ---- refusals
-- "From 10 up they are refusals: value 0, the table .. exactly as before"
pub call_refused : (t : Table) (c : Call) → 10 ≤ (call_of t c).answer → call_of t c ≡ refused t (call_of t c).answer
call_refused t c = go (call_cases t c)
  where
    go : Ruled t c (call_of t c) ⊎ ((kind_count ≤ c.kind) × (call_of t c ≡ refused t no_kind)) → 10 ≤ (call_of t c).answer
        → call_of t c ≡ refused t (call_of t c).answer
    go (inl r) =
        row_cases r.row (λ d. 10 ≤ d.answer → d ≡ refused t d.answer)
        (each_all (λ n. 10 ≤ n → refused t n ≡ refused t n) (λ n l. refl) r.tests) (λ h l. absurd (omega (arith, r.row.accepts)))
    go (inr x) = λ l. x.1 ∙ ap (λ (d : Called). refused t d.answer) (sym x.1)

-- ---- the arrays keep their lengths
pub step_shaped : (t : Table) → Shaped t → (c : Call) (u : Table) → Step t c u → Shaped u
step_shaped t z c _ stays = z
step_shaped t z c _ (opens_task k h) = state_shaped t z (lowest_free t) Running
step_shaped t z c _ (ends_task k h) = state_shaped (without_entries t c.task 16) (row_shaped t z c.task) c.task Free
step_shaped t z c _ (opens_phaser k h) =
    entry_shaped (with_open t (lowest_unopened t) true) (open_shaped t z (lowest_unopened t) true) c.task (lowest_unopened t) (joined 0)
step_shaped t z c _ (closes_phaser k h) = open_shaped t z c.phaser false
step_shaped t z c _ (admits k h) = entry_shaped t z c.other c.phaser (joined (phase_at t c.task c.phaser))
step_shaped t z c _ (leaves k h) = entry_shaped t z c.task c.phaser absent
step_shaped t z c _ (advances k n h f) = entry_shaped t z c.task c.phaser (joined n)
step_shaped t z c _ (blocks k n h) = state_shaped t z c.task (awaiting (event c.phaser n))
step_shaped t z c _ (releases k h) = state_shaped t z c.task Running

pub call_shaped : (t : Table) → Shaped t → (c : Call) → Shaped (call_of t c).table
call_shaped t z c = step_shaped t z c (call_of t c).table (call_step t c)

-- ---- "No call makes a sound table unsound"
module _ (t : Table) (z : Shaped t) (s : sound_of t ≡ true) where
  f : FineTable t
  f = sound_fine t s

  fine : (u : Table) {x : Says} → Reads u x → Fine x → sound_of u ≡ true
  fine u r g = fine_sound u (reads_fine r g)

  ended : (a : ℕ) → Fine (stated (cleared (said t) a) a Free)
  ended a = stated_fine (cleared_fine f a) a Free (λ p m. absurd (clash m (rw (eq-eqb a a refl)))) refl

  phaser_opened : (a p : ℕ) → state_at t a ≡ Running → Fine (entered (opening (said t) p true) a p (joined 0))
  phaser_opened a p r = entered_fine (opening_fine f p true (λ k m. refl) (λ k w. refl)) a p (joined 0) (simp (r, eq-eqb p p refl))

  phaser_closed : (p : ℕ) → unused t p ≡ true → Fine (opening (said t) p false)
  phaser_closed p e =
      let u = (unused_iff t p).0 e in
      opening_fine f p false (λ k m. absurd (clash m (u.0 k))) (λ k w. absurd (waiting k (state_at t k) refl w (u.1 k)))
    where
      waiting : (k : ℕ) (x : State) → state_at t k ≡ x → waits_at x p ≡ true
          → ((e : Awaited) → BlockedOn t k e → e.phaser.0 ≡ p → ⊥) → ⊥
      waiting k Free q w h = clash w refl
      waiting k Running q w h = clash w refl
      waiting k (Blocked v) q w h = h v q (eqb-true v.phaser.0 p w)

  entry_joined : (k p n : ℕ) → is_live (state_at t k) ≡ true → open_at t p ≡ true → n ≤ largest_phase → Fine (entered (said t) k p (joined n))
  entry_joined k p n l o h = entered_fine f k p (joined n) (simp (l, o, le-leb n largest_phase h))

  blocked : (a p n : ℕ) → open_at t p ≡ true → n ≤ largest_phase → Fine (stated (said t) a (awaiting (event p n)))
  blocked a p n o h = stated_fine f a (awaiting (event p n)) (λ q m. refl) (simp (o, le-leb n largest_phase h))

  runs : (a : ℕ) → Fine (stated (said t) a Running)
  runs a = stated_fine f a Running (λ p m. refl) refl

  pub step_sound : (c : Call) (u : Table) → Step t c u → sound_of u ≡ true
  step_sound c _ stays = s
  step_sound c u (opens_task k h) = fine u (opens_task_reads t z h) (runs (lowest_free t))
  step_sound c u (ends_task k h) = fine u (ends_task_reads t z c.task h) (ended c.task)
  step_sound c u (opens_phaser k h) = fine u (opens_phaser_reads t z c.task h) (phaser_opened c.task (lowest_unopened t) h.caller.runs)
  step_sound c u (closes_phaser k h) = fine u (closes_phaser_reads t z c.phaser h) (phaser_closed c.phaser h.nobody)
  step_sound c u (admits k h) =
      let n = phase_at t c.task c.phaser in
      fine u (admits_reads t z c.task c.phaser c.other h)
      (entry_joined c.other c.phaser n h.live h.member.opens (((sound_iff t).0 s).kept c.task c.phaser))
  step_sound c u (leaves k h) = fine u (leaves_reads t z c.task c.phaser h) (entered_fine f c.task c.phaser absent refl)
  step_sound c u (advances k n h l) =
      fine u (advances_reads t z c.task c.phaser n h) (entry_joined c.task c.phaser n (ap is_live h.caller.runs) h.opens l)
  step_sound c u (blocks k n h) = fine u (blocks_reads t z c.task (event c.phaser n) h.caller) (blocked c.task c.phaser n h.opens h.fits)
  step_sound c u (releases k h) = fine u (releases_reads t z c.task h) (runs c.task)

  pub call_sound : (c : Call) → sound_of (call_of t c).table ≡ true
  call_sound c = step_sound c (call_of t c).table (call_step t c)
