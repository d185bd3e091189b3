-- The rows of document 01's table: what holds where a kind of call is accepted, by name. A kind's laws cite its row, not its tests.
use mathlib.Core.Path.{◌≡◌, refl, ap, sym, ◌∙◌, subst}
use mathlib.Core.Logic.{◌↔◌}
use mathlib.Core.Bool.{Bool, true, false, not, cond}
use mathlib.Core.List.{List, [], ◌∷◌, ◌++◌}
use Prim.Native.Nat.{ℕ, ◌+◌, ◌<◌, ◌≤◌}
use lib.Dec.{leb, ltb, lit<}
use borrow.Author.Tests.{ltb-true, lt-ltb, leb-true, le-leb, not-true}
use Rattle.answers.specs.Answers.{done, wait_passed, now_blocked, no_phaser, not_member, phase_too_large, no_task, target_blocked, already_member, none_free}
use Rattle.states.specs.State.{largest_phase, is_live, is_running, is_blocked, event}
use Rattle.states.specs.Tests.{Test, ◌else◌, caller_tests, member_tests, admit_tests, arrive_tests, wait_at_tests}
use Rattle.states.specs.Waiting.{Awaited, awaiting}
use Rattle.states.specs.declared.state.State.{State}
use Rattle.states.specs.declared.state.State.TheVariants.{Free, Running, Blocked}
use Rattle.states.proofs.Events.{is_running_lem}
use Rattle.states.proofs.Refusals.{refuses, Passed, passed_append, tail, Each}
use Rattle.states.proofs.Truth.{clash}
use Rattle.hall.specs.Calls.{called, refused, ruled, open_task_of, end_task_of, open_phaser_of, close_phaser_of, admit_of, leave_of, arrive_of, waits}
use Rattle.hall.specs.Calls.{wait_of, wait_at_of, release_of}
use Rattle.hall.specs.Effects.{with_state, with_entry, with_open, without_entries}
use Rattle.hall.specs.Parts.{sound_of}
use Rattle.hall.specs.Table.{state_at, open_at, member_at, phase_at, joined, absent}
use Rattle.hall.specs.Tests.{sound, lowest_free, lowest_unopened, unused, released, seen_at, open_task_tests, end_task_tests, open_phaser_tests}
use Rattle.hall.specs.Tests.{close_phaser_tests, release_tests}
use Rattle.hall.specs.Waiting.{BlockedOn, reached_of}
use Rattle.hall.specs.declared.calls.Called.{Called}
use Rattle.hall.specs.declared.table.Table.{Table}
use Rattle.hall.proofs.Ruled.{ruled_is, ruled_cases, ruled_accepted}

-- a call is its tests and its effect; Told says what the tests say
pub record Row (t : Table) (call : Called) (tests : List Test) (effect : Called) (Told : Type 0) : Type 0 where
  pub is : call ≡ ruled t tests effect
  pub first : tests ≡ sound t ∷ tail tests
  pub high : refuses tests ≡ true
  pub accepts : effect.answer < 10
  pub told : Passed tests ↔ Told

module _ {t : Table} {call : Called} {tests : List Test} {effect : Called} {Told : Type 0} (r : Row t call tests effect Told) where
  -- what holds of each refusal, and of the effect, holds of the call
  pub row_cases : (P : Called → Type 0) → Each (λ n. P (refused t n)) tests → (Told → P effect) → P call
  row_cases P e d = subst P (sym r.is) (ruled_cases t tests effect P r.high e (λ p. d (r.told.0 p)))

  -- it is accepted exactly where its row says, and is its effect then
  pub row_accepted : (call.answer < 10) ↔ Told
  row_accepted =
      let x = ruled_accepted t tests effect r.high r.accepts in (
        λ l. r.told.0 (x.0 (subst (λ (c : Called). c.answer < 10) r.is l)),
        λ h. subst (λ (c : Called). c.answer < 10) (sym r.is) (x.1 (r.told.1 h)),
      )

  pub row_effect : Told → call ≡ effect
  row_effect h = r.is ∙ ruled_is t tests effect (r.told.1 h)

-- the tests of a row that begins as another tell what the beginning tells, and what the rest does
begins : {A B : Type 0} (a b : List Test) → Passed a ↔ A → Passed b ↔ B → Passed (a ++ b) ↔ (A × B)
begins a b f g =
    let both = passed_append a b in
    (λ p. let q = both.0 p in (f.0 q.0, g.0 q.1), λ h. both.1 (f.1 h.0, g.1 h.1))

-- ---- the rows
pub record OpenTask (t : Table) : Type 0 where
  pub sound : sound_of t ≡ true
  pub free : lowest_free t < 32

pub open_task_row : (t : Table) → Row t (open_task_of t) (open_task_tests t) (called done (lowest_free t) (with_state t (lowest_free t) Running)) (OpenTask t)
unfolding open_task_of open_task_tests refuses Passed
open_task_row t = record {
  is = refl;
  first = refl;
  high = refl;
  accepts = lit< tt;
  told = (
    λ p. record { sound = p.0; free = ltb-true (lowest_free t) 32 p.1.0 },
    λ h. (h.sound, (lt-ltb (lowest_free t) 32 h.free, tt)),
  );
}

-- how rows with a caller begin: the table is sound and the caller runs
pub record Caller (t : Table) (a : ℕ) : Type 0 where
  pub sound : sound_of t ≡ true
  pub runs : state_at t a ≡ Running

caller_told : (t : Table) (a : ℕ) → Passed (caller_tests (sound_of t) (state_at t a)) ↔ Caller t a
unfolding caller_tests Passed
caller_told t a = (
  λ p. record { sound = p.0; runs = is_running_lem (state_at t a) p.1.1.0 },
  λ h. (h.sound, (ap is_live h.runs, (ap is_running h.runs, tt))),
)

pub end_task_row : (t : Table) (a : ℕ) → Row t (end_task_of t a) (end_task_tests t a) (called done 0 (with_state (without_entries t a 16) a Free)) (Caller t a)
unfolding end_task_of end_task_tests caller_tests refuses
end_task_row t a = record { is = refl; first = refl; high = refl; accepts = lit< tt; told = caller_told t a }

pub record OpenPhaser (t : Table) (a : ℕ) : Type 0 where
  pub caller : Caller t a
  pub unopened : lowest_unopened t < 16

open_phaser_told : (t : Table) (a : ℕ) → Passed (open_phaser_tests t a) ↔ OpenPhaser t a
unfolding open_phaser_tests Passed
open_phaser_told t a =
    let both = begins (caller_tests (sound_of t) (state_at t a)) (ltb (lowest_unopened t) 16 else none_free ∷ []) (caller_told t a)
    (λ p. ltb-true (lowest_unopened t) 16 p.0, λ h. (lt-ltb (lowest_unopened t) 16 h, tt)) in
    (λ p. let q = both.0 p in record { caller = q.0; unopened = q.1 }, λ h. both.1 (h.caller, h.unopened))

pub open_phaser_row : (t : Table) (a : ℕ)
    → Row t (open_phaser_of t a) (open_phaser_tests t a)
    (called done (lowest_unopened t) (with_entry (with_open t (lowest_unopened t) true) a (lowest_unopened t) (joined 0))) (OpenPhaser t a)
unfolding open_phaser_of open_phaser_tests caller_tests refuses
open_phaser_row t a = record { is = refl; first = refl; high = refl; accepts = lit< tt; told = open_phaser_told t a }

pub record ClosePhaser (t : Table) (p : ℕ) : Type 0 where
  pub sound : sound_of t ≡ true
  pub opens : open_at t p ≡ true
  pub nobody : unused t p ≡ true

pub close_phaser_row : (t : Table) (p : ℕ) → Row t (close_phaser_of t p) (close_phaser_tests t p) (called done 0 (with_open t p false)) (ClosePhaser t p)
unfolding close_phaser_of close_phaser_tests refuses Passed
close_phaser_row t p = record {
  is = refl;
  first = refl;
  high = refl;
  accepts = lit< tt;
  told = (λ x. record { sound = x.0; opens = x.1.0; nobody = x.1.1.0 }, λ h. (h.sound, (h.opens, (h.nobody, tt))));
}

-- a running task that is a member: it may leave, and wait at its own phase
pub record Member (t : Table) (a p : ℕ) : Type 0 where
  pub caller : Caller t a
  pub opens : open_at t p ≡ true
  pub member : member_at t a p ≡ true

member_told : (t : Table) (a p : ℕ) → Passed (member_tests (seen_at t a p)) ↔ Member t a p
unfolding member_tests Passed
member_told t a p =
    let both = begins {B = (open_at t p ≡ true) × (member_at t a p ≡ true)} (caller_tests (sound_of t) (state_at t a))
    (open_at t p else no_phaser ∷ member_at t a p else not_member ∷ []) (caller_told t a)
    (λ x. (x.0, x.1.0), λ h. (h.0, (h.1, tt))) in
    (λ x. let q = both.0 x in record { caller = q.0; opens = q.1.0; member = q.1.1 }, λ h. both.1 (h.caller, (h.opens, h.member)))

pub leave_row : (t : Table) (a p : ℕ) → Row t (leave_of t a p) (member_tests (seen_at t a p)) (called done 0 (with_entry t a p absent)) (Member t a p)
unfolding leave_of member_tests caller_tests refuses
leave_row t a p = record { is = refl; first = refl; high = refl; accepts = lit< tt; told = member_told t a p }

pub record Admit (t : Table) (a p b : ℕ) : Type 0 where
  pub member : Member t a p
  pub live : is_live (state_at t b) ≡ true
  pub awake : is_blocked (state_at t b) ≡ false
  pub fresh : member_at t b p ≡ false

admit_told : (t : Table) (a p b : ℕ) → Passed (admit_tests (seen_at t a p) (state_at t b) (member_at t b p)) ↔ Admit t a p b
unfolding admit_tests Passed
admit_told t a p b =
    let target = is_live (state_at t b) else no_task ∷ not (is_blocked (state_at t b)) else target_blocked ∷ not (member_at t b p) else already_member ∷ [] in
    let Target : Type 0 = (is_live (state_at t b) ≡ true) × (is_blocked (state_at t b) ≡ false) × (member_at t b p ≡ false) in
    let both = begins {B = Target} (member_tests (seen_at t a p)) target (member_told t a p) (
      λ x. (x.0, not-true (is_blocked (state_at t b)) x.1.0, not-true (member_at t b p) x.1.1.0),
      λ h. (h.0, (ap not h.1, (ap not h.2, tt))),
    ) in (
      λ x. let q = both.0 x in record { member = q.0; live = q.1.0; awake = q.1.1; fresh = q.1.2 },
      λ h. both.1 (h.member, (h.live, h.awake, h.fresh)),
    )

pub admit_row : (t : Table) (a p b : ℕ)
    → Row t (admit_of t a p b) (admit_tests (seen_at t a p) (state_at t b) (member_at t b p))
    (called done (phase_at t a p) (with_entry t b p (joined (phase_at t a p)))) (Admit t a p b)
unfolding admit_of admit_tests member_tests caller_tests refuses
admit_row t a p b = record { is = refl; first = refl; high = refl; accepts = lit< tt; told = admit_told t a p b }

pub record Arrive (t : Table) (a p : ℕ) : Type 0 where
  pub member : Member t a p
  pub below : phase_at t a p < largest_phase

arrive_told : (t : Table) (a p : ℕ) → Passed (arrive_tests (seen_at t a p)) ↔ Arrive t a p
unfolding arrive_tests Passed
arrive_told t a p =
    let both = begins (member_tests (seen_at t a p)) (ltb (phase_at t a p) largest_phase else phase_too_large ∷ []) (member_told t a p)
    (λ x. ltb-true (phase_at t a p) largest_phase x.0, λ h. (lt-ltb (phase_at t a p) largest_phase h, tt)) in
    (λ x. let q = both.0 x in record { member = q.0; below = q.1 }, λ h. both.1 (h.member, h.below))

pub arrive_row : (t : Table) (a p : ℕ)
    → Row t (arrive_of t a p) (arrive_tests (seen_at t a p)) (called done (phase_at t a p + 1) (with_entry t a p (joined (phase_at t a p + 1)))) (Arrive t a p)
unfolding arrive_of arrive_tests member_tests caller_tests refuses
arrive_row t a p = record { is = refl; first = refl; high = refl; accepts = lit< tt; told = arrive_told t a p }

-- a wait passes or blocks
pub waits_cases : (P : Called → Type 0) (t : Table) (a p n : ℕ) → (reached_of t (event p n) ≡ true → P (called wait_passed 0 t))
    → (reached_of t (event p n) ≡ false → P (called now_blocked 0 (with_state t a (awaiting (event p n))))) → P (waits t a p n)
unfolding waits
waits_cases P t a p n x y = go (reached_of t (event p n)) refl
  where
    go : (b : Bool) → reached_of t (event p n) ≡ b → P (cond b (called wait_passed 0 t) (called now_blocked 0 (with_state t a (awaiting (event p n)))))
    go true e = x e
    go false e = y e

waits_accepts : (t : Table) (a p n : ℕ) → (waits t a p n).answer < 10
waits_accepts t a p n = waits_cases (λ c. c.answer < 10) t a p n (λ e. lit< tt) (λ e. lit< tt)

pub wait_row : (t : Table) (a p : ℕ) → Row t (wait_of t a p) (member_tests (seen_at t a p)) (waits t a p (phase_at t a p)) (Member t a p)
unfolding wait_of member_tests caller_tests refuses
wait_row t a p = record { is = refl; first = refl; high = refl; accepts = waits_accepts t a p (phase_at t a p); told = member_told t a p }

pub record WaitAt (t : Table) (a p n : ℕ) : Type 0 where
  pub caller : Caller t a
  pub opens : open_at t p ≡ true
  pub fits : n ≤ largest_phase

wait_at_told : (t : Table) (a p n : ℕ) → Passed (wait_at_tests (seen_at t a p) n) ↔ WaitAt t a p n
unfolding wait_at_tests Passed
wait_at_told t a p n =
    let both = begins {B = (open_at t p ≡ true) × (n ≤ largest_phase)} (caller_tests (sound_of t) (state_at t a))
    (open_at t p else no_phaser ∷ leb n largest_phase else phase_too_large ∷ []) (caller_told t a)
    (λ x. (x.0, leb-true n largest_phase x.1.0), λ h. (h.0, (le-leb n largest_phase h.1, tt))) in
    (λ x. let q = both.0 x in record { caller = q.0; opens = q.1.0; fits = q.1.1 }, λ h. both.1 (h.caller, (h.opens, h.fits)))

pub wait_at_row : (t : Table) (a p n : ℕ) → Row t (wait_at_of t a p n) (wait_at_tests (seen_at t a p) n) (waits t a p n) (WaitAt t a p n)
unfolding wait_at_of wait_at_tests caller_tests refuses
wait_at_row t a p n = record { is = refl; first = refl; high = refl; accepts = waits_accepts t a p n; told = wait_at_told t a p n }

pub record Release (t : Table) (a : ℕ) : Type 0 where
  pub sound : sound_of t ≡ true
  pub event : Awaited
  pub blocked : BlockedOn t a event
  pub reached : reached_of t event ≡ true

pub release_row : (t : Table) (a : ℕ) → Row t (release_of t a) (release_tests t a) (called done 0 (with_state t a Running)) (Release t a)
unfolding release_of release_tests refuses Passed
release_row t a = record {
  is = refl;
  first = refl;
  high = refl;
  accepts = lit< tt;
  told = (
    λ x. go x.0 (state_at t a) refl x.1.1.1.0,
    λ h. (h.sound, (ap is_live h.blocked, (ap is_blocked h.blocked, (ap (released t) h.blocked ∙ h.reached, tt)))),
  );
}
  where
    go : sound_of t ≡ true → (s : State) → state_at t a ≡ s → released t s ≡ true → Release t a
    go y Free e r = absurd (clash r refl)
    go y Running e r = absurd (clash r refl)
    go y (Blocked x) e r = record { sound = y; event = x; blocked = e; reached = r }
