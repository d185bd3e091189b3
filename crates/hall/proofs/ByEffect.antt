-- Each kind of call has its row, and each row its effect: the table after a call is the same, or one of ten effects with what the row tells in hand. A law
-- over all calls is one over these; a new kind with an old effect is a line here and one in `call_of`.
use mathlib.Core.Path.{◌≡◌, refl, sym, subst}
use mathlib.Core.Logic.{◌⊎◌, inl, inr}
use mathlib.Core.Bool.{Bool, true, false, cond}
use mathlib.Core.List.{List, [], ◌∷◌}
use Prim.Native.Nat.{ℕ, ◌+◌, ◌<◌, ◌≤◌}
use native.Mathlib.Omega.{arith}
use lib.Dec.{eqb, lit<}
use borrow.Author.Tests.{eqb-true, eqb-false}
use Rattle.answers.specs.Answers.{no_kind, wait_passed, now_blocked, among}
use Rattle.states.specs.State.{largest_phase, event}
use Rattle.states.specs.Tests.{Test, caller_tests, member_tests, admit_tests, arrive_tests, wait_at_tests}
use Rattle.states.specs.Waiting.{awaiting}
use Rattle.states.specs.declared.state.State.TheVariants.{Free, Running}
use Rattle.states.proofs.Refusals.{tail, each_test, each_all}
use Rattle.hall.specs.Answers.{answers_of}
use Rattle.hall.specs.Calls.{refused, open_task_of, end_task_of, open_phaser_of, close_phaser_of, admit_of, leave_of, arrive_of, waits, wait_of, wait_at_of}
use Rattle.hall.specs.Calls.{release_of, kind_count, call_of}
use Rattle.hall.specs.Effects.{with_state, with_entry, with_open, without_entries}
use Rattle.hall.specs.Table.{open_at, phase_at, joined, absent}
use Rattle.hall.specs.Tests.{lowest_free, lowest_unopened, open_task_tests, end_task_tests, open_phaser_tests, close_phaser_tests, release_tests}
use Rattle.hall.specs.Waiting.{reached_of}
use Rattle.hall.specs.declared.calls.Call.{Call}
use Rattle.hall.specs.declared.calls.Called.{Called}
use Rattle.hall.specs.declared.table.Table.{Table}
use Rattle.hall.proofs.Rows.{Row, row_cases, OpenTask, open_task_row, Caller, end_task_row, OpenPhaser, open_phaser_row, ClosePhaser}
use Rattle.hall.proofs.Rows.{close_phaser_row, Admit, admit_row, Member, leave_row, arrive_row, waits_cases, wait_row, wait_at_row}
use Rattle.hall.proofs.Rows.{Release, release_row}
use Rattle.hall.proofs.Soundness.{sound_iff}

-- ---- the effects
-- the call is of one of these kinds
abbrev pub OfKind : Call → List ℕ → Type 0
OfKind c kinds = among c.kind kinds ≡ true

-- the caller is to be blocked on an event of an open phaser, which somebody impedes
pub record Blocks (t : Table) (a p n : ℕ) : Type 0 where
  pub caller : Caller t a
  pub opens : open_at t p ≡ true
  pub fits : n ≤ largest_phase
  pub unreached : reached_of t (event p n) ≡ false

pub data Step (t : Table) (c : Call) : Table → Type 0 where
  stays : Step t c t
  opens_task : OfKind c (0 ∷ []) → OpenTask t → Step t c (with_state t (lowest_free t) Running)
  ends_task : OfKind c (1 ∷ []) → Caller t c.task → Step t c (with_state (without_entries t c.task 16) c.task Free)
  opens_phaser : OfKind c (2 ∷ []) → OpenPhaser t c.task
      → Step t c (with_entry (with_open t (lowest_unopened t) true) c.task (lowest_unopened t) (joined 0))
  closes_phaser : OfKind c (3 ∷ []) → ClosePhaser t c.phaser → Step t c (with_open t c.phaser false)
  admits : OfKind c (4 ∷ []) → Admit t c.task c.phaser c.other
      → Step t c (with_entry t c.other c.phaser (joined (phase_at t c.task c.phaser)))
  leaves : OfKind c (5 ∷ []) → Member t c.task c.phaser → Step t c (with_entry t c.task c.phaser absent)
  advances : OfKind c (6 ∷ []) → (n : ℕ) → Member t c.task c.phaser → n ≤ largest_phase
      → Step t c (with_entry t c.task c.phaser (joined n))
  blocks : OfKind c (7 ∷ 8 ∷ []) → (n : ℕ) → Blocks t c.task c.phaser n → Step t c (with_state t c.task (awaiting (event c.phaser n)))
  releases : OfKind c (9 ∷ []) → Release t c.task → Step t c (with_state t c.task Running)

-- ---- the kinds
-- a call that its kind rules: its tests, its effect, what the tests tell; its refusals and its answers are the kind's own; its effect is a step
pub record Ruled (t : Table) (c : Call) (call : Called) : Type 1 where
  pub known : c.kind < kind_count
  pub tests : List Test
  pub effect : Called
  pub Told : Type 0
  pub row : Row t call tests effect Told
  pub own : each_test (λ n. among n (answers_of c.kind)) (tail tests) ≡ true
  pub answers : among effect.answer (answers_of c.kind) ≡ true
  pub steps : Told → Step t c effect.table

module _ (t : Table) (c : Call) where
  abbrev a : ℕ
  a = c.task

  abbrev p : ℕ
  p = c.phaser

  ruled : (n : ℕ) → c.kind ≡ n → n < kind_count → {call : Called} {tests : List Test} {effect : Called} {Told : Type 0}
      → Row t call tests effect Told → each_test (λ m. among m (answers_of n)) (tail tests) ≡ true → among effect.answer (answers_of n) ≡ true
      → (Told → Step t c effect.table) → Ruled t c call
  ruled n q l {call} {tests} {effect} {Told} row own answers steps = record {
    known = omega (arith, q, l);
    tests = tests;
    effect = effect;
    Told = Told;
    row = row;
    own = rw q own;
    answers = rw q answers;
    steps = steps;
  }

  -- a wait passes and nothing changes, or it blocks
  waiting : (n : ℕ) → OfKind c (7 ∷ 8 ∷ []) → Caller t a → open_at t p ≡ true → n ≤ largest_phase → Step t c (waits t a p n).table
  waiting n k h o f =
      waits_cases (λ d. Step t c d.table) t a p n (λ e. stays) (λ e. blocks k n (record { caller = h; opens = o; fits = f; unreached = e }))

  answered : (l : List ℕ) (n : ℕ) → among wait_passed l ≡ true → among now_blocked l ≡ true → among (waits t a p n).answer l ≡ true
  answered l n x y = waits_cases (λ d. among d.answer l ≡ true) t a p n (λ e. x) (λ e. y)

  -- what holds of the call of each kind, and of 42 where there is no such kind, holds of a call
  pub kinds {ℓ} : (P : Called → Type ℓ) → (c.kind ≡ 0 → P (open_task_of t)) → (c.kind ≡ 1 → P (end_task_of t a))
      → (c.kind ≡ 2 → P (open_phaser_of t a)) → (c.kind ≡ 3 → P (close_phaser_of t p)) → (c.kind ≡ 4 → P (admit_of t a p c.other))
      → (c.kind ≡ 5 → P (leave_of t a p)) → (c.kind ≡ 6 → P (arrive_of t a p)) → (c.kind ≡ 7 → P (wait_of t a p))
      → (c.kind ≡ 8 → P (wait_at_of t a p c.other)) → (c.kind ≡ 9 → P (release_of t a))
      → (kind_count ≤ c.kind → P (refused t no_kind)) → P (call_of t c)
  unfolding call_of
  kinds P p0 p1 p2 p3 p4 p5 p6 p7 p8 p9 none =
      by 0 (omega arith) p0 (λ l. by 1 l p1 (λ l. by 2 l p2 (λ l. by 3 l p3 (λ l. by 4 l p4 (λ l. by 5 l p5 (λ l. by 6 l p6 (λ l. by 7 l p7
      (λ l. by 8 l p8 (λ l. by 9 l p9 none)))))))))
    where
      by : (n : ℕ) {x y : Called} → n ≤ c.kind → (c.kind ≡ n → P x) → (n + 1 ≤ c.kind → P y) → P (cond (eqb c.kind n) x y)
      by n {x} {y} h here further = go (eqb c.kind n) refl
        where
          go : (b : Bool) → eqb c.kind n ≡ b → P (cond b x y)
          go true e = here (eqb-true c.kind n e)
          go false e = further (omega (arith, eqb-false c.kind n e))

  -- a line a kind
  pub call_cases : Ruled t c (call_of t c) ⊎ ((kind_count ≤ c.kind) × (call_of t c ≡ refused t no_kind))
  unfolding open_task_tests end_task_tests open_phaser_tests close_phaser_tests release_tests member_tests admit_tests arrive_tests wait_at_tests caller_tests
  call_cases =
      kinds (λ call. Ruled t c call ⊎ ((kind_count ≤ c.kind) × (call ≡ refused t no_kind)))
      (λ q. inl (ruled 0 q (lit< tt) (open_task_row t) refl refl (opens_task (rw q refl))))
      (λ q. inl (ruled 1 q (lit< tt) (end_task_row t a) refl refl (ends_task (rw q refl))))
      (λ q. inl (ruled 2 q (lit< tt) (open_phaser_row t a) refl refl (opens_phaser (rw q refl))))
      (λ q. inl (ruled 3 q (lit< tt) (close_phaser_row t p) refl refl (closes_phaser (rw q refl))))
      (λ q. inl (ruled 4 q (lit< tt) (admit_row t a p c.other) refl refl (admits (rw q refl))))
      (λ q. inl (ruled 5 q (lit< tt) (leave_row t a p) refl refl (leaves (rw q refl))))
      (λ q. inl (ruled 6 q (lit< tt) (arrive_row t a p) refl refl (λ h. advances (rw q refl) (phase_at t a p + 1) h.member (omega (arith, h.below)))))
      (λ q. inl (ruled 7 q (lit< tt) (wait_row t a p) refl (answered (answers_of 7) (phase_at t a p) refl refl)
      (λ h. waiting (phase_at t a p) (rw q refl) h.caller h.opens (((sound_iff t).0 h.caller.sound).kept a p))))
      (λ q. inl (ruled 8 q (lit< tt) (wait_at_row t a p c.other) refl (answered (answers_of 8) c.other refl refl)
      (λ h. waiting c.other (rw q refl) h.caller h.opens h.fits)))
      (λ q. inl (ruled 9 q (lit< tt) (release_row t a) refl refl (releases (rw q refl)))) (λ l. inr (l, refl))

  pub call_ruled : c.kind < kind_count → Ruled t c (call_of t c)
  call_ruled l = go call_cases
    where
      go : Ruled t c (call_of t c) ⊎ ((kind_count ≤ c.kind) × (call_of t c ≡ refused t no_kind)) → Ruled t c (call_of t c)
      go (inl r) = r
      go (inr x) = absurd (omega (arith, x.0))

  -- "any other kind is 42"
  pub no_kind_refused : kind_count ≤ c.kind → call_of t c ≡ refused t no_kind
  no_kind_refused l = go call_cases
    where
      go : Ruled t c (call_of t c) ⊎ ((kind_count ≤ c.kind) × (call_of t c ≡ refused t no_kind)) → call_of t c ≡ refused t no_kind
      go (inl r) = absurd (omega (arith, r.known))
      go (inr x) = x.1

  -- the table after any call
  pub call_step : Step t c (call_of t c).table
  call_step = go call_cases
    where
      go : Ruled t c (call_of t c) ⊎ ((kind_count ≤ c.kind) × (call_of t c ≡ refused t no_kind)) → Step t c (call_of t c).table
      go (inl r) = row_cases r.row (λ d. Step t c d.table) (each_all (λ n. Step t c (refused t n).table) (λ n. stays) r.tests) r.steps
      go (inr x) = subst (λ (d : Called). Step t c d.table) (sym x.1) stays
