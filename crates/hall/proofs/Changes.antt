-- What an accepted call of each kind changes, over all that a table says, so that nothing else changes.
use mathlib.Core.Path.{◌≡◌, refl, ap, sym, ◌∙◌, subst}
use mathlib.Core.Logic.{◌⊎◌, inl, inr, ◌↔◌}
use mathlib.Core.Bool.{Bool, true, false, ◌&&◌, not, cond}
use mathlib.Core.List.{List}
use Prim.Native.Nat.{ℕ, ◌+◌, ◌<◌}
use native.Mathlib.Omega.{arith}
use lib.Dec.{ltb}
use lib.ListN.{get_or, set}
use lib.Seq.{set-set, set-get_or}
use borrow.Author.Tests.{eq-eqb, ne_eqb, not-true, not-false}
use Rattle.answers.specs.Answers.{done, wait_passed, now_blocked}
use Rattle.states.specs.State.{is_free, is_live, is_running, event, free_task}
use Rattle.states.specs.Tests.{Test}
use Rattle.states.specs.Waiting.{Awaited, awaiting, waits_at}
use Rattle.states.specs.declared.state.State.{State}
use Rattle.states.specs.declared.state.State.TheVariants.{Free, Running, Blocked}
use Rattle.states.specs.declared.state.Task.{Task}
use Rattle.states.proofs.Truth.{clash, and_left, and_right}
use Rattle.hall.specs.Calls.{called, open_task_of, end_task_of, open_phaser_of, close_phaser_of, admit_of, leave_of, arrive_of, waits, wait_of}
use Rattle.hall.specs.Calls.{wait_at_of, release_of}
use Rattle.hall.specs.Effects.{with_state, with_entry, with_open, without_entries}
use Rattle.hall.specs.Every.{every}
use Rattle.hall.specs.Table.{state_at, open_at, member_at, phase_at, joined, absent, Shaped}
use Rattle.hall.specs.Tests.{lowest_free, lowest_unopened, unused}
use Rattle.hall.specs.Waiting.{BlockedOn, Impedes, reached_of}
use Rattle.hall.specs.declared.calls.Called.{Called}
use Rattle.hall.specs.declared.table.Table.{Table}
use Rattle.hall.proofs.Every.{every_at, every_all}
use Rattle.hall.proofs.Impeded.{blocked_below, member_below, impedes_same, unreached_impeded}
use Rattle.hall.proofs.Lists.{lowest_holds, lowest_lower}
use Rattle.hall.proofs.Places.{live_below, open_below}
use Rattle.hall.proofs.Rows.{Row, row_accepted, row_effect, OpenTask, open_task_row, Caller, end_task_row, OpenPhaser, open_phaser_row}
use Rattle.hall.proofs.Rows.{ClosePhaser, close_phaser_row, Admit, admit_row, Member, leave_row, arrive_row, waits_cases, wait_row}
use Rattle.hall.proofs.Rows.{wait_at_row, Release, release_row}
use Rattle.hall.proofs.Written.{Says, said, Reads, reads_itself, stated, entered, opening, cleared, put_here}
use Rattle.hall.proofs.Written.{state_reads, entry_reads, open_reads, open_shaped, row_reads, row_shaped}

-- ---- the numbers that opening gives
pub free_lowest : (t : Table) → (lowest_free t < 32 → is_free (state_at t (lowest_free t)) ≡ true) ×
    ((k : ℕ) → k < lowest_free t → is_free (state_at t k) ≡ false)
unfolding lowest_free
free_lowest t = (
  λ l. lowest_holds (λ k. is_free (state_at t k)) 0 32 (omega arith),
  λ k h. lowest_lower (λ k. is_free (state_at t k)) 0 32 k (omega arith) h,
)

pub unopened_lowest : (t : Table) → (lowest_unopened t < 16 → open_at t (lowest_unopened t) ≡ false) × ((p : ℕ) → p < lowest_unopened t → open_at t p ≡ true)
unfolding lowest_unopened
unopened_lowest t = (
  λ l. not-true (open_at t (lowest_unopened t)) (lowest_holds (λ p. not (open_at t p)) 0 16 (omega arith)),
  λ p h. not-false (open_at t p) (lowest_lower (λ p. not (open_at t p)) 0 16 p (omega arith) h),
)

-- ---- who is in range
pub running_below : (t : Table) (k : ℕ) → state_at t k ≡ Running → k < 32
running_below t k e = live_below t k (ap is_live e)

-- ---- nobody is a member of a phaser, and nobody is blocked on it
pub unused_iff : (t : Table) (p : ℕ)
    → (unused t p ≡ true) ↔ (((k : ℕ) → member_at t k p ≡ false) × ((k : ℕ) (e : Awaited) → BlockedOn t k e → e.phaser.0 ≡ p → ⊥))
unfolding unused
unused_iff t p = (λ e. (members e, waiters e), λ h. every_all (free t p) 32 (λ k l. rw (h.0 k) (ap not (nobody (state_at t k) (h.1 k)))))
  where
    free : Table → ℕ → ℕ → Bool
    free t p k = not (member_at t k p) && not (waits_at (state_at t k) p)

    members : every (free t p) 32 ≡ true → (k : ℕ) → member_at t k p ≡ false
    members e k = go (member_at t k p) refl
      where
        go : (b : Bool) → member_at t k p ≡ b → b ≡ false
        go true m =
            let x = every_at (free t p) 32 k e (member_below t k p m).0 in
            absurd (clash m (not-true _ (and_left (not (member_at t k p)) (not (waits_at (state_at t k) p)) x)))
        go false m = refl

    waiters : every (free t p) 32 ≡ true → (k : ℕ) (e : Awaited) → BlockedOn t k e → e.phaser.0 ≡ p → ⊥
    waiters e k v b q =
        clash (ap (λ (s : State). waits_at s p) b ∙ eq-eqb v.phaser.0 p q)
        (not-true _ (and_right (not (member_at t k p)) (not (waits_at (state_at t k) p)) (every_at (free t p) 32 k e (blocked_below t k v b))))

    nobody : (s : State) → ((e : Awaited) → s ≡ Blocked e → e.phaser.0 ≡ p → ⊥) → waits_at s p ≡ false
    nobody Free h = refl
    nobody Running h = refl
    nobody (Blocked e) h = ne_eqb e.phaser.0 p (h e refl)

-- ---- what each effect does to a shaped table
module _ (t : Table) (z : Shaped t) where
  pub opens_task_reads : OpenTask t → Reads (with_state t (lowest_free t) Running) (stated (said t) (lowest_free t) Running)
  opens_task_reads h = state_reads z (reads_itself t) (lowest_free t) Running h.free

  pub ends_task_reads : (a : ℕ) → Caller t a → Reads (with_state (without_entries t a 16) a Free) (stated (cleared (said t) a) a Free)
  ends_task_reads a h =
      let l = running_below t a h.runs in
      state_reads (row_shaped t z a) (row_reads z (reads_itself t) a l) a Free l

  pub opens_phaser_reads : (a : ℕ) → OpenPhaser t a
      → Reads (with_entry (with_open t (lowest_unopened t) true) a (lowest_unopened t) (joined 0))
      (entered (opening (said t) (lowest_unopened t) true) a (lowest_unopened t) (joined 0))
  opens_phaser_reads a h =
      let p = lowest_unopened t in
      entry_reads (open_shaped t z p true) (open_reads z (reads_itself t) p true h.unopened) a p (joined 0) (running_below t a h.caller.runs)
      h.unopened

  pub closes_phaser_reads : (p : ℕ) → ClosePhaser t p → Reads (with_open t p false) (opening (said t) p false)
  closes_phaser_reads p h = open_reads z (reads_itself t) p false (open_below t p h.opens)

  pub admits_reads : (a p b : ℕ) → Admit t a p b
      → Reads (with_entry t b p (joined (phase_at t a p))) (entered (said t) b p (joined (phase_at t a p)))
  admits_reads a p b h =
      entry_reads z (reads_itself t) b p (joined (phase_at t a p)) (live_below t b h.live) (open_below t p h.member.opens)

  pub leaves_reads : (a p : ℕ) → Member t a p → Reads (with_entry t a p absent) (entered (said t) a p absent)
  leaves_reads a p h = entry_reads z (reads_itself t) a p absent (running_below t a h.caller.runs) (open_below t p h.opens)

  pub advances_reads : (a p n : ℕ) → Member t a p → Reads (with_entry t a p (joined n)) (entered (said t) a p (joined n))
  advances_reads a p n h = entry_reads z (reads_itself t) a p (joined n) (running_below t a h.caller.runs) (open_below t p h.opens)

  pub blocks_reads : (a : ℕ) (e : Awaited) → Caller t a → Reads (with_state t a (awaiting e)) (stated (said t) a (awaiting e))
  blocks_reads a e h = state_reads z (reads_itself t) a (awaiting e) (running_below t a h.runs)

  pub releases_reads : (a : ℕ) → Release t a → Reads (with_state t a Running) (stated (said t) a Running)
  releases_reads a h = state_reads z (reads_itself t) a Running (blocked_below t a h.event h.blocked)

-- ---- the laws, by kind
-- a call's answer, its value, and all that its next table says
pub record Gives (c : Called) (answer value : ℕ) (x : Says) : Type 0 where
  pub answers : c.answer ≡ answer
  pub values : c.value ≡ value
  pub reads : Reads c.table x

gives : {t : Table} {call : Called} {tests : List Test} {answer value : ℕ} {u : Table} {Told : Type 0} {x : Says}
    → Row t call tests (called answer value u) Told → (Told → Reads u x) → call.answer < 10 → Gives call answer value x
gives {answer} {value} {x} r reads l =
    let h = (row_accepted r).0 l in
    subst (λ (c : Called). Gives c answer value x) (sym (row_effect r h)) (record { answers = refl; values = refl; reads = reads h })

module _ (t : Table) (z : Shaped t) where
  -- 0: "lowest free number becomes running; value that number"
  pub open_task_changes : (open_task_of t).answer < 10 → Gives (open_task_of t) done (lowest_free t) (stated (said t) (lowest_free t) Running)
  open_task_changes = gives (open_task_row t) (opens_task_reads t z)

  -- 1: "leaves every phaser, number free"
  pub end_task_changes : (a : ℕ) → (end_task_of t a).answer < 10 → Gives (end_task_of t a) done 0 (stated (cleared (said t) a) a Free)
  end_task_changes a = gives (end_task_row t a) (ends_task_reads t z a)

  -- 2: "lowest unopened number, caller member at phase 0; value that number"
  pub open_phaser_changes : (a : ℕ) → (open_phaser_of t a).answer < 10
      → Gives (open_phaser_of t a) done (lowest_unopened t) (entered (opening (said t) (lowest_unopened t) true) a (lowest_unopened t) (joined 0))
  open_phaser_changes a = gives (open_phaser_row t a) (opens_phaser_reads t z a)

  -- 3: "not open any more"
  pub close_phaser_changes : (p : ℕ) → (close_phaser_of t p).answer < 10 → Gives (close_phaser_of t p) done 0 (opening (said t) p false)
  close_phaser_changes p = gives (close_phaser_row t p) (closes_phaser_reads t z p)

  -- 4: "target joins at the caller's phase; value that phase"
  pub admit_changes : (a p b : ℕ) → (admit_of t a p b).answer < 10
      → Gives (admit_of t a p b) done (phase_at t a p) (entered (said t) b p (joined (phase_at t a p)))
  admit_changes a p b = gives (admit_row t a p b) (admits_reads t z a p b)

  -- 5: "membership gone"
  pub leave_changes : (a p : ℕ) → (leave_of t a p).answer < 10 → Gives (leave_of t a p) done 0 (entered (said t) a p absent)
  leave_changes a p = gives (leave_row t a p) (leaves_reads t z a p)

  -- 6: "caller's phase one higher; value the new phase"
  pub arrive_changes : (a p : ℕ) → (arrive_of t a p).answer < 10
      → Gives (arrive_of t a p) done (phase_at t a p + 1) (entered (said t) a p (joined (phase_at t a p + 1)))
  arrive_changes a p = gives (arrive_row t a p) (λ h. advances_reads t z a p (phase_at t a p + 1) h.member)

  -- 9: "the task is running again"
  pub release_changes : (a : ℕ) → (release_of t a).answer < 10 → Gives (release_of t a) done 0 (stated (said t) a Running)
  release_changes a = gives (release_row t a) (releases_reads t z a)

  -- 7, 8: the wait passes, and nothing changes; or its event is impeded, and the caller is blocked on it
  abbrev pub Waited : ℕ → ℕ → ℕ → Called → Type 0
  Waited a p n c =
      ((reached_of t (event p n) ≡ true) × (c ≡ called wait_passed 0 t))
      ⊎ ((reached_of t (event p n) ≡ false) × (c ≡ called now_blocked 0 (with_state t a (awaiting (event p n))))
      × Reads c.table (stated (said t) a (awaiting (event p n))))

  waited : (a p n : ℕ) → Caller t a → Waited a p n (waits t a p n)
  waited a p n h =
      waits_cases (Waited a p n) t a p n (λ e. inl (e, refl))
      (λ e. inr (e, refl, blocks_reads t z a (event p n) h))

  pub wait_changes : (a p : ℕ) → (wait_of t a p).answer < 10 → Waited a p (phase_at t a p) (wait_of t a p)
  wait_changes a p l =
      let h = (row_accepted (wait_row t a p)).0 l in
      subst (Waited a p (phase_at t a p)) (sym (row_effect (wait_row t a p) h)) (waited a p (phase_at t a p) h.caller)

  pub wait_at_changes : (a p n : ℕ) → (wait_at_of t a p n).answer < 10 → Waited a p n (wait_at_of t a p n)
  wait_at_changes a p n l =
      let h = (row_accepted (wait_at_row t a p n)).0 l in
      subst (Waited a p n) (sym (row_effect (wait_at_row t a p n) h)) (waited a p n h.caller)

  -- so a wait that passes changes nothing
  pub passed_same : (a p n : ℕ) (c : Called) → Waited a p n c → c.answer ≡ wait_passed → c.table ≡ t
  passed_same a p n c (inl x) e = ap (λ (c : Called). c.table) x.1
  passed_same a p n c (inr x) e = absurd (omega (arith, e, ap (λ (c : Called). c.answer) x.1))

  -- and one that blocks leaves the caller blocked on the event that it named, which is impeded
  pub blocked_impeded : (a p n : ℕ) (c : Called) → Waited a p n c → c.answer ≡ now_blocked
      → BlockedOn c.table a (event p n) × ((u : ℕ) × Impedes c.table u (event p n))
  blocked_impeded a p n c (inl x) e = absurd (omega (arith, e, ap (λ (c : Called). c.answer) x.1))
  blocked_impeded a p n c (inr x) e =
      let r = x.2 in
      let i = unreached_impeded t (event p n) x.0 in (
        r.states a ∙ put_here (state_at t) a (awaiting (event p n)),
        (i.0, impedes_same t c.table i.0 (r.entries i.0) (event p n) ∙ i.1),
      )

-- a state set back to what it was
back_again : (t : Table) (a : ℕ) (e : Awaited) → state_at t a ≡ Running → with_state (with_state t a (awaiting e)) a Running ≡ t
unfolding with_state state_at
back_again t a e r =
    ap back
    (set-set t.tasks a (record { state = Blocked e }) (record { state = Running })
    ∙ (ap (set t.tasks a) task ∙ set-get_or t.tasks a free_task))
  where
    back : List Task → Table
    back l = record { tasks = l; opened = t.opened; phases = t.phases; members = t.members }

    inside : (b : Bool) → cond b (get_or t.tasks a free_task).state Free ≡ Running → (get_or t.tasks a free_task).state ≡ Running
    inside true q = q
    inside false q = absurd (clash refl (sym (ap is_running q)))

    of_state : State → Task
    of_state s = record { state = s }

    task : of_state Running ≡ get_or t.tasks a free_task
    task = ap of_state (sym (inside (ltb a 32) r))

-- a release's effect, which is that the task runs, gives the table before the wait that blocked it
pub release_undoes : (t : Table) (z : Shaped t) (a p n : ℕ) (c : Called) → state_at t a ≡ Running → Waited t z a p n c → c.answer ≡ now_blocked
    → with_state c.table a Running ≡ t
release_undoes t z a p n c r (inl x) e = absurd (omega (arith, e, ap (λ (c : Called). c.answer) x.1))
release_undoes t z a p n c r (inr x) e = ap (λ (c : Called). with_state c.table a Running) x.1 ∙ back_again t a (event p n) r
