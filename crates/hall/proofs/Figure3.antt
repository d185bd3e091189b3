-- The calls are figure 3's rules. Each statement has the rule, and beside it what document 01 adds (a sound table, a caller that runs, numbers in
-- range, phases up to 65,535, the lowest free number) or narrows (a target that runs), and nothing else.
use mathlib.Core.Path.{◌≡◌, refl, ap, sym, ◌∙◌, subst}
use mathlib.Core.Logic.{inl, inr, ◌↔◌}
use mathlib.Core.Bool.{Bool, true, false, not}
use mathlib.Core.Option.{some, none, some-injective}
use Prim.Native.Nat.{ℕ, ◌+◌, ◌<◌, ◌≤◌}
use native.Mathlib.Omega.{arith}
use lib.Dec.{lit<}
use Rattle.answers.specs.Answers.{wait_passed, now_blocked}
use Rattle.states.specs.State.{largest_phase, is_free, is_live, is_blocked, event}
use Rattle.states.specs.Waiting.{Awaited}
use Rattle.states.specs.declared.state.State.TheVariants.{Running}
use Rattle.states.proofs.Events.{is_free_lem, is_awake, not_free}
use Rattle.states.proofs.Truth.{clash}
use Rattle.hall.specs.Additions.{Runs, LowestFree, LowestUnopened, Unused, without, Behind, BehindOwn}
use Rattle.hall.specs.Calls.{open_task_of, end_task_of, open_phaser_of, close_phaser_of, admit_of, leave_of, arrive_of, wait_of, wait_at_of, release_of}
use Rattle.hall.specs.Rules.{put, Phaser, PhaserMap, Await, Add, Drop, Adv, Upd, NewP, Reg, Dereg, Arrv, AwaitN, AwaitOwn, phaser_of, phasers_of}
use Rattle.hall.specs.Sound.{Sound}
use Rattle.hall.specs.Parts.{sound_of}
use Rattle.hall.specs.Table.{state_at, open_at, member_at, phase_at, joined, absent, Shaped}
use Rattle.hall.specs.Tests.{lowest_free, lowest_unopened}
use Rattle.hall.specs.Waiting.{BlockedOn, reached_of}
use Rattle.hall.specs.declared.calls.Called.{Called}
use Rattle.hall.specs.declared.table.Table.{Table}
use Rattle.hall.proofs.Changes.{Waited, unused_iff, free_lowest, unopened_lowest, open_task_changes, end_task_changes, open_phaser_changes}
use Rattle.hall.proofs.Changes.{close_phaser_changes, admit_changes, leave_changes, arrive_changes, wait_changes, wait_at_changes}
use Rattle.hall.proofs.Changes.{release_changes}
use Rattle.hall.proofs.Lists.{lowest_is}
use Rattle.hall.proofs.Maps.{phaser_there, phaser_opens, phaser_absent, member_there, member_is, member_absent, phasers_same, phasers_moved}
use Rattle.hall.proofs.Maps.{phasers_opened, phasers_left, phasers_closed, reached_await}
use Rattle.hall.proofs.Rows.{row_accepted, open_task_row, Caller, end_task_row, open_phaser_row, close_phaser_row, admit_row, Member, leave_row}
use Rattle.hall.proofs.Rows.{arrive_row, wait_row, wait_at_row, release_row}
use Rattle.hall.proofs.Soundness.{sound_iff}

-- ---- the numbers that opening gives
lowest_unopened_lem : (t : Table) (q : ℕ) → open_at t q ≡ false → LowestUnopened t q → lowest_unopened t ≡ q
unfolding lowest_unopened
lowest_unopened_lem t q e h = lowest_is (λ p. not (open_at t p)) 16 q h.0 (ap not e) (λ r l. ap not (h.1 r l))

lowest_free_lem : (t : Table) (k : ℕ) → LowestFree t k → lowest_free t ≡ k
unfolding lowest_free
lowest_free_lem t k h = lowest_is (λ j. is_free (state_at t j)) 32 k h.0 (ap is_free h.1) (λ j l. not_free (state_at t j) (h.2 j l))

free_is : (t : Table) → lowest_free t < 32 → LowestFree t (lowest_free t)
free_is t l = (l, is_free_lem (state_at t (lowest_free t)) ((free_lowest t).0 l), λ j m e. clash (ap is_free e) ((free_lowest t).1 j m))

-- ---- a rule gives one next map
upd_once : (φ : Phaser → Phaser → Type 0) → ((P Q R : Phaser) → φ P Q → φ P R → Q ≡ R) → (p : ℕ) (M N O : PhaserMap)
    → Upd φ p M N → Upd φ p M O → N ≡ O
upd_once φ once p M N O x y =
    let q = some-injective x.phaser y.phaser (sym x.there ∙ y.there) in
    let d = once x.phaser x.after y.after x.does (subst (λ (P : Phaser). φ P y.after) (sym q) y.does) in
    x.next ∙ (ap (λ (P : Phaser). put M p (some P)) d ∙ sym y.next)

drop_once : (t : ℕ) (P Q R : Phaser) → Drop t P Q → Drop t P R → Q ≡ R
drop_once t P Q R x y = x.next ∙ sym y.next

adv_once : (t : ℕ) (P Q R : Phaser) → Adv t P Q → Adv t P R → Q ≡ R
adv_once t P Q R x y =
    let q = some-injective x.phase y.phase (sym x.there ∙ y.there) in
    x.next ∙ (ap (λ (n : ℕ). put P t (some (n + 1))) q ∙ sym y.next)

reg_once : (a b p : ℕ) (M N O : PhaserMap) → Reg a b p M N → Reg a b p M O → N ≡ O
reg_once a b p M N O x y =
    let q = some-injective x.phaser y.phaser (sym x.there ∙ y.there) in
    let n = some-injective x.phase y.phase (sym x.caller ∙ (ap (λ (P : Phaser). P a) q ∙ y.caller)) in
    upd_once (Add b x.phase) (λ P Q R v w. v.next ∙ sym w.next) p M N O x.does (subst (λ (k : ℕ). Upd (Add b k) p M O) (sym n) y.does)

-- ---- calls
-- an accepted call, and the map that it leaves
abbrev pub Steps : Called → PhaserMap → Type 0
Steps c M' = (c.answer < 10) × (phasers_of c.table ≡ M')

by_caller : {t : Table} {a : ℕ} → Caller t a → Runs t a
by_caller {t} h = ((sound_iff t).0 h.sound, h.runs)

as_caller : {t : Table} {a : ℕ} → Runs t a → Caller t a
as_caller {t} x = record { sound = (sound_iff t).1 x.0; runs = x.1 }

module _ (t : Table) (z : Shaped t) (a p : ℕ) where
  -- the task's phaser in the map is the table's
  member : {P : Phaser} {n : ℕ} → phasers_of t p ≡ some P → P a ≡ some n → (open_at t p ≡ true) × (member_at t a p ≡ true) × (phase_at t a p ≡ n)
  member {P} {n} e c =
      let o = phaser_opens t p P e in
      let m = member_is t p a n (ap (λ (Q : Phaser). Q a) o.1 ∙ c) in
      (o.0, m.0, m.1)

  as_member : {P : Phaser} {n : ℕ} → Runs t a → phasers_of t p ≡ some P → P a ≡ some n → Member t a p
  as_member x e c = let m = member e c in record { caller = as_caller x; opens = m.0; member = m.1 }

  -- 5: leave is [dereg]
  leave_moves : (leave_of t a p).answer < 10 → Dereg a p (phasers_of t) (phasers_of (leave_of t a p).table)
  leave_moves l =
      let h = (row_accepted (leave_row t a p)).0 l in
      record {
        phaser = phaser_of t p;
        there = phaser_there t p h.opens;
        after = put (phaser_of t p) a none;
        does = record { phase = phase_at t a p; there = member_there t p a h.member; next = refl };
        next = phasers_moved t (leave_of t a p).table a p absent h.opens (leave_changes t z a p l).reads;
      }

  pub leave_exact : (M' : PhaserMap) → Steps (leave_of t a p) M' ↔ (Runs t a × Dereg a p (phasers_of t) M')
  leave_exact M' = (there, back)
    where
      there : Steps (leave_of t a p) M' → Runs t a × Dereg a p (phasers_of t) M'
      there x = let h = (row_accepted (leave_row t a p)).0 x.0 in (by_caller h.caller, subst (Dereg a p (phasers_of t)) x.1 (leave_moves x.0))

      back : Runs t a × Dereg a p (phasers_of t) M' → Steps (leave_of t a p) M'
      back x =
          let r = x.1 in
          let l = (row_accepted (leave_row t a p)).1 (as_member x.0 r.there r.does.there) in
          (l, upd_once (Drop a) (drop_once a) p (phasers_of t) _ M' (leave_moves l) r)

  -- 6: arrive is [arrv], up to phase 65,535
  arrive_moves : (arrive_of t a p).answer < 10 → Arrv a p (phasers_of t) (phasers_of (arrive_of t a p).table)
  arrive_moves l =
      let h = (row_accepted (arrive_row t a p)).0 l in
      record {
        phaser = phaser_of t p;
        there = phaser_there t p h.member.opens;
        after = put (phaser_of t p) a (some (phase_at t a p + 1));
        does = record { phase = phase_at t a p; there = member_there t p a h.member.member; next = refl };
        next = phasers_moved t (arrive_of t a p).table a p (joined (phase_at t a p + 1)) h.member.opens (arrive_changes t z a p l).reads;
      }

  pub arrive_exact : (M' : PhaserMap)
      → Steps (arrive_of t a p) M' ↔ (Runs t a × Arrv a p (phasers_of t) M' × (phase_at t a p < largest_phase))
  arrive_exact M' = (there, back)
    where
      there : Steps (arrive_of t a p) M' → Runs t a × Arrv a p (phasers_of t) M' × (phase_at t a p < largest_phase)
      there x =
          let h = (row_accepted (arrive_row t a p)).0 x.0 in
          (by_caller h.member.caller, subst (Arrv a p (phasers_of t)) x.1 (arrive_moves x.0), h.below)

      back : Runs t a × Arrv a p (phasers_of t) M' × (phase_at t a p < largest_phase) → Steps (arrive_of t a p) M'
      back x =
          let r = x.1 in
          let l = (row_accepted (arrive_row t a p)).1 (record { member = as_member x.0 r.there r.does.there; below = x.2 }) in
          (l, upd_once (Adv a) (adv_once a) p (phasers_of t) _ M' (arrive_moves l) r)

  -- 4: admit is [reg]; the narrowing is that the target runs
  admit_moves : (b : ℕ) → (admit_of t a p b).answer < 10 → Reg a b p (phasers_of t) (phasers_of (admit_of t a p b).table)
  admit_moves b l =
      let h = (row_accepted (admit_row t a p b)).0 l in
      let there = phaser_there t p h.member.opens in
      let own = member_there t p a h.member.member in
      record {
        phaser = phaser_of t p;
        there = there;
        phase = phase_at t a p;
        caller = own;
        does = record {
          phaser = phaser_of t p;
          there = there;
          after = put (phaser_of t p) b (some (phase_at t a p));
          does = record {
            fresh = (member_absent t p b).1 h.fresh;
            other = a;
            phase = phase_at t a p;
            there = own;
            least = omega arith;
            next = refl;
          };
          next = phasers_moved t (admit_of t a p b).table b p (joined (phase_at t a p)) h.member.opens (admit_changes t z a p b l).reads;
        };
      }

  pub admit_exact : (b : ℕ) (M' : PhaserMap) → Steps (admit_of t a p b) M' ↔ (Runs t a × Reg a b p (phasers_of t) M' × (state_at t b ≡ Running))
  admit_exact b M' = (there, back)
    where
      there : Steps (admit_of t a p b) M' → Runs t a × Reg a b p (phasers_of t) M' × (state_at t b ≡ Running)
      there x =
          let h = (row_accepted (admit_row t a p b)).0 x.0 in
          (by_caller h.member.caller, subst (Reg a b p (phasers_of t)) x.1 (admit_moves b x.0), is_awake (state_at t b) h.live h.awake)

      back : Runs t a × Reg a b p (phasers_of t) M' × (state_at t b ≡ Running) → Steps (admit_of t a p b) M'
      back x =
          let r = x.1 in
          let q = (phaser_opens t p r.does.phaser r.does.there).1 in
          let l = (row_accepted (admit_row t a p b)).1 (record {
            member = as_member x.0 r.there r.caller;
            live = ap is_live x.2;
            awake = ap is_blocked x.2;
            fresh = (member_absent t p b).0 (ap (λ (P : Phaser). P b) q ∙ r.does.does.fresh);
          }) in
          (l, reg_once a b p (phasers_of t) _ M' (admit_moves b l) r)

  -- 2: open phaser is [new-p], at the lowest number that names no phaser
  open_moves : (open_phaser_of t a).answer < 10 → NewP a (lowest_unopened t) (phasers_of t) (phasers_of (open_phaser_of t a).table)
  open_moves l =
      let h = (row_accepted (open_phaser_row t a)).0 l in
      let e = (unopened_lowest t).0 h.unopened in
      record {
        fresh = (phaser_absent t (lowest_unopened t)).1 e;
        next =
            phasers_opened t (open_phaser_of t a).table a (lowest_unopened t) (joined 0)
            (λ j. empty h.caller.sound (lowest_unopened t) e j (member_at t j (lowest_unopened t)) refl) (open_phaser_changes t z a l).reads;
      }
    where
      empty : sound_of t ≡ true → (q : ℕ) → open_at t q ≡ false → (j : ℕ) (b : Bool) → member_at t j q ≡ b → b ≡ false
      empty s q e j true m = absurd (clash (((sound_iff t).0 s).open_member j q m) e)
      empty s q e j false m = refl

  pub open_phaser_exact : (q : ℕ) (M' : PhaserMap)
      → (Steps (open_phaser_of t a) M' × ((open_phaser_of t a).value ≡ q)) ↔ (Runs t a × NewP a q (phasers_of t) M' × LowestUnopened t q)
  open_phaser_exact q M' = (there, back)
    where
      there : Steps (open_phaser_of t a) M' × ((open_phaser_of t a).value ≡ q) → Runs t a × NewP a q (phasers_of t) M' × LowestUnopened t q
      there x =
          let h = (row_accepted (open_phaser_row t a)).0 x.0.0 in
          let e = sym (open_phaser_changes t z a x.0.0).values ∙ x.1 in
          let r = subst (NewP a (lowest_unopened t) (phasers_of t)) x.0.1 (open_moves x.0.0) in (
            by_caller h.caller,
            subst (λ (k : ℕ). NewP a k (phasers_of t) M') e r,
            subst (LowestUnopened t) e (h.unopened, (unopened_lowest t).1),
          )

      back : Runs t a × NewP a q (phasers_of t) M' × LowestUnopened t q → Steps (open_phaser_of t a) M' × ((open_phaser_of t a).value ≡ q)
      back x =
          let e = lowest_unopened_lem t q ((phaser_absent t q).0 x.1.fresh) x.2 in
          let low : lowest_unopened t < 16 = omega (arith, e, x.2.0) in
          let l = (row_accepted (open_phaser_row t a)).1 (record { caller = as_caller x.0; unopened = low }) in
          let n = (open_moves l).next ∙ (ap (λ (k : ℕ). put (phasers_of t) k (some (put (λ u. none) a (some 0)))) e ∙ sym x.1.next) in
          ((l, n), (open_phaser_changes t z a l).values ∙ e)

  -- ---- waits: they pass where the rule can step, and block where only await(P, n) fails
  module _ (n : ℕ) where
    rule_reached : open_at t p ≡ true → (reached_of t (event p n) ≡ true) ↔ AwaitN p n (phasers_of t)
    rule_reached o = (
      λ r. record { phaser = phaser_of t p; there = phaser_there t p o; all = (reached_await t p n).0 r },
      λ w. (reached_await t p n).1 (subst (λ (P : Phaser). Await P n) (sym (phaser_opens t p w.phaser w.there).1) w.all),
    )

    rule_unreached : open_at t p ≡ true → (reached_of t (event p n) ≡ false) ↔ Behind (phasers_of t) p n
    rule_unreached o = (
      λ r. (phaser_of t p, phaser_there t p o, λ w. clash ((reached_await t p n).1 w) r),
      λ w. go (reached_of t (event p n)) refl w,
    )
      where
        go : (b : Bool) → reached_of t (event p n) ≡ b → Behind (phasers_of t) p n → b ≡ false
        go true r w = absurd (w.2 (subst (λ (P : Phaser). Await P n) (phaser_opens t p w.0 w.1).1 ((reached_await t p n).0 r)))
        go false r w = refl

    waited_passed : {c : Called} → Waited t z a p n c → (c.answer ≡ wait_passed) ↔ (reached_of t (event p n) ≡ true)
    waited_passed (inl x) = (λ e. x.0, λ r. ap (λ (c : Called). c.answer) x.1)
    waited_passed (inr x) = (λ e. absurd (omega (arith, e, ap (λ (c : Called). c.answer) x.1)), λ r. absurd (clash r x.0))

    waited_blocked : {c : Called} → Waited t z a p n c → (c.answer ≡ now_blocked) ↔ (reached_of t (event p n) ≡ false)
    waited_blocked (inl x) = (λ e. absurd (omega (arith, e, ap (λ (c : Called). c.answer) x.1)), λ r. absurd (clash x.0 r))
    waited_blocked (inr x) = (λ e. x.0, λ r. ap (λ (c : Called). c.answer) x.1)

  -- 8: wait at a stated phase is [await-n], up to phase 65,535
  module _ (n : ℕ) where
    abbrev wait_at : Called
    wait_at = wait_at_of t a p n

    wait_at_by : (m : ℕ) (Q R : Type 0) → m < 10 → (wait_at.answer < 10 → (wait_at.answer ≡ m) ↔ Q) → (open_at t p ≡ true → Q ↔ R)
        → (R → open_at t p ≡ true) → (wait_at.answer ≡ m) ↔ (Runs t a × R × (n ≤ largest_phase))
    wait_at_by m Q R k f g i = (there, back)
      where
        there : wait_at.answer ≡ m → Runs t a × R × (n ≤ largest_phase)
        there e =
            let l : wait_at.answer < 10 = omega (arith, e) in
            let h = (row_accepted (wait_at_row t a p n)).0 l in
            (by_caller h.caller, (g h.opens).0 ((f l).0 e), h.fits)

        back : Runs t a × R × (n ≤ largest_phase) → wait_at.answer ≡ m
        back x =
            let o = i x.1 in
            let l = (row_accepted (wait_at_row t a p n)).1 (record { caller = as_caller x.0; opens = o; fits = x.2 }) in
            (f l).1 ((g o).1 x.1)

    pub wait_at_passes : (wait_at.answer ≡ wait_passed) ↔ (Runs t a × AwaitN p n (phasers_of t) × (n ≤ largest_phase))
    wait_at_passes =
        wait_at_by wait_passed (reached_of t (event p n) ≡ true) (AwaitN p n (phasers_of t)) (lit< tt)
        (λ l. waited_passed n (wait_at_changes t z a p n l)) (rule_reached n)
        (λ w. (phaser_opens t p w.phaser w.there).0)

    pub wait_at_blocks : (wait_at.answer ≡ now_blocked) ↔ (Runs t a × Behind (phasers_of t) p n × (n ≤ largest_phase))
    wait_at_blocks =
        wait_at_by now_blocked (reached_of t (event p n) ≡ false) (Behind (phasers_of t) p n) (lit< tt)
        (λ l. waited_blocked n (wait_at_changes t z a p n l)) (rule_unreached n)
        (λ w. (phaser_opens t p w.0 w.1).0)

  -- 7: wait at own phase is [await]
  abbrev wait : Called
  wait = wait_of t a p

  wait_by : (m : ℕ) (Q R : Type 0) → m < 10 → (wait.answer < 10 → (wait.answer ≡ m) ↔ Q)
      → (open_at t p ≡ true → member_at t a p ≡ true → Q ↔ R)
      → (R → (open_at t p ≡ true) × (member_at t a p ≡ true)) → (wait.answer ≡ m) ↔ (Runs t a × R)
  wait_by m Q R k f g i = (there, back)
    where
      there : wait.answer ≡ m → Runs t a × R
      there e =
          let l : wait.answer < 10 = omega (arith, e) in
          let h = (row_accepted (wait_row t a p)).0 l in
          (by_caller h.caller, (g h.opens h.member).0 ((f l).0 e))

      back : Runs t a × R → wait.answer ≡ m
      back x =
          let w = i x.1 in
          let l = (row_accepted (wait_row t a p)).1 (record { caller = as_caller x.0; opens = w.0; member = w.1 }) in
          (f l).1 ((g w.0 w.1).1 x.1)

  pub wait_passes : (wait.answer ≡ wait_passed) ↔ (Runs t a × AwaitOwn a p (phasers_of t))
  wait_passes =
      wait_by wait_passed (reached_of t (event p (phase_at t a p)) ≡ true) (AwaitOwn a p (phasers_of t)) (lit< tt)
      (λ l. waited_passed (phase_at t a p) (wait_changes t z a p l))
      (λ e m. (
        λ r. record {
          phaser = phaser_of t p;
          there = phaser_there t p e;
          phase = phase_at t a p;
          caller = member_there t p a m;
          goes = (rule_reached (phase_at t a p) e).0 r;
        },
        λ w. (rule_reached (phase_at t a p) e).1 (subst (λ (n : ℕ). AwaitN p n (phasers_of t)) (sym (member w.there w.caller).2) w.goes),
      ))
      (λ w. let x = member w.there w.caller in (x.0, x.1))

  pub wait_blocks : (wait.answer ≡ now_blocked) ↔ (Runs t a × BehindOwn (phasers_of t) a p)
  wait_blocks =
      wait_by now_blocked (reached_of t (event p (phase_at t a p)) ≡ false) (BehindOwn (phasers_of t) a p) (lit< tt)
      (λ l. waited_blocked (phase_at t a p) (wait_changes t z a p l))
      (λ e m. (
        λ r. (phaser_of t p, phase_at t a p, phaser_there t p e, member_there t p a m, (rule_unreached (phase_at t a p) e).0 r),
        λ w. (rule_unreached (phase_at t a p) e).1 (subst (λ (n : ℕ). Behind (phasers_of t) p n) (sym (member w.2 w.3).2) w.4),
      ))
      (λ w. let x = member w.2 w.3 in (x.0, x.1))

-- ---- what document 01 adds
module _ (t : Table) (z : Shaped t) where
  -- 9: release is [await-n] for a task that is blocked at it
  pub release_exact : (a : ℕ) (M' : PhaserMap) → Steps (release_of t a) M'
      ↔ (Sound t × ((e : Awaited) × BlockedOn t a e × AwaitN e.phaser.0 e.phase.0 (phasers_of t)) × (M' ≡ phasers_of t))
  release_exact a M' = (
    λ x.
        let h = (row_accepted (release_row t a)).0 x.0 in
        let s = (sound_iff t).0 h.sound in
        (s, (h.event, h.blocked, (rule h.event (s.open_awaited a h.event h.blocked)).0 h.reached), sym x.1 ∙ same x.0),
    λ x.
        let e = x.1.0 in
        let l = (row_accepted (release_row t a)).1 (record {
          sound = (sound_iff t).1 x.0;
          event = e;
          blocked = x.1.1;
          reached = (rule e (x.0.open_awaited a e x.1.1)).1 x.1.2;
        }) in
        (l, same l ∙ sym x.2),
  )
    where
      rule : (e : Awaited) → open_at t e.phaser.0 ≡ true → (reached_of t e ≡ true) ↔ AwaitN e.phaser.0 e.phase.0 (phasers_of t)
      rule e = rule_reached t z a e.phaser.0 e.phase.0

      same : (release_of t a).answer < 10 → phasers_of (release_of t a).table ≡ phasers_of t
      same l = phasers_same t _ (release_changes t z a l).reads

  -- 0: a task is opened at the lowest free number
  pub open_task_exact : (q : ℕ) (M' : PhaserMap)
      → (Steps (open_task_of t) M' × ((open_task_of t).value ≡ q)) ↔ (Sound t × LowestFree t q × (M' ≡ phasers_of t))
  open_task_exact q M' = (there, back)
    where
      same : (open_task_of t).answer < 10 → phasers_of (open_task_of t).table ≡ phasers_of t
      same l = phasers_same t _ (open_task_changes t z l).reads

      there : Steps (open_task_of t) M' × ((open_task_of t).value ≡ q) → Sound t × LowestFree t q × (M' ≡ phasers_of t)
      there x =
          let l = x.0.0 in
          let h = (row_accepted (open_task_row t)).0 l in
          let e = sym (open_task_changes t z l).values ∙ x.1 in
          ((sound_iff t).0 h.sound, subst (LowestFree t) e (free_is t h.free), sym x.0.1 ∙ same l)

      back : Sound t × LowestFree t q × (M' ≡ phasers_of t) → Steps (open_task_of t) M' × ((open_task_of t).value ≡ q)
      back x =
          let e = lowest_free_lem t q x.1 in
          let free : lowest_free t < 32 = omega (arith, e, x.1.0) in
          let l = (row_accepted (open_task_row t)).1 (record { sound = (sound_iff t).1 x.0; free = free }) in
          ((l, same l ∙ sym x.2), (open_task_changes t z l).values ∙ e)

  -- 1: a task that ends leaves every phaser
  pub end_task_exact : (a : ℕ) (M' : PhaserMap) → Steps (end_task_of t a) M' ↔ (Runs t a × (M' ≡ without a (phasers_of t)))
  end_task_exact a M' = (
    λ x.
        let h = (row_accepted (end_task_row t a)).0 x.0 in
        (by_caller h, sym x.1 ∙ ends x.0),
    λ x.
        let l = (row_accepted (end_task_row t a)).1 (as_caller x.0) in
        (l, ends l ∙ sym x.1),
  )
    where
      ends : (end_task_of t a).answer < 10 → phasers_of (end_task_of t a).table ≡ without a (phasers_of t)
      ends l = phasers_left t _ a (end_task_changes t z a l).reads

  -- 3: a phaser that nobody uses is closed
  pub close_phaser_exact : (p : ℕ) (M' : PhaserMap) → Steps (close_phaser_of t p) M' ↔ (Sound t × Unused t p × (M' ≡ put (phasers_of t) p none))
  close_phaser_exact p M' = (
    λ x.
        let h = (row_accepted (close_phaser_row t p)).0 x.0 in
        let u = (unused_iff t p).0 h.nobody in
        ((sound_iff t).0 h.sound, (h.opens, u.0, u.1), sym x.1 ∙ closes x.0),
    λ x.
        let u = x.1 in
        let l = (row_accepted (close_phaser_row t p)).1 (record { sound = (sound_iff t).1 x.0; opens = u.0; nobody = (unused_iff t p).1 (u.1, u.2) }) in
        (l, closes l ∙ sym x.2),
  )
    where
      closes : (close_phaser_of t p).answer < 10 → phasers_of (close_phaser_of t p).table ≡ put (phasers_of t) p none
      closes l = phasers_closed t _ p (close_phaser_changes t z p l).reads
