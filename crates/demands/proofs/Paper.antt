-- A task is in some totally deadlocked set of a table exactly if it is in a part on which the paper's state, for which the table stands, is deadlocked.
use mathlib.Core.Path.{◌≡◌, refl, ap, sym, ◌∙◌, subst}
use mathlib.Core.Logic.{◌⊎◌, inl, inr, ⊎_elim, ◌↔◌}
use mathlib.Core.Bool.{Bool, true, false, cond}
use mathlib.Core.List.{List, [], ◌∷◌}
use mathlib.Core.Option.{Option, some, none, none-ne-some}
use Prim.Native.Nat.{ℕ, ◌<◌}
use native.Mathlib.Omega.{arith}
use lib.Dec.{eqb}
use borrow.Author.Tests.{eqb-true, eq-eqb}
use Rattle.sets.specs.Set.{bit, Has}
use Rattle.hall.specs.Rules.{Phaser, PhaserMap, phaser_of, phasers_of}
use Rattle.hall.specs.Sound.{Sound}
use Rattle.hall.specs.Table.{state_at, member_at, phase_at}
use Rattle.states.specs.State.{is_live, event}
use Rattle.hall.specs.Waiting.{BlockedOn, Impedes}
use Rattle.states.specs.declared.state.Event.{Event}
use Rattle.states.specs.declared.state.State.{State}
use Rattle.states.specs.declared.state.State.TheVariants.{Free, Running, Blocked}
use Rattle.hall.specs.declared.table.Table.{Table}
use Rattle.hall.proofs.Impeded.{impedes_iff}
use Rattle.states.proofs.Truth.{clash}
use Rattle.hall.proofs.Maps.{phaser_there, phaser_opens, member_there, member_is}
use Rattle.judge.proofs.Twins.{named_in}
use Rattle.demands.specs.PhaserDeadlocks.{Instruction, await, await_n, TaskMap, InDom, At, Awaits, WaitOn, ImpedeBy, DisjointUnion, StandsFor}
use Rattle.demands.specs.PhaserDeadlocks.{DeadlockedWith}
use Rattle.demands.specs.Series.{StuckIn}
use Rattle.demands.proofs.Stuck.{StuckAt, named_at, stuck_iff}

-- ---- the tasks of a map that are in a set, and those that are not
abbrev part : ℕ → Bool → TaskMap → TaskMap
part m b T k = cond (eqb (bit m k) 1) (cond b (T k) none) (cond b none (T k))

module _ (m : ℕ) (T : TaskMap) where
  inside : (k : ℕ) → Has m k → part m true T k ≡ T k
  inside k h = rw (eq-eqb (bit m k) 1 h)

  -- which is where a task of the first part is
  in_set : (k : ℕ) → InDom (part m true T) k → Has m k
  in_set k x = go (eqb (bit m k) 1) refl x.1
    where
      go : (b : Bool) → eqb (bit m k) 1 ≡ b → cond b (T k) none ≡ some x.0 → Has m k
      go true e q = eqb-true (bit m k) 1 e
      go false e q = absurd (none-ne-some x.0 q)

  parts_union : DisjointUnion (part m true T) (part m false T) T
  parts_union = record {
    apart = λ k. both (eqb (bit m k) 1) (T k);
    left = λ k x. sym (inside k (in_set k x));
    right = λ k x. whole (eqb (bit m k) 1) (T k) x.0 x.1;
    all = λ k x. either (eqb (bit m k) 1) (T k) x;
  }
    where
      both : (b : Bool) (o : Option (List Instruction)) → (cond b o none ≡ none) ⊎ (cond b none o ≡ none)
      both true o = inr refl
      both false o = inl refl

      whole : (b : Bool) (o : Option (List Instruction)) (s : List Instruction) → cond b none o ≡ some s → o ≡ cond b none o
      whole true o s e = absurd (none-ne-some s e)
      whole false o s e = refl

      either : (b : Bool) (o : Option (List Instruction)) → (s : List Instruction) × (o ≡ some s)
          → ((s : List Instruction) × (cond b o none ≡ some s)) ⊎ ((s : List Instruction) × (cond b none o ≡ some s))
      either true o x = inl x
      either false o x = inr x

-- ---- a wait goes by the task's own instructions
awaits_same : (M : PhaserMap) (T U : TaskMap) (k : ℕ) → T k ≡ U k → (e : Event) → WaitOn M T k e → WaitOn M U k e
awaits_same M T U k q e w = record { phaser = w.phaser; there = w.there; s = w.s; awaits = go w.awaits }
  where
    go : Awaits M T k e w.s → Awaits M U k e w.s
    go (inl x) = inl (sym q ∙ x)
    go (inr x) = inr (sym q ∙ x.0, x.1)

dom_awaits : (M : PhaserMap) (T : TaskMap) (k : ℕ) (e : Event) → WaitOn M T k e → InDom T k
dom_awaits M T k e w = go w.awaits
  where
    go : Awaits M T k e w.s → InDom T k
    go (inl x) = (_, x)
    go (inr x) = (_, x.0)

module _ (t : Table) (sound : Sound t) (M : PhaserMap) (T : TaskMap) (f : StandsFor t M T) where
  -- "M(p)(u) = n" says that u is a member with phase n
  at_member : (p u n : ℕ) → At M p u n → (member_at t u p ≡ true) × (phase_at t u p ≡ n)
  at_member p u n a =
      let o = phaser_opens t p a.phaser (sym (ap (λ (N : PhaserMap). N p) f.phasers) ∙ a.there) in
      member_is t p u n (ap (λ (P : Phaser). P u) o.1 ∙ a.phase)

  -- ---- from a deadlocked set to a part
  impeded : (U : TaskMap) (k u : ℕ) (e : Event) → InDom U u → WaitOn M U k e → Impedes t u e → ImpedeBy M U e u
  impeded U k u e d w i =
      let p = e.phaser.0 in
      let h = (impedes_iff t u e).0 i in
      record {
        earlier = event p (phase_at t u p);
        assoc = record {
          task = d;
          at = record {
            phaser = phaser_of t p;
            there = ap (λ (N : PhaserMap). N p) f.phasers ∙ phaser_there t p (sound.open_member u p h.0);
            phase = member_there t p u h.0;
          };
        };
        precedes = (refl, h.1);
        waiting = k;
        waits = w;
      }

  stuck_deadlocked : (k : ℕ) → StuckIn t k → DeadlockedWith M T k
  stuck_deadlocked k x = record {
    part = named;
    deadlocked = record {
      rest = part m false T;
      union = parts_union m T;
      total = record { task = k; some = there k ((named_at t k).1 ((stuck_iff t k).0 x)); each = λ j d. each j (in_set m T j d) };
    };
    holds = there k ((named_at t k).1 ((stuck_iff t k).0 x));
  }
    where
      m : ℕ
      m = named_in t

      named : TaskMap
      named = part m true T

      waits : (j : ℕ) (e : Event) → Has m j → BlockedOn t j e → WaitOn M named j e
      waits j e n b = awaits_same M T named j (sym (inside m T j n)) e ((f.waits j e).1 b)

      there : (j : ℕ) → Has m j → InDom named j
      there j n =
          let y = (named_at t j).0 n in
          let h = y.deadlocked.each j y.holds in
          dom_awaits M named j h.event (waits j h.event n h.waits)

      each : (j : ℕ) → Has m j → (e : Event) × WaitOn M named j e × ((u : ℕ) × ImpedeBy M named e u)
      each j n =
          let y = (named_at t j).0 n in
          let h = y.deadlocked.each j y.holds in
          let w = waits j h.event n h.waits in
          let u = (named_at t h.by).1 (record { set = y.set; deadlocked = y.deadlocked; holds = h.inside }) in
          (h.event, w, (h.by, impeded named j h.by h.event (there h.by u) w h.impedes))

  -- ---- and back: the part's tasks are a deadlocked set
  deadlocked_stuck : (k : ℕ) → DeadlockedWith M T k → StuckAt t k
  deadlocked_stuck k x = record {
    set = InDom U;
    deadlocked = record {
      member = x.deadlocked.total.task;
      some = x.deadlocked.total.some;
      each = λ j y.
          let z = x.deadlocked.total.each j y in
          let e = z.0 in
          let i = z.2.1 in
          record {
            event = e;
            waits = (f.waits j e).0 (awaits_same M U T j (sym (x.deadlocked.union.left j y)) e z.1);
            by = z.2.0;
            inside = i.assoc.task;
            impedes = impedes e z.2.0 i;
          };
    };
    holds = x.holds;
  }
    where
      U : TaskMap
      U = x.part

      impedes : (e : Event) (u : ℕ) → ImpedeBy M U e u → Impedes t u e
      impedes e u i =
          let a = at_member i.earlier.phaser.0 u i.earlier.phase.0 i.assoc.at in
          let q = i.precedes.0 in
          (impedes_iff t u e).1 (
            subst (λ (p : ℕ). member_at t u p ≡ true) q a.0,
            subst (λ (p : ℕ). phase_at t u p < e.phase.0) q (subst (λ (n : ℕ). n < e.phase.0) (sym a.1) i.precedes.1),
          )

  pub stuck_iff_deadlocked : (k : ℕ) → StuckIn t k ↔ DeadlockedWith M T k
  stuck_iff_deadlocked k = (stuck_deadlocked k, λ x. (stuck_iff t k).1 (deadlocked_stuck k x))

-- ---- a sound table stands for a state: a blocked task is at an await for its event, and a running one at no instruction
abbrev instructions : State → Option (List Instruction)
instructions Free = none
instructions Running = some []
instructions (Blocked e) = some (await_n e.phaser.0 e.phase.0 ∷ [])

pub stands : (t : Table) → Sound t → StandsFor t (phasers_of t) (λ k. instructions (state_at t k))
stands t sound = record {
  phasers = refl;
  tasks = λ k. tasks (state_at t k);
  waits = λ k e. (λ w. waits (state_at t k) e w.s w.awaits, λ b. waiting k e b);
}
  where
    tasks : (x : State) → ((s : List Instruction) × (instructions x ≡ some s)) ↔ (is_live x ≡ true)
    tasks Free = (λ y. absurd (none-ne-some y.0 y.1), λ l. absurd (clash l refl))
    tasks Running = (λ y. refl, λ l. (_, refl))
    tasks (Blocked e) = (λ y. refl, λ l. (_, refl))

    waits : {A : Type 0} (x : State) (e : Event) (s : List Instruction)
        → (instructions x ≡ some (await_n e.phaser.0 e.phase.0 ∷ s)) ⊎ ((instructions x ≡ some (await e.phaser.0 ∷ s)) × A)
        → x ≡ Blocked e
    waits Free e s w = absurd (⊎_elim (λ q. none-ne-some _ q) (λ q. none-ne-some _ q.0) w)
    waits Running e s (inl q) = absurd (let z : ◌≡◌ {A = ℕ} 0 1 = cc in omega arith)
    waits Running e s (inr q) = absurd (let z : ◌≡◌ {A = ℕ} 0 1 = cc in omega arith)
    waits (Blocked v) e s (inl q) =
        let x : v.phaser.0 ≡ e.phaser.0 = cc in
        let y : v.phase.0 ≡ e.phase.0 = cc in
        λ i. Blocked (event (x i) (y i))
    waits (Blocked v) e s (inr q) = absurd (let z : ◌≡◌ {A = ℕ} 0 1 = cc in omega arith)

    waiting : (k : ℕ) (e : Event) → BlockedOn t k e → WaitOn (phasers_of t) (λ j. instructions (state_at t j)) k e
    waiting k e b = record {
      phaser = phaser_of t e.phaser.0;
      there = phaser_there t e.phaser.0 (sound.open_awaited k e b);
      s = [];
      awaits = inl (ap instructions b);
    }
