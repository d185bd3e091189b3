-- A step on the way home: a running task is ended, or a blocked one whose event is reached is released. Nobody becomes stuck by it, and less is left to do.
use mathlib.Core.Path.{◌≡◌, refl, ap, sym, ◌∙◌}
use mathlib.Core.Logic.{◌⊎◌, inl, inr}
use mathlib.Core.Bool.{Bool, true, false, not}
use Prim.Native.Nat.{ℕ, ◌<◌, ◌≤◌}
use native.Mathlib.Decide.{ℕ_discrete}
use native.Mathlib.Omega.{arith}
use borrow.Author.Tests.{not-true, not-false}
use Rattle.hall.specs.Calls.{end_task_of, release_of, call, call_of}
use Rattle.hall.specs.Every.{every}
use Rattle.hall.specs.Rules.{put}
use Rattle.hall.specs.Sound.{Sound}
use Rattle.hall.specs.Parts.{sound_of}
use Rattle.hall.specs.Table.{Shaped, state_at}
use Rattle.states.specs.State.{is_live, is_blocked}
use Rattle.hall.specs.Waiting.{BlockedOn, Impedes, reached_of}
use Rattle.states.specs.Waiting.{Awaited}
use Rattle.states.specs.declared.state.State.{State}
use Rattle.states.specs.declared.state.State.TheVariants.{Free, Running, Blocked}
use Rattle.hall.specs.declared.table.Table.{Table}
use Rattle.hall.proofs.Changes.{end_task_changes, release_changes}
use Rattle.hall.proofs.Frame.{Fewer, fewer_frame, end_fewer, release_fewer}
use Rattle.hall.proofs.Impeded.{blocked_below, impedes_iff, impedes_below, unreached_impeded}
use Rattle.states.proofs.Truth.{clash}
use Rattle.hall.proofs.Every.{every_at}
use Rattle.hall.proofs.Lists.{every_find}
use Rattle.hall.proofs.Rows.{row_accepted, end_task_row, release_row}
use Rattle.hall.proofs.Soundness.{sound_iff}
use Rattle.hall.proofs.Written.{put_here, put_other, state_below}
use Rattle.hall.specs.declared.calls.Call.{Call}
use Rattle.demands.specs.Series.{Accepted, release}
use Rattle.demands.proofs.Stuck.{StuckAt}
use Rattle.deadlock.proofs.Theory.{frame_stuck}
use Rattle.demands.proofs.Sums.{sum, sum_less}

-- the calls that a task has ahead before it is gone: a release and an end, or an end
abbrev pub ahead : State → ℕ
ahead Free = 0
ahead Running = 1
ahead (Blocked e) = 2

abbrev pub left : Table → ℕ
left t = sum (λ k. ahead (state_at t k)) 32

-- nobody comes to be blocked or to impede; every state but u's is as it was, and u has less ahead
pub record Lightens (u : ℕ) (t t' : Table) : Type 0 where
  pub fewer : Fewer t t'
  pub others : (k : ℕ) → (k ≡ u → ⊥) → state_at t' k ≡ state_at t k
  pub less : ahead (state_at t' u) < ahead (state_at t u)

module _ {u : ℕ} {t t' : Table} (l : Lightens u t t') where
  pub lightens_stuck : (k : ℕ) → StuckAt t' k → StuckAt t k
  lightens_stuck = frame_stuck _ _ _ _ (fewer_frame t t' l.fewer)

  pub lightens_left : left t' < left t
  lightens_left =
      sum_less (λ k. ahead (state_at t' k)) (λ k. ahead (state_at t k)) 32 u each (state_below t u (λ q. omega (arith, l.less, ap ahead q))) l.less
    where
      each : (k : ℕ) → ahead (state_at t' k) ≤ ahead (state_at t k)
      each k = go (ℕ_discrete k u)
        where
          go : Dec (k ≡ u) → ahead (state_at t' k) ≤ ahead (state_at t k)
          go (yes q) = rw q (omega (arith, l.less))
          go (no n) = omega (arith, ap ahead (l.others k n))

-- ---- ending and releasing
put_lightens : (t t' : Table) (u : ℕ) (s : State) → Fewer t t' → ((k : ℕ) → state_at t' k ≡ put (state_at t) u s k) → ahead s < ahead (state_at t u)
    → Lightens u t t'
put_lightens t t' u s f states d = record {
  fewer = f;
  others = λ k n. states k ∙ put_other (state_at t) u s k n;
  less = omega (arith, ap ahead (states u ∙ put_here (state_at t) u s));
}

-- as accepted calls
module _ (t : Table) (z : Shaped t) (a : ℕ) where
  pub end_lightens : (end_task_of t a).answer < 10 → Lightens a t (end_task_of t a).table
  end_lightens l =
      put_lightens t (end_task_of t a).table a Free (end_fewer t z a) (end_task_changes t z a l).reads.states
      (omega (arith, ap ahead ((row_accepted (end_task_row t a)).0 l).runs))

  pub release_lightens : (release_of t a).answer < 10 → Lightens a t (release_of t a).table
  release_lightens l =
      put_lightens t (release_of t a).table a Running (release_fewer t z a) (release_changes t z a l).reads.states
      (omega (arith, ap ahead ((row_accepted (release_row t a)).0 l).blocked))

-- ---- a step, where anybody can take one
pub record Homeward (t : Table) : Type 0 where
  pub task : ℕ
  pub call : Call
  pub accepted : Accepted t call
  pub lightens : Lightens task t (call_of t call).table
  pub releases : (e : Awaited) → BlockedOn t task e → call ≡ release task

end_step : (t : Table) → Shaped t → sound_of t ≡ true → (a : ℕ) → state_at t a ≡ Running → Homeward t
unfolding call_of
end_step t z s a q =
    let l = (row_accepted (end_task_row t a)).1 (record { sound = s; runs = q }) in
    record {
      task = a;
      call = call 1 a 0 0;
      accepted = l;
      lightens = end_lightens t z a l;
      releases = λ e b. absurd (clash (ap is_blocked (sym q ∙ b)) refl);
    }

release_step : (t : Table) → Shaped t → sound_of t ≡ true → (a : ℕ) (e : Awaited) → BlockedOn t a e → reached_of t e ≡ true → Homeward t
unfolding call_of
release_step t z s a e b r =
    let l = (row_accepted (release_row t a)).1 (record { sound = s; event = e; blocked = b; reached = r }) in
    record { task = a; call = release a; accepted = l; lightens = release_lightens t z a l; releases = λ f c. refl }

-- ---- or nobody can: each blocked task's event is impeded by a blocked one
abbrev pub Tight : Table → Type 0
Tight t = (k : ℕ) (e : Awaited) → BlockedOn t k e → (u : ℕ) × (f : Awaited) × BlockedOn t u f × Impedes t u e

-- then the blocked ones are a totally deadlocked set
pub tight_stuck : (t : Table) → Tight t → (k : ℕ) (e : Awaited) → BlockedOn t k e → StuckAt t k
tight_stuck t h k e b = record {
  set = λ v. (f : Awaited) × BlockedOn t v f;
  deadlocked = record {
    member = k;
    some = (e, b);
    each = λ v x. let r = h v x.0 x.1 in record { event = x.0; waits = x.1; by = r.0; inside = (r.1, r.2); impedes = r.3 };
  };
  holds = (e, b);
}

-- a task that can take a step
abbrev pub loose : Table → State → Bool
loose t Free = false
loose t Running = true
loose t (Blocked e) = reached_of t e

none_tight : (t : Table) → Sound t → ((k : ℕ) → k < 32 → loose t (state_at t k) ≡ false) → Tight t
none_tight t s h k e b =
    let i = unreached_impeded t e (ap (loose t) (sym b) ∙ h k (blocked_below t k e b)) in
    let live = s.live i.0 e.phaser.0 ((impedes_iff t i.0 e).0 i.1).0 in
    let w = blocked i.0 (state_at t i.0) refl live (h i.0 (impedes_below t i.0 e i.1)) in
    (i.0, w.0, w.1, i.1)
  where
    -- who lives and is not loose is blocked
    blocked : (u : ℕ) (x : State) → state_at t u ≡ x → is_live x ≡ true → loose t x ≡ false → (f : Awaited) × BlockedOn t u f
    blocked u Free q l n = absurd (clash l refl)
    blocked u Running q l n = absurd (clash refl n)
    blocked u (Blocked f) q l n = (f, q)

pub look : (t : Table) → Shaped t → sound_of t ≡ true → Homeward t ⊎ Tight t
look t z s = go (every (λ k. not (loose t (state_at t k))) 32) refl
  where
    step : (u : ℕ) (x : State) → state_at t u ≡ x → loose t x ≡ true → Homeward t
    step u Free q h = absurd (clash h refl)
    step u Running q h = end_step t z s u q
    step u (Blocked e) q h = release_step t z s u e q h

    go : (b : Bool) → every (λ k. not (loose t (state_at t k))) 32 ≡ b → Homeward t ⊎ Tight t
    go true h = inr (none_tight t ((sound_iff t).0 s) (λ k l. not-true (loose t (state_at t k)) (every_at (λ k. not (loose t (state_at t k))) 32 k h l)))
    go false h =
        let f = every_find (λ k. not (loose t (state_at t k))) 32 h in
        inl (step f.0 (state_at t f.0) refl (not-false (loose t (state_at t f.0)) f.2))
