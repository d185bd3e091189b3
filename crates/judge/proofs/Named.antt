-- Whom the routes name, in any table: those whom some totally deadlocked set holds, and so the same.
use mathlib.Core.Path.{◌≡◌, refl, ap}
use mathlib.Core.Logic.{◌↔◌}
use Prim.Native.Nat.{ℕ, zero, suc, ◌≤◌}
use native.Mathlib.Omega.{arith}
use lib.ListN.{replicate}
use Rattle.std.specs.Prelude.{Option, Some}
use Rattle.sets.specs.Set.{Has, size}
use Rattle.sets.proofs.Members.{none_has}
use Rattle.sets.proofs.Widths.{same_members}
use Rattle.deadlock.specs.Waiting.{TaskNamed, EventNamed, Stuck}
use Rattle.deadlock.specs.Ring.{RingIn}
use Rattle.deadlock.specs.declared.ring.Round.{Round}
use Rattle.deadlock.proofs.Walks.{first}
use Rattle.deadlock.proofs.Theory.{named_events, events_named, named_held, named_set_stuck, events_set_named}
use Rattle.states.specs.State.{is_blocked}
use Rattle.answers.specs.Answers.{done}
use Rattle.hall.specs.Parts.{BlockedSet}
use Rattle.hall.specs.Waiting.{BlockedOn, Impedes, ImpedesTask}
use Rattle.hall.specs.declared.table.Table.{Table}
use Rattle.density.specs.Density.{FewerEvents}
use Rattle.density.proofs.Decided.{fewer_decided}
use Rattle.judge.specs.Parts.{ByRoute}
use Rattle.judge.specs.Routes.{largest_route, TaskRoute, EventRoute, FewerRoute}
use Rattle.judge.specs.Verdict.{nobody, verdict_of, Found}
use Rattle.judge.specs.declared.verdict.Verdict.{Verdict}
use Rattle.judge.proofs.Tasks.{nobody_ring}

module _ (t : Table) where
  -- ---- demand 2: the named set is the set of tasks that some totally deadlocked set holds
  pub task_stuck : (m : ℕ) → TaskRoute t m → (k : ℕ) → Has m k ↔ Stuck (BlockedOn t) (Impedes t) k
  task_stuck m r = named_set_stuck (BlockedOn t) (Impedes t) m r.iff

  pub task_event : (m : ℕ) → TaskRoute t m → EventRoute t m
  task_event m r =
      record { iff = λ k. (λ h. named_events (BlockedOn t) (Impedes t) k ((r.iff k).0 h), λ w. (r.iff k).1 (events_named (BlockedOn t) (Impedes t) k w)) }

  pub event_task : (m : ℕ) → EventRoute t m → TaskRoute t m
  event_task m r = record { iff = events_set_named (BlockedOn t) (Impedes t) m r.iff }

  pub task_fewer : (m : ℕ) → TaskRoute t m → FewerRoute t m
  task_fewer m r = record { fewer = λ f. task_event m r; otherwise = λ n. r }

  pub fewer_task : (m : ℕ) → FewerRoute t m → TaskRoute t m
  fewer_task m r = go (fewer_decided t)
    where
      go : Dec (FewerEvents t) → TaskRoute t m
      go (yes f) = event_task m (r.fewer f)
      go (no n) = r.otherwise n

  -- ---- each promise fixes the set, and all routes have the same
  pub task_one : (a b : ℕ) → TaskRoute t a → TaskRoute t b → a ≡ b
  task_one a b x y = same_members (TaskNamed (BlockedOn t) (Impedes t)) a b x.iff y.iff

  pub event_one : (a b : ℕ) → EventRoute t a → EventRoute t b → a ≡ b
  event_one a b x y = same_members (EventNamed (BlockedOn t) (Impedes t)) a b x.iff y.iff

  -- ---- what is found by one route is found by each
  pub route_named : (route m : ℕ) → route ≤ largest_route → ByRoute t route m → TaskRoute t m
  route_named zero m l r = r.tasks refl
  route_named (suc zero) m l r = event_task m (r.events refl)
  route_named (suc (suc n)) m l r = fewer_task m (r.fewer (omega arith))

  pub found_named : (route : ℕ) (v : Verdict) → route ≤ largest_route → (f : Found t route v) → TaskRoute t f.named
  found_named route v l f = route_named route f.named l (record { tasks = f.by_tasks; events = f.by_events; fewer = f.by_fewer })

  pub found_by : (route m : ℕ) (v : Verdict) (r : Option Round) → TaskRoute t m → RingIn (Has m) (ImpedesTask t) r → v ≡ verdict_of m r → Found t route v
  found_by route m v r x ring e = record {
    named = m;
    by_tasks = λ q. x;
    by_events = λ q. task_event m x;
    by_fewer = λ q. task_fewer m x;
    round = r;
    ring = ring;
    verdict = e;
  }

  -- ---- the named are blocked; where nobody is blocked, nobody is named by any route
  pub named_blocked : (b m : ℕ) → BlockedSet t b → TaskRoute t m → (k : ℕ) → Has m k → Has b k
  named_blocked b m s r k h = (s.iff k).1 (ap is_blocked (first ((r.iff k).0 h)).waits)

  pub none_blocked : (route : ℕ) → BlockedSet t 0 → ByRoute t route 0
  none_blocked route s = record { tasks = λ e. named; events = λ e. task_event 0 named; fewer = λ e. task_fewer 0 named }
    where
      named : TaskRoute t 0
      named = record { iff = λ k. (λ h. absurd (none_has k h), λ w. absurd (none_has k ((s.iff k).1 (ap is_blocked (first w).waits)))) }

  pub found_nobody : (route : ℕ) (v : Verdict) → ByRoute t route 0 → v ≡ nobody done → Found t route v
  unfolding size
  found_nobody route v r e = record {
    named = 0;
    by_tasks = r.tasks;
    by_events = r.events;
    by_fewer = r.fewer;
    round = Some (record { length = 0; tasks = replicate 32 255 });
    ring = nobody_ring (ImpedesTask t);
    verdict = e;
  }

  -- ---- a named task's event is impeded by a named task
  pub named_next : (k : ℕ) → TaskNamed (BlockedOn t) (Impedes t) k → (u : ℕ) × TaskNamed (BlockedOn t) (Impedes t) u × ImpedesTask t k u
  named_next k w =
      let h = named_held (BlockedOn t) (Impedes t) k w in
      (h.by, h.inside, record { event = h.event; waits = h.waits; impedes = h.impedes })
