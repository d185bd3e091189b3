-- What the code counted, and what it means.
use mathlib.Core.Path.{◌≡◌, ap}
use mathlib.Core.List.{List}
use mathlib.Core.Logic.{◌↔◌}
use Prim.Native.Nat.{ℕ, ◌+◌, ◌^◌, ◌<◌}
use lib.ListN.{get_or}
use Rattle.sets.specs.Set.{Has, size}
use Rattle.states.specs.State.{is_blocked}
use Rattle.states.proofs.Events.{is_blocked_lem}
use Rattle.hall.specs.Parts.{RowsOf}
use Rattle.hall.specs.Table.{state_at}
use Rattle.hall.specs.Waiting.{ImpedesTask}
use Rattle.hall.specs.declared.table.Table.{Table}
use Rattle.density.specs.Density.{IsBlocked, IsAwaited, DensityOf}
use Rattle.density.specs.HowMany.{HowMany}
use Rattle.density.specs.Parts.{EventsOf, Counts, JoinedBy}
use Rattle.density.specs.declared.density.Density.{Density}
use Rattle.density.specs.declared.events.Events.{Events}
use Rattle.density.proofs.Graphs.{count_events, count_task_edges, Joined, count_event_edges, Impeder, count_task_event_edges}
use Rattle.density.proofs.Many.{many_along, many_set}

module _ (t : Table) (r : Events) (g : EventsOf t r) where
  blocked_iff : (k : ℕ) → Has r.blocked k ↔ IsBlocked t k
  blocked_iff k = (λ h. is_blocked_lem (state_at t k) ((g.blocked.iff k).0 h), λ w. (g.blocked.iff k).1 (ap is_blocked w.1))

  -- ---- blocked tasks, awaited events
  module _ (tasks events : ℕ) (e : tasks ≡ size r.blocked 32) (f : events ≡ size r.first 32) (b : r.blocked < 2 ^ 32)
      (l : r.first < 2 ^ 32) where
    blocked_are : HowMany (IsBlocked t) tasks
    blocked_are = many_along blocked_iff (rw e (many_set 32 r.blocked b))

    awaited_are : HowMany (IsAwaited t) events
    awaited_are = count_events t (many_along g.first (rw f (many_set 32 r.first l)))

    -- ---- edges
    module _ (rows : List ℕ) (among : ℕ) (all : among ≡ r.blocked) (x : RowsOf t among rows) where
      abbrev Row : ℕ → ℕ → Type 0
      Row k u = Has (get_or rows k 0) u

      row_iff : (k u : ℕ) → Row k u ↔ (IsBlocked t u × ImpedesTask t k u)
      row_iff k u = (
        λ h. let q = (x.iff k u).0 h in ((blocked_iff u).0 (rw all at q.1), q.2),
        λ h. (x.iff k u).1 (rw all ((blocked_iff k).1 (h.1.event, h.1.waits)), rw all ((blocked_iff u).1 h.0), h.1),
      )

      joined_iff : (k u : ℕ) → (Has r.first k × JoinedBy r rows k u) ↔ Joined t k u
      joined_iff k u = (
        λ h. let j = h.1 in
            ((g.first k).0 h.0, (g.first u).0 j.awaited, (j.task, ((row_iff k j.task).0 j.impedes).1, ((g.waiters u j.task).0 j.waits).1)),
        λ h. let v = h.2.0 in let a = h.2.2 in (
          (g.first k).1 h.0,
          record {
            awaited = (g.first u).1 h.1;
            task = v;
            waits = (g.waiters u v).1 (h.1, a);
            impedes = (row_iff k v).1 ((a.event, a.other), h.2.1);
          },
        ),
      )

      pub density_counted : (d : Density) → tasks ≡ d.blocked → events ≡ d.events → Counts r.blocked Row d.task_edges
          → Counts r.first (JoinedBy r rows) d.event_edges → (n f : ℕ) → Counts f Row n → f ≡ r.first
          → d.task_event_edges ≡ tasks + n → DensityOf t d
      density_counted d p q task_edges event_edges n f impeders z s = record {
        blocked = rw (← p) blocked_are;
        events = rw (← q) awaited_are;
        task_edges = count_task_edges t (many_along own task_edges.many);
        event_edges = count_event_edges t (many_along (λ p. joined_iff p.0 p.1) event_edges.many);
        task_event_edges = rw s (count_task_event_edges t blocked_are (many_along first (rw z at impeders.many)));
      }
        where
          own : (p : ℕ × ℕ) → (Has r.blocked p.0 × Row p.0 p.1) ↔ (IsBlocked t p.1 × ImpedesTask t p.0 p.1)
          own p = (λ h. (row_iff p.0 p.1).0 h.1, λ h. ((blocked_iff p.0).1 (h.1.event, h.1.waits), (row_iff p.0 p.1).1 h))

          first : (p : ℕ × ℕ) → (Has r.first p.0 × Row p.0 p.1) ↔ Impeder t p.0 p.1
          first p = (
            λ h. let q = (row_iff p.0 p.1).0 h.1 in ((g.first p.0).0 h.0, q.0, q.1),
            λ h. ((g.first p.0).1 h.0, (row_iff p.0 p.1).1 (h.1, h.2)),
          )
