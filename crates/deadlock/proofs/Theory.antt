-- Who can never go on, over any waiting: the three ways to name a task agree, deadlocked sets unite, and what keeps a stuck task stuck.
use mathlib.Core.Path.{◌≡◌, refl, subst}
use mathlib.Core.Logic.{◌↔◌}
use Prim.Native.Nat.{ℕ, suc}
use Rattle.sets.specs.Set.{Has}
use Rattle.deadlock.specs.Waiting.{TaskEdge, TaskNamed, EventNamed, Held, TotallyDeadlocked, Stuck}
use Rattle.deadlock.proofs.Walks.{first, rest, follow}

module _ {Event : Type 0} (Blocked Impedes : ℕ → Event → Type 0) where
  abbrev Edge : ℕ → ℕ → Type 0
  Edge = TaskEdge Blocked Impedes

  abbrev Named : ℕ → Type 0
  Named = TaskNamed Blocked Impedes

  abbrev Deadlocked : (ℕ → Type 0) → Type 0
  Deadlocked = TotallyDeadlocked Blocked Impedes

  -- ---- a deadlocked set, and the set of those with an endless walk
  pub deadlocked_named : (S : ℕ → Type 0) → Deadlocked S → (t : ℕ) → S t → Named t
  deadlocked_named S d = follow Edge S next
    where
      next : (t : ℕ) → S t → (u : ℕ) × S u × Edge t u
      next t h =
          let a = d.each t h in
          let b = d.each a.by a.inside in
          (a.by, a.inside, record { event = a.event; waits = a.waits; impedes = a.impedes; other = b.event; blocked = b.waits })

  pub named_held : (t : ℕ) → Named t → Held Blocked Impedes Named t
  named_held t w = let f = first w in record { event = f.event; waits = f.waits; by = w.at 1; inside = rest w; impedes = f.impedes }

  -- where anybody has an endless walk, all who have one are a deadlocked set; by `deadlocked_named` it holds every other
  pub named_deadlocked : (t : ℕ) → Named t → Deadlocked Named
  named_deadlocked t w = record { member = t; some = w; each = named_held }

  -- ---- the three ways agree
  pub stuck_named : (t : ℕ) → Stuck Blocked Impedes t → Named t
  stuck_named t s = deadlocked_named s.set s.deadlocked t s.holds

  pub named_stuck : (t : ℕ) → Named t → Stuck Blocked Impedes t
  named_stuck t w = record { set = Named; deadlocked = named_deadlocked t w; holds = w }

  pub stuck_iff_named : (t : ℕ) → Stuck Blocked Impedes t ↔ Named t
  stuck_iff_named t = (stuck_named t, named_stuck t)

  -- the k-th event is the one in which the k-th edge says that the k-th task waits
  pub named_events : (t : ℕ) → Named t → EventNamed Blocked Impedes t
  named_events t w = record {
    event = (w.goes 0).event;
    waits = subst (λ s. Blocked s (w.goes 0).event) w.starts (w.goes 0).waits;
    walk = record {
      at = λ k. (w.goes k).event;
      starts = refl;
      goes = λ k. record { task = w.at (suc k); impedes = (w.goes k).impedes; blocked = (w.goes (suc k)).waits };
    };
  }

  pub events_named : (t : ℕ) → EventNamed Blocked Impedes t → Named t
  events_named = follow Edge (EventNamed Blocked Impedes) next
    where
      next : (t : ℕ) → EventNamed Blocked Impedes t → (u : ℕ) × EventNamed Blocked Impedes u × Edge t u
      next t r =
          let d = first r.walk in (
            d.task,
            record { event = r.walk.at 1; waits = d.blocked; walk = rest r.walk },
            record { event = r.event; waits = r.waits; impedes = d.impedes; other = r.walk.at 1; blocked = d.blocked },
          )

  pub named_iff_events : (t : ℕ) → Named t ↔ EventNamed Blocked Impedes t
  named_iff_events t = (named_events t, events_named t)

  -- a set that is right for either route has exactly the stuck tasks
  pub named_set_stuck : (m : ℕ) → ((t : ℕ) → Has m t ↔ Named t) → (t : ℕ) → Has m t ↔ Stuck Blocked Impedes t
  named_set_stuck m f t = (λ h. named_stuck t ((f t).0 h), λ s. (f t).1 (stuck_named t s))

  pub events_set_named : (m : ℕ) → ((t : ℕ) → Has m t ↔ EventNamed Blocked Impedes t) → (t : ℕ) → Has m t ↔ Named t
  events_set_named m f t = (λ h. events_named t ((f t).0 h), λ w. (f t).1 (named_events t w))

  -- ---- the union of a family of deadlocked sets that is not empty is deadlocked
  pub union_deadlocked : {I : Type 0} (S : I → ℕ → Type 0) → ((i : I) → Deadlocked (S i)) → I → Deadlocked (λ t. (i : I) × S i t)
  union_deadlocked S d i = record {
    member = (d i).member;
    some = (i, (d i).some);
    each = λ t h.
        let a = (d h.0).each t h.1 in
        record { event = a.event; waits = a.waits; by = a.by; inside = (h.0, a.inside); impedes = a.impedes };
  }

  -- ---- a stuck task's event is impeded by a stuck task, whichever event that is, where a task is blocked on one event only
  module _ (one : (t : ℕ) (e f : Event) → Blocked t e → Blocked t f → e ≡ f) where
    pub named_impeded : (t : ℕ) (e : Event) → Blocked t e → Named t → (u : ℕ) × Impedes u e × Named u
    named_impeded t e b w =
        let h = named_held t w in
        (h.by, subst (Impedes h.by) (one t h.event e h.waits b) h.impedes, h.inside)

    pub stuck_impeded : (t : ℕ) (e : Event) → Blocked t e → Stuck Blocked Impedes t → (u : ℕ) × Impedes u e × Stuck Blocked Impedes u
    stuck_impeded t e b s = let r = named_impeded t e b (stuck_named t s) in (r.0, r.1, named_stuck r.0 r.2)

-- ---- from one waiting to the next
module _ {Event : Type 0} (Blocked Impedes Blocked' Impedes' : ℕ → Event → Type 0) where
  -- a task whose event a blocked task impedes stays blocked on it; what a blocked task impedes it goes on impeding
  pub record Frame : Type 0 where
    pub stays : (t : ℕ) (e : Event) → Blocked t e → (u : ℕ) (f : Event) → Blocked u f → Impedes u e → Blocked' t e
    pub keeps : (u : ℕ) (f : Event) → Blocked u f → (e : Event) → Impedes u e → Impedes' u e

  pub frame_deadlocked : Frame → (S : ℕ → Type 0) → TotallyDeadlocked Blocked Impedes S → TotallyDeadlocked Blocked' Impedes' S
  frame_deadlocked k S d = record {
    member = d.member;
    some = d.some;
    each = λ t h.
        let a = d.each t h in
        let b = d.each a.by a.inside in
        record {
          event = a.event;
          waits = k.stays t a.event a.waits a.by b.event b.waits a.impedes;
          by = a.by;
          inside = a.inside;
          impedes = k.keeps a.by b.event b.waits a.event a.impedes;
        };
  }

  -- stuck tasks stay stuck
  pub frame_stuck : Frame → (t : ℕ) → Stuck Blocked Impedes t → Stuck Blocked' Impedes' t
  frame_stuck k t s = record { set = s.set; deadlocked = frame_deadlocked k s.set s.deadlocked; holds = s.holds }

  -- apart from task a, nobody is newly blocked and nobody newly impedes
  pub record ApartFrom (a : ℕ) : Type 0 where
    pub blocked : (t : ℕ) (e : Event) → (t ≡ a → ⊥) → Blocked' t e → Blocked t e
    pub impedes : (u : ℕ) (e : Event) → (u ≡ a → ⊥) → Impedes' u e → Impedes u e

  -- so if that one is not stuck then, nobody is newly stuck
  pub not_newly : (a : ℕ) → ApartFrom a → (Stuck Blocked' Impedes' a → ⊥) → (t : ℕ) → Stuck Blocked' Impedes' t
      → Stuck Blocked Impedes t
  not_newly a apart free t s = record {
    set = s.set;
    deadlocked = record { member = s.deadlocked.member; some = s.deadlocked.some; each = λ u h. was u h (s.deadlocked.each u h) };
    holds = s.holds;
  }
    where
      other : (u : ℕ) → s.set u → u ≡ a → ⊥
      other u h e = free (record { set = s.set; deadlocked = s.deadlocked; holds = subst s.set e h })

      was : (u : ℕ) → s.set u → Held Blocked' Impedes' s.set u → Held Blocked Impedes s.set u
      was u h k = record {
        event = k.event;
        waits = apart.blocked u k.event (other u h) k.waits;
        by = k.by;
        inside = k.inside;
        impedes = apart.impedes k.by k.event (other k.by k.inside) k.impedes;
      }
