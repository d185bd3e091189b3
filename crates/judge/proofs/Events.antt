-- The event route: events that nobody left impedes are taken out, each with all who await it.
use mathlib.Core.Path.{◌≡◌, refl, sym, ap, ◌∙◌, subst}
use mathlib.Core.Bool.{true}
use mathlib.Core.List.{List}
use mathlib.Core.Logic.{◌↔◌, ◌⊎◌, inl, inr}
use Prim.Native.Nat.{ℕ, ◌+◌, ◌%◌, ◌^◌, ◌<◌}
use native.Mathlib.Decide.{ℕ_discrete}
use native.Mathlib.Omega.{arith}
use lib.ListN.{get_or}
use Rattle.sets.specs.Set.{Has}
use Rattle.sets.proofs.Members.{Within, has_dec, none_has, within_lt}
use Rattle.deadlock.specs.Waiting.{EventEdge, EventNamed}
use Rattle.deadlock.proofs.Walks.{first, rest, follow}
use Rattle.states.specs.Parts.{event_of}
use Rattle.states.specs.State.{free_task, is_blocked}
use Rattle.states.specs.Waiting.{Awaited}
use Rattle.states.proofs.Events.{is_blocked_lem, one_awaited, event_is}
use Rattle.seating.specs.declared.seats.Seats.{Seats}
use Rattle.hall.specs.Parts.{BlockedSet, Late}
use Rattle.hall.specs.Table.{state_at}
use Rattle.hall.specs.Waiting.{BlockedOn, Impedes}
use Rattle.hall.specs.declared.table.Table.{Table}
use Rattle.hall.proofs.Looking.{event_read}
use Rattle.hall.proofs.Seating.{seated_impedes, seated_waits}
use Rattle.judge.specs.Parts.{Seated, Shaken}
use Rattle.judge.specs.Routes.{EventRoute}

-- ---- those who await an event of a phaser below n of which one of `gone` is a member
module _ (members waiters : List ℕ) (gone : ℕ) where
  abbrev ShakenBelow : ℕ → ℕ → Type 0
  ShakenBelow n k = (p : ℕ) × (p < n) × Has (get_or waiters p 0) k × ((u : ℕ) × Has (get_or members p 0) u × Has gone u)

  pub record Shaking (n set : ℕ) : Type 0 where
    pub iff : (k : ℕ) → Has set k ↔ ShakenBelow n k

  pub shake_start : Shaking 0 0
  shake_start = record { iff = λ k. (λ h. absurd (none_has k h), λ h. absurd (omega arith)) }

  -- one phaser more: its waiters join where some of `gone` are its members
  module _ (n set : ℕ) (g : Shaking n set) where
    pub shake_more : (r : ℕ) → ((k : ℕ) → Has r k ↔ (Has set k ⊎ Has (get_or waiters n 0) k)) → (u : ℕ) × Has (get_or members n 0) u × Has gone u
        → Shaking (n + 1) r
    shake_more r also some = record { iff = λ k. (λ h. into k ((also k).0 h), λ h. from k h (ℕ_discrete h.0 n)) }
      where
        into : (k : ℕ) → Has set k ⊎ Has (get_or waiters n 0) k → ShakenBelow (n + 1) k
        into k (inl h) = let q = (g.iff k).0 h in (q.0, omega arith, q.2, q.3)
        into k (inr h) = (n, omega arith, h, some)

        from : (k : ℕ) → (h : ShakenBelow (n + 1) k) → Dec (h.0 ≡ n) → Has r k
        from k h (yes e) = (also k).1 (inr (rw e at h.2))
        from k h (no e) = (also k).1 (inl ((g.iff k).1 (h.0, omega arith, h.2, h.3)))

    pub shake_less : ((u : ℕ) → Has (get_or members n 0) u → Has gone u → ⊥) → Shaking (n + 1) set
    shake_less none = record {
      iff = λ k. (λ h. let q = (g.iff k).0 h in (q.0, omega arith, q.2, q.3), λ h. from k h (ℕ_discrete h.0 n));
    }
      where
        from : (k : ℕ) → (h : ShakenBelow (n + 1) k) → Dec (h.0 ≡ n) → Has set k
        from k h (yes e) = let u = rw e at h.3 in absurd (none u.0 u.1 u.2)
        from k h (no e) = (g.iff k).1 (h.0, omega arith, h.2, h.3)

pub shake_done : (s : Seats) (gone n set : ℕ) → Shaking s.members s.waiters gone n set → n ≡ 16 → Shaken s gone set
shake_done s gone n set g e = record { iff = rw e at g.iff }

module _ (t : Table) where
  abbrev Named : ℕ → Type 0
  Named = EventNamed (BlockedOn t) (Impedes t)

  -- all who are named are left, each is blocked, and the event of each that is not to be looked at is impeded by one who is left
  pub record Searched (left todo : ℕ) : Type 0 where
    pub fits : left < 2 ^ 32
    pub fits_todo : todo < 2 ^ 32
    pub within : Within todo left
    pub blocked : (k : ℕ) → Has left k → is_blocked (state_at t k) ≡ true
    pub covers : (k : ℕ) → Named k → Has left k
    pub held : (k : ℕ) → Has left k → (Has todo k → ⊥) → (e : Awaited) → BlockedOn t k e → (u : ℕ) × Has left u × Impedes t u e

  pub search_start : (m : ℕ) → m < 2 ^ 32 → BlockedSet t m → Searched m m
  search_start m f b = record {
    fits = f;
    fits_todo = f;
    within = λ k h. h;
    blocked = λ k h. (b.iff k).0 h;
    covers = λ k w. (b.iff k).1 (ap is_blocked w.waits);
    held = λ k h n. absurd (n h);
  }

  -- the lowest of `todo` stands for its event: of those who are left, who awaits it
  pub record Looked (left todo k : ℕ) (e : Awaited) (waiters : ℕ) : Type 0 where
    pub near : k < 32
    pub here : Has todo k
    pub event : e ≡ event_of (get_or t.tasks k free_task).state
    pub await : (u : ℕ) → Has waiters u ↔ (Has left u × BlockedOn t u e)

  module _ (left todo : ℕ) (g : Searched left todo) (k : ℕ) (e : Awaited) (waiters : ℕ) (s : Looked left todo k e waiters) where
    awaits : BlockedOn t k e
    awaits =
        let b = is_blocked_lem (state_at t k) (g.blocked k (g.within k s.here)) in
        subst (BlockedOn t k) (sym (event_read t k s.near e s.event ∙ event_is (state_at t k) b.0 b.1)) b.1

    mine : Has waiters k
    mine = (s.await k).1 (g.within k s.here, awaits)

    module _ (r : ℕ) (f : r < 2 ^ 32) where
      -- some task that is left impedes the event: it stays, and who awaits it need not be looked at again
      module _ (some : (u : ℕ) × Has left u × Impedes t u e) (less : (j : ℕ) → Has r j ↔ (Has todo j × (Has waiters j → ⊥))) where
        pub search_keep : Searched left r
        search_keep = record {
          fits = g.fits;
          fits_todo = f;
          within = λ j p. g.within j ((less j).0 p).0;
          blocked = g.blocked;
          covers = g.covers;
          held = λ j p n. held j p n (has_dec todo j) (has_dec waiters j);
        }
          where
            held : (j : ℕ) → Has left j → (Has r j → ⊥) → Dec (Has todo j) → Dec (Has waiters j) → (d : Awaited) → BlockedOn t j d
                → (u : ℕ) × Has left u × Impedes t u d
            held j p n (no q) w d b = g.held j p q d b
            held j p n (yes q) (no w) d b = absurd (n ((less j).1 (q, w)))
            held j p n (yes q) (yes w) d b =
                let e-is = one_awaited (state_at t j) e d ((s.await j).0 w).1 b in
                (some.0, some.1, subst (Impedes t some.0) e-is some.2)

        pub keep_less : r < todo
        keep_less = within_lt 32 r todo k f (λ j p. ((less j).0 p).0) s.here (λ p. ((less k).0 p).1 mine)

      -- nobody left impedes it: it goes with all who await it, and who may be held up by them alone is to be looked at again
      module _ (none : (u : ℕ) → Has left u → Impedes t u e → ⊥) (less : (j : ℕ) → Has r j ↔ (Has left j × (Has waiters j → ⊥))) where
        pub search_drop : (q : ℕ) → q < 2 ^ 32 → Within q r → ((j : ℕ) → Has r j → Has todo j → Has q j)
            → ((j u : ℕ) (d : Awaited) → Has r j → BlockedOn t j d → Has waiters u → Impedes t u d → Has q j) → Searched r q
        search_drop q fq inside still again = record {
          fits = f;
          fits_todo = fq;
          within = inside;
          blocked = λ j p. g.blocked j ((less j).0 p).0;
          covers = λ j w. (less j).1 (g.covers j w, λ p. loose j w ((s.await j).0 p).1);
          held = λ j p n d b.
              let u = g.held j ((less j).0 p).0 (λ h. n (still j p h)) d b in
              (u.0, (less u.0).1 (u.1, λ w. n (again j u.0 d p b w u.2)), u.2);
        }
          where
            -- the event of a named task is impeded by a named one
            loose : (j : ℕ) → Named j → BlockedOn t j e → ⊥
            loose j w b =
                let d = first w.walk in
                let u = g.covers d.task (record { event = w.walk.at 1; waits = d.blocked; walk = rest w.walk }) in
                let i = subst (Impedes t d.task) (one_awaited (state_at t j) w.event e w.waits b) d.impedes in
                none d.task u i

        pub drop_less : r < left
        drop_less = within_lt 32 r left k f (λ j p. ((less j).0 p).0) (g.within k s.here) (λ p. ((less k).0 p).1 mine)

  abbrev AwaitedBy : ℕ → Awaited → Type 0
  AwaitedBy m e = (k : ℕ) × Has m k × BlockedOn t k e

  pub search_done : (m : ℕ) → Searched m 0 → EventRoute t m
  search_done m g = record { iff = λ k. (walks k, g.covers k) }
    where
      next : (e : Awaited) → AwaitedBy m e → (f : Awaited) × AwaitedBy m f × EventEdge (BlockedOn t) (Impedes t) e f
      next e r =
          let h = g.held r.0 r.1 (none_has r.0) e r.2 in
          let b = is_blocked_lem (state_at t h.0) (g.blocked h.0 h.1) in
          (b.0, (h.0, h.1, b.1), record { task = h.0; impedes = h.2; blocked = b.1 })

      walks : (k : ℕ) → Has m k → Named k
      walks k h =
          let b = is_blocked_lem (state_at t k) (g.blocked k h) in
          record { event = b.0; waits = b.1; walk = follow (EventEdge (BlockedOn t) (Impedes t)) (AwaitedBy m) next b.0 (k, h, b.1) }

-- ---- what the code knows by the seats of the blocked
module _ (t : Table) (s : Seats) (seated : Seated t s) (left todo : ℕ) (g : Searched t left todo) where
  sits : (k : ℕ) → Has left k → Has s.all k
  sits k h = (seated.blocked.iff k).1 (g.blocked k h)

  module _ (e : Awaited) (p : ℕ) (column : p ≡ e.phaser.0 % 16) (start : ℕ) where
    pub found_waiters : ((k : ℕ) → Has start k ↔ (Has (get_or s.waiters p 0) k × Has left k))
        → (found : ℕ) → ((u : ℕ) → Has found u ↔ (Has start u × BlockedOn t u e)) → (u : ℕ) → Has found u ↔ (Has left u × BlockedOn t u e)
    found_waiters both found d u = (
      λ h. let x = (d u).0 h in (((both u).0 x.0).1, x.1),
      λ h. (d u).1 ((both u).1 (seated_waits t s seated.seats e p column u (sits u h.0) h.1, h.0), h.1),
    )

    module _ (both : (k : ℕ) → Has start k ↔ (Has (get_or s.members p 0) k × Has left k)) where
      pub one_impedes : (u : ℕ) × Has start u × Late t u e → (u : ℕ) × Has left u × Impedes t u e
      one_impedes u = let m = (both u.0).0 u.1 in (u.0, m.1, ((seated_impedes t s seated.seats e p column u.0).0 (m.0, u.2)).1)

      pub none_impedes : ((u : ℕ) → Has start u → Late t u e → ⊥) → (u : ℕ) → Has left u → Impedes t u e → ⊥
      none_impedes none u h i = let m = (seated_impedes t s seated.seats e p column u).1 (sits u h, i) in none u ((both u).1 (m.0, h)) m.1

  -- who is held up by one of those who go is shaken
  pub shaken_has : (gone set : ℕ) → Within gone left → Shaken s gone set → (j u : ℕ) (d : Awaited) → Has left j → BlockedOn t j d → Has gone u
      → Impedes t u d → Has set j
  shaken_has gone set w x j u d h b m i =
      let p = d.phaser.0 % 16 in
      (x.iff j).1 (
        p,
        omega arith,
        seated_waits t s seated.seats d p refl j (sits j h) b,
        (u, ((seated_impedes t s seated.seats d p refl u).1 (sits u (w u m), i)).0, m),
      )
