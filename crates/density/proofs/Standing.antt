-- The awaited events, one by one: the lowest of those who are left stands for its event, and goes with all who await it.
use mathlib.Core.Path.{◌≡◌, refl, sym, ap, ◌∙◌, subst}
use mathlib.Core.Logic.{◌↔◌, ◌⊎◌, inl, inr}
use mathlib.Core.List.{List}
use Prim.Native.Nat.{ℕ, ◌^◌, ◌<◌}
use native.Mathlib.Nat.{le_antisymm}
use native.Mathlib.Decide.{ℕ_discrete}
use native.Mathlib.Omega.{arith}
use lib.ListN.{get_or, length, replicate, set, length-set}
use lib.Seq.{get_or-set_same, get_or-set_other}
use Rattle.sets.specs.Set.{Has, Least}
use Rattle.sets.proofs.Members.{Taken, Within, has_dec, none_has, within_lt}
use Rattle.states.specs.Parts.{event_of}
use Rattle.states.specs.State.{free_task, is_blocked}
use Rattle.states.specs.Waiting.{Awaited}
use Rattle.states.proofs.Events.{is_blocked_lem, one_awaited, event_is}
use Rattle.hall.specs.Parts.{BlockedSet}
use Rattle.hall.specs.Table.{state_at}
use Rattle.hall.specs.Waiting.{BlockedOn}
use Rattle.hall.specs.declared.table.Table.{Table}
use Rattle.hall.proofs.Looking.{event_read}
use Rattle.hall.proofs.Soundness.{get_d_all}
use Rattle.density.specs.Parts.{Alike, Stands, EventsOf}

module _ (t : Table) (blocked : ℕ) where
  -- all who await an event are left or gone together; `first` has those who are left and those who stand for an event; the rows are of the latter
  pub record Sorted (first todo : ℕ) (waiters : List ℕ) : Type 0 where
    pub fits : todo < 2 ^ 32
    pub long : length waiters ≡ 32
    pub within : Within todo blocked
    pub together : (k u : ℕ) → Alike t k u → Has todo k → Has todo u
    pub firsts : (k : ℕ) → Has first k ↔ (Has todo k ⊎ Stands t k)
    pub rows : (k u : ℕ) → Has (get_or waiters k 0) u ↔ ((Has todo k → ⊥) × Stands t k × Alike t k u)

-- the lowest of `todo`, what it awaits, and those of `todo` who await the same
pub record Chosen (t : Table) (todo k : ℕ) (e : Awaited) (alike : ℕ) : Type 0 where
  pub near : k < 32
  pub lowest : Least (Has todo) k
  pub event : e ≡ event_of (get_or t.tasks k free_task).state
  pub await : (u : ℕ) → Has alike u ↔ (Has todo u × BlockedOn t u e)

module _ (t : Table) (blocked : ℕ) (b : BlockedSet t blocked) where
  is_in : (k : ℕ) (e : Awaited) → BlockedOn t k e → Has blocked k
  is_in k e w = (b.iff k).1 (ap is_blocked w)

  pub sort_start : blocked < 2 ^ 32 → Sorted t blocked blocked blocked (replicate 32 0)
  sort_start f = record {
    fits = f;
    long = refl;
    within = λ k h. h;
    together = λ k u a h. is_in u a.event a.other;
    firsts = λ k. (inl, standing k);
    rows = λ k u. (λ h. absurd (none_has u (rw (get_d_all {A = ℕ} 32 k 0) at h)), λ h. absurd (h.0 (standing k (inr h.1))));
  }
    where
      standing : (k : ℕ) → Has blocked k ⊎ Stands t k → Has blocked k
      standing k (inl h) = h
      standing k (inr s) = is_in k s.event s.first.holds

  module _ (first todo : ℕ) (waiters : List ℕ) (g : Sorted t blocked first todo waiters) (k : ℕ) (e : Awaited) (alike : ℕ)
      (s : Chosen t todo k e alike) where
    awaits : BlockedOn t k e
    awaits =
        let w = is_blocked_lem (state_at t k) ((b.iff k).0 (g.within k s.lowest.holds)) in
        subst (BlockedOn t k) (sym (event_read t k s.near e s.event ∙ event_is (state_at t k) w.0 w.1)) w.1

    waits : (u : ℕ) → Has alike u ↔ (Has todo u × BlockedOn t u e)
    waits = s.await

    like : (u : ℕ) → BlockedOn t u e → Alike t k u
    like u w = record { event = e; one = awaits; other = w }

    same : (u : ℕ) → Alike t k u → BlockedOn t u e
    same u a = subst (BlockedOn t u) (one_awaited (state_at t k) a.event e a.one awaits) a.other

    stands : Stands t k
    stands = record {
      event = e;
      first = record { holds = awaits; lowest = λ u w. s.lowest.lowest u (g.together k u (like u w) s.lowest.holds) };
    }

    -- who stands for the event is this one
    only : (u : ℕ) → Has alike u → Stands t u → u ≡ k
    only u h z =
        let w = (waits u).0 h in
        let v = subst (BlockedOn t k) (one_awaited (state_at t u) e z.event w.1 z.first.holds) awaits in
        le_antisymm (z.first.lowest k v) (s.lowest.lowest u w.0)

    mine : Has alike k
    mine = (waits k).1 (s.lowest.holds, awaits)

    module _ (others next rest : ℕ) (taken : Taken alike k others) (kept : (u : ℕ) → Has next u ↔ (Has first u × (Has others u → ⊥)))
        (gone : (u : ℕ) → Has rest u ↔ (Has todo u × (Has alike u → ⊥))) (f : rest < 2 ^ 32) where
      firsts : (u : ℕ) → Has next u ↔ (Has rest u ⊎ Stands t u)
      firsts u = (λ h. let q = (kept u).0 h in into ((g.firsts u).0 q.0) q.1 (has_dec alike u) (ℕ_discrete u k), from)
        where
          into : Has todo u ⊎ Stands t u → (Has others u → ⊥) → Dec (Has alike u) → Dec (u ≡ k) → Has rest u ⊎ Stands t u
          into (inr z) n d q = inr z
          into (inl h) n (no a) q = inl ((gone u).1 (h, a))
          into (inl h) n (yes a) (yes q) = inr (subst (Stands t) (sym q) stands)
          into (inl h) n (yes a) (no q) = absurd (n ((taken u).1 (a, q)))

          from : Has rest u ⊎ Stands t u → Has next u
          from (inl h) = let q = (gone u).0 h in (kept u).1 ((g.firsts u).1 (inl q.0), λ o. q.1 ((taken u).0 o).0)
          from (inr z) = (kept u).1 ((g.firsts u).1 (inr z), λ o. let q = (taken u).0 o in q.1 (only u q.0 z))

      abbrev RowAt : ℕ → Type 0
      RowAt j = (u : ℕ) → Has (get_or (set waiters k alike) j 0) u ↔ ((Has rest j → ⊥) × Stands t j × Alike t j u)

      here : get_or (set waiters k alike) k 0 ≡ alike
      here = let z = g.long in let l = s.near in get_or-set_same waiters k alike 0 (omega arith)

      own : RowAt k
      own u = rw here (
        λ h. (λ r. ((gone k).0 r).1 mine, stands, like u ((waits u).0 h).1),
        λ h. (waits u).1 (g.together k u h.2 s.lowest.holds, same u h.2),
      )

      other : (j : ℕ) → (j ≡ k → ⊥) → RowAt j
      other j n u = rw (get_or-set_other waiters k j alike 0 n) (
        λ h. let q = (g.rows j u).0 h in (λ r. q.0 ((gone j).0 r).0, q.1, q.2),
        λ h. (g.rows j u).1 (λ r. still r h.0 h.1 (has_dec alike j), h.1, h.2),
      )
        where
          still : Has todo j → (Has rest j → ⊥) → Stands t j → Dec (Has alike j) → ⊥
          still r m z (yes a) = n (only j a z)
          still r m z (no a) = m ((gone j).1 (r, a))

      row : (j : ℕ) → Dec (j ≡ k) → RowAt j
      row j (yes q) = subst RowAt (sym q) own
      row j (no n) = other j n

      pub sort_more : Sorted t blocked next rest (set waiters k alike)
      sort_more = record {
        fits = f;
        long = length-set waiters k alike ∙ g.long;
        within = λ u h. g.within u ((gone u).0 h).0;
        together = together;
        firsts = firsts;
        rows = λ j. row j (ℕ_discrete j k);
      }
        where
          together : (j u : ℕ) → Alike t j u → Has rest j → Has rest u
          together j u a h =
              let q = (gone j).0 h in
              let back : BlockedOn t u e → BlockedOn t j e =
              λ w. subst (BlockedOn t j) (one_awaited (state_at t u) a.event e a.other w) a.one in
              (gone u).1 (g.together j u a q.0, λ i. q.1 ((waits j).1 (q.0, back ((waits u).0 i).1)))

    pub sort_less : (rest : ℕ) → ((u : ℕ) → Has rest u ↔ (Has todo u × (Has alike u → ⊥))) → rest < 2 ^ 32 → rest < todo
    sort_less rest gone f = within_lt 32 rest todo k f (λ u h. ((gone u).0 h).0) s.lowest.holds (λ h. ((gone k).0 h).1 mine)

  pub sort_done : (first : ℕ) (waiters : List ℕ) → Sorted t blocked first 0 waiters
      → EventsOf t (record { blocked = blocked; first = first; waiters = waiters })
  sort_done first waiters g = record {
    blocked = b;
    first = λ k. (λ h. left k ((g.firsts k).0 h), λ z. (g.firsts k).1 (inr z));
    waiters = λ k u. (λ h. let q = (g.rows k u).0 h in (q.1, q.2), λ h. (g.rows k u).1 (none_has k, h.0, h.1));
  }
    where
      left : (k : ℕ) → Has 0 k ⊎ Stands t k → Stands t k
      left k (inl h) = absurd (none_has k h)
      left k (inr z) = z
