-- Seats and rows that were made of single arrays, at a table that has these; and what seats tell.
use mathlib.Core.Path.{◌≡◌, refl, sym, ap, ◌∙◌}
use mathlib.Core.List.{List}
use mathlib.Core.Logic.{◌↔◌}
use Prim.Native.Nat.{ℕ, ◌%◌, ◌^◌, ◌<◌}
use native.Mathlib.Decide.{dec_lt}
use native.Mathlib.Nat.{mod-eq_of_lt}
use native.Mathlib.Omega.{arith}
use lib.ListN.{get_or, get_or-eq_default}
use Rattle.sets.specs.Set.{Has}
use Rattle.sets.proofs.Members.{has_lt, none_has}
use Rattle.states.specs.Parts.{event_of}
use Rattle.states.specs.Waiting.{Awaited}
use Rattle.states.proofs.Events.{event_is}
use Rattle.seating.specs.Parts.{SeatsIn, RowsIn, LateIn, column_in}
use Rattle.seating.specs.declared.seats.Seats.{Seats}
use Rattle.hall.specs.Parts.{SeatsOf, RowsBy, RowsOf, Late, column_of}
use Rattle.hall.specs.Table.{state_at}
use Rattle.hall.specs.Waiting.{BlockedOn, Impedes}
use Rattle.hall.specs.declared.table.Table.{Table}
use Rattle.hall.proofs.Impeded.{member_below, impedes_iff}
use Rattle.hall.proofs.Looking.{late_in, impedes_task}
use Rattle.hall.proofs.Places.{state_in, member_in}

-- ---- what is said of arrays, said of the table
module _ (t : Table) (s : Seats) (fits : s.all < 2 ^ 32) where
  below : (k : ℕ) → Has s.all k → k < 32
  below k h = has_lt 32 s.all k fits h

  column_in_lem : (k : ℕ) → Has s.all k → column_of t k ≡ column_in t.tasks k
  column_in_lem k h = ap (λ s. (event_of s).phaser.0 % 16) (state_in t k (below k h))

  pub seats_in : SeatsIn t.tasks t.members s → SeatsOf t s
  seats_in g = record {
    members = λ p u l. (
      λ h. let x = (g.members p u l).0 h in (x.0, member_in t u p (below u x.0) l ∙ x.1),
      λ h. (g.members p u l).1 (h.0, sym (member_in t u p (below u h.0) l) ∙ h.1),
    );
    waiters = λ p k l. (
      λ h. let x = (g.waiters p k l).0 h in (x.0, column_in_lem k x.0 ∙ x.1),
      λ h. (g.waiters p k l).1 (h.0, sym (column_in_lem k h.0) ∙ h.1),
    );
    long = g.long;
  }

  -- a row that there is not has nobody
  pub rows_in : ((p : ℕ) → get_or s.members p 0 < 2 ^ 32) → (rows : List ℕ) → RowsIn t.tasks t.phases s rows → RowsBy t s rows
  rows_in narrow rows g = record { iff = λ k u. each k u (dec_lt k 32); long = g.long }
    where
      late : (k u : ℕ) → Has (get_or s.members (column_of t k) 0) u → LateIn t.phases u (event_of (state_at t k)) ↔ Late t u (event_of (state_at t k))
      late k u h = late_in t u (has_lt 32 (get_or s.members (column_of t k) 0) u (narrow (column_of t k)) h) (event_of (state_at t k))

      row : (k u : ℕ) → k < 32
          → Has (get_or rows k 0) u ↔ (Has s.all k × Has (get_or s.members (column_of t k) 0) u × LateIn t.phases u (event_of (state_at t k)))
      row k u l = rw (state_in t k l) (g.iff k u l)

      each : (k u : ℕ) → Dec (k < 32)
          → Has (get_or rows k 0) u ↔ (Has s.all k × Has (get_or s.members (column_of t k) 0) u × Late t u (event_of (state_at t k)))
      each k u (yes l) = (
        λ h. let x = (row k u l).0 h in (x.0, x.1, (late k u x.1).0 x.2),
        λ h. (row k u l).1 (h.0, h.1, (late k u h.1).1 h.2),
      )
      each k u (no l) =
          let z = g.long in (
            λ h. absurd (none_has u (rw (get_or-eq_default rows 0 {n = k} (omega arith)) at h)),
            λ h. absurd (l (below k h.0)),
          )

-- ---- what seats tell of an event e, whose column is p
module _ (t : Table) (s : Seats) (g : SeatsOf t s) (e : Awaited) (p : ℕ) (column : p ≡ e.phaser.0 % 16) where
  -- of those seated, who impedes it is who sits at its phaser and is late for it
  pub seated_impedes : (u : ℕ) → (Has (get_or s.members p 0) u × Late t u e) ↔ (Has s.all u × Impedes t u e)
  seated_impedes u = (into, from)
    where
      into : Has (get_or s.members p 0) u × Late t u e → Has s.all u × Impedes t u e
      into x =
          let m = (g.members p u (omega arith)).0 x.0 in
          let c : p ≡ e.phaser.0 = column ∙ mod-eq_of_lt x.1.0 in
          (m.0, (impedes_iff t u e).1 (rw c at m.1, x.1.1))

      from : Has s.all u × Impedes t u e → Has (get_or s.members p 0) u × Late t u e
      from x =
          let i = (impedes_iff t u e).0 x.1 in
          let h = (member_below t u e.phaser.0 i.0).1 in
          let c : p ≡ e.phaser.0 = column ∙ mod-eq_of_lt h in
          ((g.members p u (omega arith)).1 (x.0, rw c i.0), (h, i.1))

  -- who awaits it sits in its column
  pub seated_waits : (k : ℕ) → Has s.all k → BlockedOn t k e → Has (get_or s.waiters p 0) k
  seated_waits k h b = (g.waiters p k (omega arith)).1 (h, ap (λ (f : Awaited). f.phaser.0 % 16) (event_is _ e b) ∙ sym column)

-- ---- rows of who is late are rows of who impedes
pub seated_rows : (t : Table) (s : Seats) → SeatsOf t s → (rows : List ℕ) → RowsBy t s rows → RowsOf t s.all rows
seated_rows t s seated rows g = record {
  long = g.long;
  iff = λ k u.
      let e = event_of (state_at t k) in
      let impedes = seated_impedes t s seated e (column_of t k) refl u in (
        λ h. let q = (g.iff k u).0 h in let i = impedes.0 (q.1, q.2) in (q.0, i.0, (impedes_task t k u).0 i.1),
        λ h. let i = impedes.1 (h.1, (impedes_task t k u).1 h.2) in (g.iff k u).1 (h.0, i.0, i.1),
      );
}
