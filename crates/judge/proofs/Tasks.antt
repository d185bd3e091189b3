-- The task route: the rows are the edges of document 01.
use mathlib.Core.Path.{◌≡◌, refl, sym, ap, subst}
use mathlib.Core.Bool.{true}
use mathlib.Core.List.{List, []}
use mathlib.Core.Logic.{◌↔◌}
use Prim.Native.Nat.{ℕ}
use lib.ListN.{replicate}
use Rattle.std.specs.Prelude.{Some}
use Rattle.sets.specs.Set.{Has}
use Rattle.sets.proofs.Members.{none_has}
use Rattle.deadlock.specs.Ring.{RingIn, nobody}
use Rattle.deadlock.specs.Walk.{Row, NamedBy}
use Rattle.deadlock.specs.Waiting.{TaskEdge}
use Rattle.deadlock.proofs.Walks.{along}
use Rattle.states.specs.State.{is_blocked}
use Rattle.states.proofs.Events.{is_blocked_lem}
use Rattle.seating.specs.declared.seats.Seats.{Seats}
use Rattle.hall.specs.Parts.{BlockedSet, SeatsOf, RowsOf}
use Rattle.hall.specs.Table.{state_at}
use Rattle.hall.specs.Waiting.{BlockedOn, Impedes, ImpedesTask}
use Rattle.hall.specs.declared.table.Table.{Table}
use Rattle.judge.specs.Parts.{Seated}
use Rattle.judge.specs.Routes.{TaskRoute}

-- ---- the seats of all the blocked
pub seats_blocked : (t : Table) (b : ℕ) (s : Seats) → BlockedSet t b → (s.all ≡ b) × SeatsOf t s → Seated t s
seats_blocked t b s blocked g = record { blocked = subst (BlockedSet t) (sym g.0) blocked; seats = g.1 }

-- ---- rows of some tasks whose edges are those of the task route: u impedes what k awaits, and is blocked
abbrev pub Edges : Table → ℕ → List ℕ → Type 0
Edges t among rows = (k u : ℕ) → Row among rows k u ↔ ((is_blocked (state_at t u) ≡ true) × ImpedesTask t k u)

-- such are the rows among the blocked
pub blocked_edges : (t : Table) (b : ℕ) (rows : List ℕ) → BlockedSet t b → RowsOf t b rows → Edges t b rows
blocked_edges t b rows s g k u = (
  λ r. let q = (g.iff k u).0 r.1 in ((s.iff u).0 q.1, q.2),
  λ h. let w = (s.iff k).1 (ap is_blocked h.1.waits) in (w, (g.iff k u).1 (w, (s.iff u).1 h.0, h.1)),
)

module _ (t : Table) (among : ℕ) (rows : List ℕ) (edges : Edges t among rows) where
  row_edge : (k u : ℕ) → Row among rows k u → TaskEdge (BlockedOn t) (Impedes t) k u
  row_edge k u r =
      let q = (edges k u).0 r in
      let b = is_blocked_lem (state_at t u) q.0 in
      record { event = q.1.event; waits = q.1.waits; impedes = q.1.impedes; other = b.0; blocked = b.1 }

  edge_row : (k u : ℕ) → TaskEdge (BlockedOn t) (Impedes t) k u → Row among rows k u
  edge_row k u e = (edges k u).1 (ap is_blocked e.blocked, record { event = e.event; waits = e.waits; impedes = e.impedes })

  pub rows_named : (m : ℕ) → NamedBy (Row among rows) m → TaskRoute t m
  rows_named m n = record { iff = λ k. (λ h. along row_edge ((n.iff k).0 h), λ w. (n.iff k).1 (along edge_row w)) }

-- ---- where nobody is named, the ring walk comes to nothing
pub nobody_ring : (Edge : ℕ → ℕ → Type 0) → RingIn (Has 0) Edge (Some (record { length = 0; tasks = replicate 32 255 }))
nobody_ring Edge = record { ring = []; comes = nobody none_has; long = refl; places = refl }
