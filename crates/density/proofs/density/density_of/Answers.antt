-- The sets' sizes and the edges of their rows are the five counts.
use mathlib.Core.Path.{◌∙◌}
use Prim.Native.Nat.{◌^◌, ◌<◌}
use native.Mathlib.Omega.{arith}
use borrow.Author.Rules.{rules}
use Rattle.hall.proofs.Seating.{seated_rows}
use Rattle.density.proofs.Counted.{density_counted}
use Rattle.density.proofs.density.density_of.Goals as goal

pub returns : goal.returns
returns c =
    let seats = c.seats in
    let events = c.events_of-events in
    let blocked : events.result.blocked < 2 ^ 32 = search rules in
    let first : events.result.first < 2 ^ 32 = search rules in
    density_counted _ events.result events.ensures _ _ (c.from-blocked.ensures ∙ c.size.ensures) (c.from-awaited.ensures ∙ c.size-2.ensures) blocked first _
    _ (omega (arith, seats.ensures.all)) (seated_rows _ _ seats.ensures.seated _ c.edges-impeders.ensures) _ (omega arith) (omega arith)
    c.edges_from-task_edges.ensures c.event_edges-between_events.ensures _ _
    c.edges_from.ensures (omega arith) (omega arith)
