use mathlib.Core.Path.{refl, ◌∙◌}
use Rattle.density.proofs.Tallied.{tally_start, tally_more, tally_done, joined}
use Rattle.density.proofs.edges.event_edges.Goals as goal

pub loop-t-init : goal.loop-t-init
loop-t-init c = rw (c.into_iter-t-iterator.ensures.into_iter_gives, c.each-t-items.ensures) (tt, tt, tally_start _ _)

pub loop-t-preserved : goal.loop-t-preserved
loop-t-preserved c =
    let step = c.in-Some.ensures.steps in
    let n = c.from-edges.ensures ∙ c.size.ensures in
    let row = c.awaited_by-awaited in
    (tt, tt, tally_more _ _ _ _ _ c.loop-t.invariant.2 step.0 step.1.holds _ step.2 row.result _ _ _ n refl refl row.type_inv (joined _ _ _ _ row.ensures))

pub returns : goal.returns
returns c = tally_done _ _ _ (rw c.in-None.ensures.steps.0 at c.loop-t.invariant.2)
