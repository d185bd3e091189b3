use mathlib.Core.Path.{refl, ◌∙◌}
use borrow.Author.Rules.{rules}
use lib.ListN.{get_or}
use mir.Syntax.{w32}
use mir.Val.{Fits}
use Rattle.density.proofs.Tallied.{tally_start, tally_more, tally_done}
use Rattle.density.proofs.edges.edges_from.Goals as goal

pub loop-t-init : goal.loop-t-init
loop-t-init c = rw (c.into_iter-t-iterator.ensures.into_iter_gives, c.each-t-items.ensures) (tt, tt, tally_start _ _)

pub loop-t-preserved : goal.loop-t-preserved
loop-t-preserved c =
    let step = c.in-Some.ensures.steps in
    let n = c.from-edges.ensures ∙ c.size.ensures in
    let fits : Fits w32 (get_or c.args.rows c.in-Some.t 0) = search rules in
    (tt, tt, tally_more _ _ _ _ _ c.loop-t.invariant.2 step.0 step.1.holds _ step.2 _ _ _ _ n refl refl fits.fits (λ u. (λ h. h, λ h. h)))

pub returns : goal.returns
returns c = tally_done _ _ _ (rw c.in-None.ensures.steps.0 at c.loop-t.invariant.2)
