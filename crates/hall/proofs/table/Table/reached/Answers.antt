use mathlib.Core.Path.{◌≡◌, sym, ◌∙◌, ap}
use mathlib.Core.Bool.{not}
use Prim.Native.Nat.{◌<◌}
use native.Mathlib.Omega.{arith}
use Rattle.hall.specs.Waiting.{impedes_of, reached_of}
use Rattle.hall.proofs.Every.{every_none, every_more, every_not}
use Rattle.hall.proofs.Looking.{impedes_is}
use Rattle.hall.proofs.table.Table.reached.Goals.{After-impedes}
use Rattle.hall.proofs.table.Table.reached.Goals as goal

pub loop-k-init : goal.loop-k-init
loop-k-init c = every_none _

looked : (c : After-impedes) → not c.impedes.result ≡ not (impedes_of c.args.self c.loop-k.k c.args.event)
looked c = let near : c.loop-k.k < 32 = omega arith in ap not (impedes_is _ _ near _ _ _ c.column-place.ensures c.impedes.ensures)

pub returns-then-impedes : goal.returns-then-impedes
unfolding reached_of
returns-then-impedes c =
    let near : c.loop-k.k < 32 = omega arith in
    sym (every_not _ 32 _ near (sym (looked (goal.at.returns-then-impedes c).After-impedes) ∙ ap not c.if-impedes.true))

pub loop-k-preserved : goal.loop-k-preserved
loop-k-preserved c = every_more _ _ c.loop-k.invariant (sym (looked (goal.at.loop-k-preserved c).After-impedes) ∙ ap not c.if-impedes.false)

pub returns : goal.returns
unfolding reached_of
returns c =
    let e : c.loop-k.k ≡ 32 = omega arith in
    sym (rw e at c.loop-k.invariant)
