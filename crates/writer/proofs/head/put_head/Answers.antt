use native.Mathlib.Omega.{arith}
use Rattle.writer.proofs.Laying.{laid_none, laid_both}
use Rattle.writer.proofs.Sheet.{number_ends, open_ends, opens_next, listed_done}
use Rattle.writer.proofs.head.put_head.Goals as goal

pub put-at-requires : goal.put-at-requires
put-at-requires c = omega (arith, number_ends _ c.put-phasers.ensures)

pub loop-p-init : goal.loop-p-init
loop-p-init c = (
  laid_none _ _,
  omega (arith, number_ends _ c.put-phasers.ensures, number_ends _ c.put-at.ensures),
)

pub loop-p-preserved : goal.loop-p-preserved
loop-p-preserved c = (
  rw (← opens_next _ _) (laid_both c.loop-p.invariant.0 c.put_open-at.ensures),
  omega (arith, c.loop-p.invariant.1, open_ends _ _ c.put_open-at.ensures),
)

pub returns : goal.returns
returns c =
    rw (← listed_done _ _ 16 c.loop-p.p _ (omega arith) c.count_of.ensures)
    (laid_both c.put-phasers.ensures (laid_both (laid_both c.put-at.ensures c.loop-p.invariant.0) c.put.ensures))
