use Rattle.deadlock.proofs.Moves.{next_in}
use Rattle.judge.proofs.Steps.{nexts_step}
use Rattle.judge.proofs.ring.ring_of.Goals as goal

pub returns : goal.returns
returns c =
    let f = c.ranges.named.fits in
    next_in c.nexts.result _ f _ (nexts_step _ _ f _ c.nexts.ensures) _ c.ring.ensures
