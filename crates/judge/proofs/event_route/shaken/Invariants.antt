-- The invariant: those who are shaken at the phasers below p.
use Rattle.judge.proofs.Events.{Shaking}
use Rattle.judge.proofs.event_route.shaken.Given as goal

abbrev pub invariant-loop-p : goal.invariant-loop-p
invariant-loop-p l = Shaking l.members l.waiters l.gone l.p l.set
