-- The sets that the two routes hand back are one, and have the stuck tasks.
use native.Mathlib.Omega.{arith}
use Rattle.demands.proofs.Verdicts.{sets_agree}
use Rattle.demands.proofs.judging.routes.Goals as goal

pub returns : goal.returns
returns c =
    let tasks = c.task_route in
    let events = c.event_route in
    sets_agree c.args.table tasks.result events.result tasks.ensures events.ensures _ _ (omega arith) (omega arith)
