-- Over tables that code has, whose arrays have their lengths, the demands hold of what the judge hands back.
use native.Mathlib.Omega.{arith}
use Rattle.demands.proofs.ByRoute.{judged_by}
use Rattle.demands.proofs.Verdicts.{table_judged}
use Rattle.demands.proofs.judging.judge.Goals as goal

pub returns : goal.returns
returns c =
    let a = c.args in
    let judged = judged_by _ a.route (λ l. omega arith, λ l. omega arith) a.table c.judge.result c.judge.ensures in
    table_judged a.table c.shaped.ensures.lengths a.route c.judge.result judged
