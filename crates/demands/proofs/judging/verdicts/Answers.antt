-- The verdicts on one table, by whichever route, are equal.
use native.Mathlib.Omega.{arith}
use Rattle.judge.proofs.One.{judged_one}
use Rattle.demands.proofs.ByRoute.{judged_by}
use Rattle.demands.proofs.judging.verdicts.Goals as goal

pub returns-clause-same : goal.returns-clause-same
returns-clause-same c =
    let t = c.args.table in
    let tasks = judged_by _ 0 (λ l. omega arith, λ l. omega arith) t _ c.judge.ensures.is in
    let events = judged_by _ 0 (λ l. omega arith, λ l. omega arith) t _ c.judge-2.ensures.is in
    let fewer = judged_by _ 0 (λ l. omega arith, λ l. omega arith) t _ c.judge-3.ensures.is in
    (judged_one t 0 _ _ tasks events, judged_one t 0 _ _ tasks fewer)
