use Rattle.hall.proofs.Seating.{seated_rows}
use Rattle.judge.proofs.Tasks.{blocked_edges, rows_named}
use Rattle.judge.proofs.task_route.along_tasks.Goals as goal

pub returns : goal.returns
returns c =
    let seated = c.requires in
    let rows = seated_rows _ _ seated.seats _ c.edges.ensures in
    rows_named _ _ c.edges.result (blocked_edges _ _ _ seated.blocked rows) _ c.named.ensures
