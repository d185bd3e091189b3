use Rattle.demands.proofs.OfFiles.{fewer_left, step_on}
use Rattle.sheetdensity.proofs.print_lines.Goals as goal

pub loop-held-smaller : goal.loop-held-smaller
loop-held-smaller g c = fewer_left (step_on _ _ c.next_step-step.result c.next_step-step.ensures c.if-step.false)
