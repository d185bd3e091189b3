use Rattle.text.specs.Text.{numbered}
use Rattle.text.specs.Verdict.{tasks_in}
use Rattle.text.proofs.Said.{adds_none, adds_both}
use Rattle.text.proofs.Lines.{tasks_more}
use Rattle.text.proofs.verdict.named_line.Goals as goal

pub loop-task-init : goal.loop-task-init
unfolding numbered tasks_in
loop-task-init c = adds_none _

pub loop-task-preserved : goal.loop-task-preserved
loop-task-preserved c = rw tasks_more (adds_both c.loop-task.invariant c.task_in-next.ensures)
