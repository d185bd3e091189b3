-- The invariant: after the word, the tasks of the set below `task`.
use Rattle.text.specs.Parts.{Adds}
use Rattle.text.specs.Text.{numbered}
use Rattle.text.specs.Verdict.{tasks_in}
use Rattle.text.proofs.verdict.named_line.Given as goal

abbrev pub invariant-loop-task : goal.invariant-loop-task
invariant-loop-task l = Adds l.initial.next (numbered (tasks_in l.named l.task)) l.next
