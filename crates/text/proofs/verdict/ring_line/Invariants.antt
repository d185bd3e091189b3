-- The invariant: after the word, the ring's places so far.
use lib.ListN.{take}
use Rattle.text.specs.Parts.{Adds}
use Rattle.text.specs.Text.{numbered}
use Rattle.text.proofs.verdict.ring_line.Given as goal

abbrev pub invariant-loop-task : goal.invariant-loop-task
invariant-loop-task l = Adds l.initial.next (numbered (take l.task-index l.task-items)) l.next
