-- Those below the index are counted.
use mathlib.Core.Path.{◌≡◌}
use Rattle.sheet.specs.Written.{count}
use Rattle.writer.specs.Parts.{live_in}
use Rattle.writer.proofs.counts.live_count.Given as goal

abbrev pub invariant-loop-task : goal.invariant-loop-task
invariant-loop-task l = l.count ≡ count (live_in l.tasks) l.task-index
