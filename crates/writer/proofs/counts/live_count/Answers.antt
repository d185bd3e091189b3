use native.Mathlib.Omega.{arith}
use Rattle.sheet.proofs.Gather.{count_le}
use Rattle.writer.specs.Parts.{live_in}
use Rattle.writer.proofs.counts.live_count.Goals as goal

pub overflow_add-count : goal.overflow_add-count
overflow_add-count c =
    let i = c.loop-task.task-index in
    record { fits = omega (arith, c.requires, c.loop-task.invariant, count_le (live_in c.args.tasks.now) i) }
