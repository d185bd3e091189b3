use native.Mathlib.Omega.{arith}
use Rattle.sheet.proofs.Gather.{count_le}
use Rattle.writer.specs.Parts.{flagged}
use Rattle.writer.proofs.counts.count_of.Goals as goal

pub overflow_add-count : goal.overflow_add-count
overflow_add-count c =
    let i = c.loop-there.there-index in
    record { fits = omega (arith, c.requires, c.loop-there.invariant, count_le (flagged c.args.flags.now) i) }
