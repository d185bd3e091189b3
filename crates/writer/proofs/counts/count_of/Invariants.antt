-- Those below the index are counted.
use mathlib.Core.Path.{◌≡◌}
use Rattle.sheet.specs.Written.{count}
use Rattle.writer.specs.Parts.{flagged}
use Rattle.writer.proofs.counts.count_of.Given as goal

abbrev pub invariant-loop-there : goal.invariant-loop-there
invariant-loop-there l = l.count ≡ count (flagged l.flags) l.there-index
