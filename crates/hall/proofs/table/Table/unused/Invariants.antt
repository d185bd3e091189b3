-- No task below k is a member of the phaser or waits at it.
use mathlib.Core.Path.{◌≡◌}
use mathlib.Core.Bool.{true}
use Rattle.hall.specs.Every.{every}
use Rattle.hall.proofs.Places.{unused_test}
use Rattle.hall.proofs.table.Table.unused.Given as goal

abbrev pub invariant-loop-k : goal.invariant-loop-k
invariant-loop-k l = every (unused_test l.self l.phaser.0) l.k ≡ true
