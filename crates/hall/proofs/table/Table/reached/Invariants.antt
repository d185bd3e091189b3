-- No task below k impedes the event.
use mathlib.Core.Path.{◌≡◌}
use mathlib.Core.Bool.{true, not}
use Rattle.hall.specs.Every.{every}
use Rattle.hall.specs.Waiting.{impedes_of}
use Rattle.hall.proofs.table.Table.reached.Given as goal

abbrev pub invariant-loop-k : goal.invariant-loop-k
invariant-loop-k l = every (λ u. not (impedes_of l.self u l.event)) l.k ≡ true
