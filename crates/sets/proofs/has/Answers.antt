use mathlib.Core.Bool.{false≢true}
use native.Mathlib.Omega.{arith}
use Rattle.sets.proofs.Members.{has_lt}
use Rattle.sets.proofs.has.Goals as goal

pub returns-else-task-lt32 : goal.returns-else-task-lt32
returns-else-task-lt32 c =
    (λ e. absurd (false≢true e), λ h. let l = has_lt 32 c.args.set c.args.task c.ranges.set.fits h in absurd (omega arith))
