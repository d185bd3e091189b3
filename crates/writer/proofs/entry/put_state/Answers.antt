use native.Mathlib.Omega.{arith}
use Rattle.writer.proofs.Laying.{laid_both}
use Rattle.writer.proofs.Sheet.{number_ends}
use Rattle.writer.proofs.entry.put_state.Goals as goal

pub put-phased-requires : goal.put-phased-requires
put-phased-requires c =
    omega (arith, number_ends _ c.put-awaited.ensures, c.requires)

pub put-requires-in-Blocked : goal.put-requires-in-Blocked
put-requires-in-Blocked c =
    omega (arith, number_ends _ c.put-awaited.ensures, number_ends _ c.put-phased.ensures, c.requires)

pub returns-in-Blocked : goal.returns-in-Blocked
returns-in-Blocked c =
    rw c.in-Blocked.is
    (laid_both c.put-awaited.ensures (laid_both c.put-phased.ensures (rw c.from.ensures at c.put-in-Blocked.ensures)))
