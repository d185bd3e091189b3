use native.Mathlib.Omega.{arith}
use Rattle.writer.proofs.Laying.{laid_none, laid_both}
use Rattle.writer.proofs.Sheet.{number_ends}
use Rattle.writer.specs.Parts.{if_there}
use Rattle.writer.proofs.entry.put_membership.Goals as goal

pub put-requires : goal.put-requires
put-requires c = omega (arith, number_ends _ c.put-phased.ensures, c.requires)

pub returns-then-member : goal.returns-then-member
unfolding if_there
returns-then-member c =
    rw c.if-member.true (laid_both c.put-phased.ensures (rw c.from.ensures at c.put.ensures))

pub returns-else-member : goal.returns-else-member
unfolding if_there
returns-else-member c = rw c.if-member.false (laid_none _ _)
