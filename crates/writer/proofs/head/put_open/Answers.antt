use Rattle.writer.proofs.Laying.{laid_none}
use Rattle.writer.specs.Parts.{if_there}
use Rattle.writer.proofs.head.put_open.Goals as goal

pub returns-then-opened : goal.returns-then-opened
unfolding if_there
returns-then-opened c = rw c.if-opened.true c.put.ensures

pub returns-else-opened : goal.returns-else-opened
unfolding if_there
returns-else-opened c = rw c.if-opened.false (laid_none _ _)
