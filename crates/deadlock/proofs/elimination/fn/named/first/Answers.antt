use Rattle.sets.proofs.Testing.{apart}
use Rattle.deadlock.proofs.elimination.fn.named.first.Goals as goal

pub returns : goal.returns
returns c = apart _ _ _ c.common.type_inv c.common.ensures
