use Rattle.sets.proofs.Testing.{meets}
use Rattle.density.proofs.edges.fn.awaited_by.those.Goals as goal

pub returns : goal.returns
returns c = meets _ _ _ c.common.type_inv c.common.ensures
