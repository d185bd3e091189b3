use Rattle.sets.proofs.Members.{and_iff}
use Rattle.sets.proofs.common.Goals as goal

pub returns : goal.returns
returns c k = and_iff c.args.a c.args.b k
