use Rattle.sets.proofs.Members.{or_iff}
use Rattle.sets.proofs.either.Goals as goal

pub returns : goal.returns
returns c k = or_iff c.args.a c.args.b k
