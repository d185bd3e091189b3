use Rattle.sets.proofs.Members.{less_iff}
use Rattle.sets.proofs.less.Goals as goal

pub returns : goal.returns
returns c k = less_iff c.args.a c.args.b k
