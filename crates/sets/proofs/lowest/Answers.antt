use Rattle.sets.proofs.Least.{trailing_lowest}
use Rattle.sets.proofs.lowest.Goals as goal

pub returns : goal.returns
returns c = trailing_lowest c.args.set c.ranges.set.fits
