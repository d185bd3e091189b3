use Rattle.sets.proofs.Sizes.{ones_size}
use Rattle.sets.proofs.size.Goals as goal

pub returns : goal.returns
returns c = ones_size 32 c.args.set c.ranges.set.fits
