use Rattle.sets.proofs.Members.{has_lt}
use Rattle.sets.proofs.take.Goals as goal

pub returns : goal.returns
returns c k =
    let o = c.only.ensures k in
    let l = c.less.ensures k in (
      λ h. let g = l.0 h in (g.0, λ e. g.1 (o.1 (has_lt 32 c.args.set k c.ranges.set.fits g.0, e))),
      λ h. l.1 (h.0, λ g. h.1 (o.0 g).1),
    )
