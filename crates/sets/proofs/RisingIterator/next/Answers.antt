use Prim.Native.Nat.{◌<◌}
use native.Mathlib.Omega.{arith}
use borrow.Author.Rules.{rules}
use mir.Syntax.{w32}
use mir.Val.{Fits}
use Rattle.sets.specs.Set.{Has, Least}
use Rattle.sets.proofs.Members.{has_lt, taken_lt}
use Rattle.sets.proofs.RisingIterator.next.Goals.{After-lowest}
use Rattle.sets.proofs.RisingIterator.next.Goals as goal

least : (c : After-lowest) → Least (Has c.args.self.now.left) c.lowest.result
least c = c.lowest.ensures.some (omega (arith, c.if-left-eq0.false))

pub returns-clause-steps : goal.returns-clause-steps
returns-clause-steps c =
    let f : Fits w32 c.args.self.now.left = search rules in
    let low = least c in
    (has_lt 32 _ _ f.fits low.holds, low, c.rest-self.ensures _ c.lowest.ensures)

pub returns-clause-goes : goal.returns-clause-goes
returns-clause-goes c =
    let less : c.rest-self.result < c.args.self.now.left =
    taken_lt 32 _ _ _ c.rest-self.type_inv (least c).holds (c.rest-self.ensures _ c.lowest.ensures) in
    search rules
