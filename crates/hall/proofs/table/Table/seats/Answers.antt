use borrow.Author.Rules.{rules}
use mir.Syntax.{w32}
use mir.Val.{Fits}
use Rattle.hall.proofs.Seating.{seats_in}
use Rattle.hall.proofs.table.Table.seats.Goals as goal

pub returns-clause-seated : goal.returns-clause-seated
returns-clause-seated c =
    let f : Fits w32 c.seats_of.result.all = search rules in
    seats_in _ _ f.fits c.seats_of.ensures.seated
