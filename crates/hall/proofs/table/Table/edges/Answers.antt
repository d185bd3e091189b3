use Prim.Native.Nat.{ℕ}
use borrow.Author.Rules.{rules}
use mir.Syntax.{w32}
use mir.Val.{Fits}
use lib.ListN.{get_or}
use Rattle.hall.proofs.Seating.{rows_in}
use Rattle.hall.proofs.table.Table.edges.Goals as goal

pub returns : goal.returns
returns c =
    let f : Fits w32 c.args.seats.all = search rules in
    let each : (p : ℕ) → Fits w32 (get_or c.args.seats.members p 0) = λ p. search rules in
    rows_in _ _ f.fits (λ p. (each p).fits) _ c.edges_of.ensures
