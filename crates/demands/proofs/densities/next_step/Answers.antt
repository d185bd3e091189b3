-- The totals' line, the stopped line, or a sheet's.
use mathlib.Core.Path.{◌≡◌, sym, ap, ◌∙◌}
use native.Mathlib.Omega.{arith}
use Rattle.sheet_file.specs.Piece.{piece_of}
use Rattle.sheet_file.specs.Totals.{done_of}
use Rattle.sheet_file.specs.declared.piece.Piece.{Piece}
use Rattle.sheet_file.specs.declared.piece.Piece.TheVariants.{Sheet, Stopped, Ended}
use Rattle.sheet_file.proofs.Pieces.{Within, sheet_within}
use Rattle.demands.proofs.OfFiles.{step_by, last_step, stopped_step, sheet_step}
use Rattle.demands.proofs.densities.next_step.Goals.{After-next_piece, In-Sheet}
use Rattle.demands.proofs.densities.next_step.Goals as goal

-- what comes next in the file
told : (c : After-next_piece) {p : Piece} → c.next_piece.result ≡ p
    → p ≡ piece_of c.args.bytes.now (done_of c.args.totals)
told c e = sym e ∙ c.next_piece.ensures ∙ ap (piece_of c.args.bytes.now) c.done-done.ensures

-- a sheet stands in the file
within : (c : In-Sheet) → Within c.args.bytes.now c.done-done.result
    c.in-Sheet.from c.in-Sheet.to
within c = sheet_within _ _ (sym c.next_piece.ensures ∙ c.in-Sheet.is)

pub slice_bounds-count-count : goal.slice_bounds-count-count
slice_bounds-count-count c = let place = within (goal.at.slice_bounds-count-count c).In-Sheet in omega (arith, place.rises)

pub slice_bounds-count-start : goal.slice_bounds-count-start
slice_bounds-count-start c = let place = within (goal.at.slice_bounds-count-start c).In-Sheet in omega (arith, place.rises)

pub slice_bounds-count-end : goal.slice_bounds-count-end
slice_bounds-count-end c = let place = within (goal.at.slice_bounds-count-end c).In-Sheet in omega (arith, place.ends)

pub overflow_add-done : goal.overflow_add-done
overflow_add-done c = let few = (within (goal.at.overflow_add-done c).In-Sheet).few in record { fits = omega arith }

pub returns-in-Ended : goal.returns-in-Ended
returns-in-Ended c =
    let line = c.total_line.ensures in
    step_by _ _ _ Ended (told (goal.at.returns-in-Ended c).After-next_piece c.in-Ended.is) (last_step _ _ _ line.says line.whole (omega arith))

pub returns-in-Stopped : goal.returns-in-Stopped
returns-in-Stopped c =
    step_by _ _ _ (Stopped c.in-Stopped.number) (told (goal.at.returns-in-Stopped c).After-next_piece c.in-Stopped.is)
    (stopped_step _ _ _ _ (c.stopped_line.ensures.says, c.stopped_line.ensures.whole) (omega arith) (omega arith))

pub returns-in-Sheet : goal.returns-in-Sheet
returns-in-Sheet c =
    let place = within (goal.at.returns-in-Sheet c).In-Sheet in
    let line = c.sheet_line.ensures in
    step_by _ _ _ (Sheet c.in-Sheet.from c.in-Sheet.to) (told (goal.at.returns-in-Sheet c).After-next_piece c.in-Sheet.is)
    (sheet_step _ _ c.count-counted.result c.count-counted.ensures place.rises place.ends line.says line.whole (omega arith) c.with.ensures
    (omega arith))
