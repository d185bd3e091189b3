-- A step that is not the last is over one sheet more, of the thousand.
use Rattle.std.proofs.Common.{◌-◌}
use Rattle.sheet_file.specs.Piece.{most_sheets}
use Rattle.sheet_file.specs.Totals.{done_of}
use Rattle.sheetdensity.proofs.print_lines.Given as goal

abbrev pub decreases-loop-held : goal.decreases-loop-held
decreases-loop-held g l = most_sheets - done_of l.totals
