-- No more is held than is wanted.
use Rattle.std.proofs.Common.{◌-◌, ◌≡◌, ◌≤◌, length, take}
use Rattle.sheet_file.specs.Parts.{largest_piece, wanted_of}
use Rattle.sheetdensity.proofs.take_in.Given as goal

abbrev pub invariant-loop-held : goal.invariant-loop-held
invariant-loop-held g l = (length l.piece ≡ largest_piece) × (l.held ≤ largest_piece) × (l.held ≤ wanted_of (take l.held l.piece))

abbrev pub decreases-loop-held : goal.decreases-loop-held
decreases-loop-held g l = largest_piece - l.held
