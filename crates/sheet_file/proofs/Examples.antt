-- What comes next in small files, and at the figures' edges.
use Rattle.std.proofs.Common.{◌≡◌, List, [], ◌∷◌, refl}
use Rattle.fields.specs.Number.{plain_at, number_at}
use Rattle.sheet_file.specs.Piece.{piece_of}
use Rattle.sheet_file.specs.declared.piece.Piece.{Piece}
use Rattle.sheet_file.specs.declared.piece.Piece.TheVariants.{Sheet, Stopped, Ended}

-- no byte is the end, and one after the thousandth sheet 35
abbrev ends : List Piece
ends = piece_of [] 0 ∷ piece_of [] 1000 ∷ piece_of (0 ∷ []) 999 ∷ piece_of (0 ∷ []) 1000 ∷ []

pub file_ends : ends ≡ Ended ∷ Ended ∷ Sheet 1 1 ∷ Stopped 35 ∷ []
unfolding piece_of plain_at number_at
file_ends = refl

-- the sheet of the empty table after its length, with a byte behind it; the same with a byte too few; `80`; `80 00`; `81 20`, which is 4,097
abbrev lengths : List Piece
lengths =
    piece_of (3 ∷ 1 ∷ 0 ∷ 0 ∷ 7 ∷ []) 0 ∷ piece_of (3 ∷ 1 ∷ 0 ∷ []) 0
    ∷ piece_of (128 ∷ []) 0 ∷ piece_of (128 ∷ 0 ∷ []) 0 ∷ piece_of (129 ∷ 32 ∷ []) 0 ∷ []

pub lengths_read : lengths ≡ Sheet 1 4 ∷ Stopped 30 ∷ Stopped 30 ∷ Stopped 31 ∷ Stopped 32 ∷ []
unfolding piece_of plain_at number_at
lengths_read = refl
