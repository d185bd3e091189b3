-- What the code promises of how much of a file must be held; nobody need believe this file.
use Rattle.std.specs.Prelude.{ℕ, ◌+◌, cond, List, length, ◌==◌}
use Rattle.answers.specs.Answers.{ends_inside}
use Rattle.fields.specs.Got.{Got, value, refused}
use Rattle.fields.specs.Number.{number_at}
use Rattle.sheet_file.specs.Piece.{largest_length}

-- three groups of a length, and one sheet: no piece has more bytes
abbrev pub largest_piece : ℕ
largest_piece = 4099

-- how many bytes what comes next has, as far as these tell: where its length goes on, one more than there are
abbrev pub wanted_after : List ℕ → Got ℕ → ℕ
wanted_after bytes (value n at) = at + n
wanted_after bytes (refused n) = cond (n == ends_inside) (length bytes + 1) (length bytes)

unfoldable pub wanted_of : List ℕ → ℕ
wanted_of bytes = wanted_after bytes (number_at bytes largest_length 0)
