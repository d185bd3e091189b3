-- Document 02, M-101: "a file of up to 1,000 sheets, each after its length as a house number": what comes next in it.
use Rattle.std.specs.Prelude.{ℕ, ◌+◌, cond, List, length, ◌==◌, nat_le}
use Rattle.answers.specs.Answers.{ends_inside, bytes_after}
use Rattle.fields.specs.Got.{Got, value, refused}
use Rattle.fields.specs.Number.{number_at}
use Rattle.sheet_file.specs.declared.piece.Piece.{Piece}
use Rattle.sheet_file.specs.declared.piece.Piece.TheVariants.{Sheet, Stopped, Ended}

-- "up to 1,000 sheets"
abbrev pub most_sheets : ℕ
most_sheets = 1000

-- "A length is at most 4,096"
abbrev pub largest_length : ℕ
largest_length = 4096

-- "one that is refused or runs past the end (30) .. stops the run with that number"; else the sheet's bytes stand from `at` on
abbrev pub after_length : List ℕ → Got ℕ → Piece
after_length bytes (value n at) = cond (nat_le (at + n) (length bytes)) (Sheet at (at + n)) (Stopped ends_inside)
after_length bytes (refused n) = Stopped n

-- the bytes from here on, after so many sheets: "a byte after the thousandth sheet (35)"; no byte before a length is the file's end
unfoldable pub piece_of : List ℕ → ℕ → Piece
piece_of bytes done =
    cond (length bytes == 0) Ended
    (cond (nat_le most_sheets done) (Stopped bytes_after) (after_length bytes (number_at bytes largest_length 0)))
