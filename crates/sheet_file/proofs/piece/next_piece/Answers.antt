use Rattle.std.proofs.Common.{◌≡◌, ◌≤◌, ◌<◌, length, sym, ap, ◌∙◌, arith, eqb-true}
use Rattle.std.proofs.lemmas.Bool.{eqb-false}
use Rattle.fields.specs.Got.{value}
use Rattle.fields.specs.Number.{outcome, number_at}
use Rattle.sheet_file.specs.Piece.{largest_length}
use Rattle.sheet_file.proofs.Pieces.{length_read, piece_ended, piece_over, piece_refused, piece_sheet, piece_past}
use Rattle.sheet_file.proofs.piece.next_piece.Goals.{Else-is_empty, In-Value}
use Rattle.sheet_file.proofs.piece.next_piece.Goals as goal

pub returns-then-is_empty : goal.returns-then-is_empty
returns-then-is_empty c = piece_ended _ _ (eqb-true _ _ (sym c.is_empty.ensures ∙ c.if-is_empty.true))

some : (c : Else-is_empty) → 0 < length c.args.bytes.now
some c = let none = eqb-false _ _ (sym c.is_empty.ensures ∙ c.if-is_empty.false) in omega arith

pub returns-then-done-ge-MOST_SHEETS : goal.returns-then-done-ge-MOST_SHEETS
returns-then-done-ge-MOST_SHEETS c =
    piece_over _ _ (some (goal.at.returns-then-done-ge-MOST_SHEETS c).Else-is_empty) _ (omega arith) (omega arith)

-- the number that was read, and where the next byte stands
told : (c : In-Value) → number_at c.args.bytes.now largest_length 0
    ≡ value c.in-Value.length c.in-Value.from
told c = sym c.read.ensures ∙ ap outcome c.in-Value.is

-- it takes three bytes at most
short : (c : In-Value) → (c.in-Value.length ≤ largest_length) × (c.in-Value.from ≤ 3)
short c =
    length_read c.args.bytes.now (λ i. (c.type_inv.bytes i).fits) largest_length 0 (told c)

pub overflow_add-to : goal.overflow_add-to
overflow_add-to c = let s = short (goal.at.overflow_add-to c).In-Value in record { fits = omega arith }

pub returns-in-Refused : goal.returns-in-Refused
returns-in-Refused c =
    let e = sym c.read.ensures ∙ ap outcome c.in-Refused.is in
    rw c.number-in-Refused.ensures (piece_refused _ _ (some (goal.at.returns-in-Refused c).Else-is_empty) (omega arith) e)

pub returns-then-to-bytes : goal.returns-then-to-bytes
returns-then-to-bytes c =
    piece_sheet _ _ (some (goal.at.returns-then-to-bytes c).Else-is_empty) (omega arith) (told (goal.at.returns-then-to-bytes c).In-Value) _ (omega arith)
    (omega arith)

pub returns-else-to-bytes : goal.returns-else-to-bytes
returns-else-to-bytes c =
    piece_past _ _ (some (goal.at.returns-else-to-bytes c).Else-is_empty) (omega arith) (told (goal.at.returns-else-to-bytes c).In-Value) _ (omega arith)
    (omega arith)
