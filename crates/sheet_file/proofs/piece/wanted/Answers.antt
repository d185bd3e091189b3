-- By what the length was read as.
use Rattle.std.proofs.Common.{◌≡◌, refl, sym, ap, ◌∙◌, arith}
use Rattle.answers.specs.declared.Refusal.TheVariants.{EndsInside}
use Rattle.answers.proofs.Numbers.{number_one}
use Rattle.fields.specs.Got.{value}
use Rattle.fields.specs.Number.{outcome, number_at}
use Rattle.sheet_file.specs.Piece.{largest_length}
use Rattle.sheet_file.proofs.Enough.{wanted_value, wanted_more, wanted_all, wanted_told}
use Rattle.sheet_file.proofs.Pieces.{length_read}
use Rattle.sheet_file.proofs.piece.wanted.Goals.{In-Value}
use Rattle.sheet_file.proofs.piece.wanted.Goals as goal

-- the number that was read, and where the next byte stands
told : (c : In-Value) → number_at c.args.bytes.now largest_length 0
    ≡ value c.in-Value.length c.in-Value.from
told c = sym c.read.ensures ∙ ap outcome c.in-Value.is

pub overflow_add-result : goal.overflow_add-result
overflow_add-result c =
    let short = length_read c.args.bytes.now (λ i. (c.type_inv.bytes i).fits) largest_length 0 (told (goal.at.overflow_add-result c).In-Value) in
    record { fits = omega arith }

pub returns-in-EndsInside : goal.returns-in-EndsInside
returns-in-EndsInside c =
    let told_all =
    wanted_told _ (λ i. (c.type_inv.bytes i).fits) _
    (wanted_more _ _ _ (sym c.in-Refused.ensures) (rw c.in-EndsInside.is refl) (omega arith)) in
    record { is = told_all.0; fits = told_all.1 }

pub returns-in_default : goal.returns-in_default
returns-in_default c =
    let told_all =
    wanted_told _ (λ i. (c.type_inv.bytes i).fits) _
    (wanted_all _ _ _ (sym c.in-Refused.ensures) (λ e. c.in_default.not-EndsInside (number_one _ EndsInside e)) (omega arith)) in
    record { is = told_all.0; fits = told_all.1 }

pub returns-in-Value : goal.returns-in-Value
returns-in-Value c =
    let told_all =
    wanted_told _ (λ i. (c.type_inv.bytes i).fits) _ (wanted_value _ _ _ _ (told (goal.at.returns-in-Value c).In-Value) (omega arith)) in
    record { is = told_all.0; fits = told_all.1 }
