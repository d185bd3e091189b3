-- A lent slice holds bytes: so a sheet that is accepted is the sheet of the table that is written.
use mathlib.Core.Path.{ap, sym}
use native.Mathlib.Omega.{arith}
use Rattle.std.proofs.lemmas.Result.{err_from_is_err_and}
use Rattle.answers.proofs.Numbers.{number_high}
use Rattle.writer.specs.Writer.{wrote}
use Rattle.sheet.specs.Reader.{Sheet}
use Rattle.demands.proofs.OfTables.{refused_rewritten, accepted_rewritten}
use Rattle.demands.proofs.writing.rewrite.Goals as goal

pub returns-in_err-read : goal.returns-in_err-read
returns-in_err-read c =
    let b = c.args.buffer.now in
    let refusal = c.in_err-read.field-0.0 in
    let answer = ap (λ (s : Sheet). s.answer) c.in_err-read.ensures in
    let p = err_from_is_err_and c.from_residual.result c.from_residual.ensures.1 in
    rw (p.1, p.2)
    (refused_rewritten c.args.sheet.now b _ _ _ (λ d. omega (arith, number_high refusal, answer, d)) (ap (λ n. wrote n 0 b) answer))

pub returns : goal.returns
returns c =
    accepted_rewritten c.args.sheet.now c.args.buffer.now _ _ _ (λ i. (c.type_inv.sheet i).fits) c.read.new.table (sym c.in_ok-read.ensures) c.write.ensures
