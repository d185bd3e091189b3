-- The text is that of the sheet's verdict, and none of it is cut.
use native.Mathlib.Omega.{arith}
use Rattle.text.proofs.Said.{said_whole}
use Rattle.demands.proofs.ByRoute.{sheet_judged_by}
use Rattle.demands.proofs.OfSheets.{sheet_verdict}
use Rattle.demands.proofs.sheets.text_of.Goals as goal

pub returns : goal.returns
returns c =
    let s = c.args.sheet.now in
    let v = c.verdict_of in
    let judged = sheet_judged_by _ 0 (λ l. omega arith, λ l. omega arith) s v.result v.ensures.is in
    let text = c.text_of.ensures in
    record {
      verdict = v.result;
      judged = sheet_verdict s (λ i. (c.type_inv.sheet i).fits) 0 v.result judged;
      is = text.says;
      whole = said_whole c.text_of.result _ text.says text.whole;
    }
