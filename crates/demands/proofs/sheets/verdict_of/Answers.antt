-- A lent slice holds bytes: so the demands hold of a sheet's verdict.
use native.Mathlib.Omega.{arith}
use Rattle.demands.proofs.ByRoute.{sheet_judged_by}
use Rattle.demands.proofs.OfSheets.{sheet_verdict}
use Rattle.demands.proofs.sheets.verdict_of.Goals as goal

pub returns : goal.returns
returns c =
    let a = c.args in
    let judged = sheet_judged_by _ a.route (λ l. omega arith, λ l. omega arith) a.sheet.now c.verdict_of.result c.verdict_of.ensures in
    sheet_verdict a.sheet.now (λ i. (c.type_inv.sheet i).fits) a.route c.verdict_of.result judged
