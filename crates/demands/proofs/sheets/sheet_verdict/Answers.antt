-- A lent slice holds bytes: so the demands hold of what the entry answers and leaves in the strip.
use native.Mathlib.Omega.{arith}
use Rattle.demands.proofs.ByRoute.{entered_by}
use Rattle.demands.proofs.OfSheets.{sheet_answered}
use Rattle.demands.proofs.sheets.sheet_verdict.Goals as goal

pub returns : goal.returns
returns c =
    let a = c.args in
    let s = a.sheet.now in
    let entered = entered_by _ a.route (λ l. omega arith, λ l. omega arith) s a.strip.now _ _ c.sheet_verdict.ensures in
    sheet_answered s (λ i. (c.type_inv.sheet i).fits) a.route a.strip.now _ _ entered
