-- A lent slice holds bytes: so the demands hold of what the reader hands back.
use Rattle.demands.proofs.OfSheets.{sheet_read}
use Rattle.demands.proofs.sheets.read.Goals as goal

pub returns : goal.returns
returns c =
    sheet_read c.args.sheet.now (λ i. (c.type_inv.sheet i).fits) _ _ c.read.ensures
