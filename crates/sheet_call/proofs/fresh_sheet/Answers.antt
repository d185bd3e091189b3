-- "The empty table is `01 00 00`" (document 01).
use mathlib.Core.Path.{sym}
use Rattle.sheet.proofs.Examples.{empty}
use Rattle.sheet_call.proofs.fresh_sheet.Goals as goal

pub returns : goal.returns
returns c = sym empty.1
