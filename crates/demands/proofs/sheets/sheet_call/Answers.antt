-- A lent slice holds bytes: so the demands hold of what the entry answers, writes as value and length, and leaves in the buffer.
use native.Mathlib.Omega.{arith}
use Rattle.hall.specs.Calls.{call}
use Rattle.demands.proofs.OfSheetCalls.{sheet_called_by}
use Rattle.demands.proofs.sheets.sheet_call.Goals as goal

pub returns : goal.returns
returns c =
    let a = c.args in
    sheet_called_by a.sheet.now (λ i. (c.type_inv.sheet i).fits) (call a.kind a.task a.phaser a.other) a.next.now _ _
    c.sheet_call.ensures (omega arith) (omega arith) (omega arith) (omega arith)
