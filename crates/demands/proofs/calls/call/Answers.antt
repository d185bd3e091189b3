-- What `Table::call` hands back is the row of its kind, and over tables that code has, whose arrays have their lengths, the demands hold of that.
use mathlib.Core.Path.{◌≡◌, ap, sym, ◌∙◌, subst}
use native.Mathlib.Omega.{arith}
use Rattle.hall.specs.Table.{Shaped}
use Rattle.hall.specs.declared.calls.Called.{Called}
use Rattle.hall.specs.declared.table.Table.{Table}
use Rattle.demands.specs.Demands.{CallAnswered}
use Rattle.demands.specs.Moves.{ByRules}
use Rattle.hall.specs.declared.calls.Call.{Call}
use Rattle.hall.specs.Calls.{call_of}
use Rattle.hall.proofs.One.{same_call}
use Rattle.demands.proofs.Answers.{call_answered}
use Rattle.demands.proofs.Moves.{by_rules}
use Rattle.demands.proofs.calls.call.Goals as goal

-- what is handed back is the row of its kind, with the numbers of the call
of_row : (t : Table) → Shaped t → (c d : Call) (r : Called) → r ≡ call_of t d → d.kind ≡ c.kind → d.task ≡ c.task → d.phaser ≡ c.phaser
    → d.other ≡ c.other → CallAnswered t c r × ByRules t c r
of_row t z c d r e k a p o =
    let row : r ≡ call_of t c = e ∙ ap (call_of t) (same_call c d k a p o) in
    (subst (CallAnswered t c) (sym row) (call_answered t z c), subst (ByRules t c) (sym row) (by_rules t z c))

pub returns : goal.returns
returns c =
    let a = c.args in
    let both =
    of_row a.table c.shaped.ensures.lengths a.call _ c.call.result c.call.ensures (omega arith) (omega arith) (omega arith) (omega arith) in
    record { answered = both.0; moves = both.1 }
