use native.Mathlib.Omega.{arith}
use mathlib.Core.Path.{sym, ◌∙◌}
use Rattle.sheet.specs.Head.{open_step, opens_at}
use Rattle.sheet.proofs.Onward.{going_start, going_turn, going_refused, going_end}
use Rattle.sheet.proofs.Steps.{open_read, open_refused}
use Rattle.sheet.proofs.head.opens_at.Goals as goal

pub loop-init : goal.loop-init
loop-init c = going_start (open_step _) _ c.in-Value.first (omega arith)

pub returns-in_default-number : goal.returns-in_default-number
unfolding opens_at
returns-in_default-number c =
    let l = c.loop in
    let refused = open_refused _ _ _ l.opened (sym c.refusal_of-in_default-number.ensures ∙ c.rising-number.ensures) in
    rw (← c.in-Value.ensures) (going_refused (open_step _) l.floor l.opened l.next (omega arith) refused ∙ l.invariant)

pub loop-preserved : goal.loop-preserved
loop-preserved c =
    let l = c.loop in
    going_turn (open_step _) l.floor l.opened l.next (omega arith) (omega arith) (open_read _ _ _ l.opened c.in-Value-number.ensures) ∙ l.invariant

pub returns : goal.returns
unfolding opens_at
returns c =
    let l = c.loop in
    rw (← c.in-Value.ensures) (going_end (open_step _) l.floor l.opened l.next (omega arith) ∙ l.invariant)
