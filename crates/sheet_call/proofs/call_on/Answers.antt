-- 42, the sheet's own refusal; else what was handed over is the call on the sheet's table.
use mathlib.Core.Path.{sym, ap, ◌∙◌}
use Prim.Native.Nat.{◌<◌}
use native.Mathlib.Omega.{arith}
use Rattle.std.proofs.lemmas.Result.{err_from_is_err_and}
use Rattle.answers.proofs.Numbers.{number_high}
use Rattle.hall.specs.Calls.{kind_count, call_of}
use Rattle.hall.proofs.Numbered.{kind_below}
use Rattle.sheet.specs.Reader.{Sheet}
use Rattle.writer.specs.Next.{stays, hand_on}
use Rattle.sheet_call.proofs.InOrder.{no_kind_handed, fault_handed, call_handed}
use Rattle.sheet_call.proofs.call_on.Goals.{In_ok-try_from}
use Rattle.sheet_call.proofs.call_on.Goals as goal

pub returns-in_err-try_from : goal.returns-in_err-try_from
returns-in_err-try_from c =
    let next = c.args.next.now in
    let fault = c.in_err-try_from.ensures in
    let p = err_from_is_err_and c.from_residual.result c.from_residual.ensures.1 in
    rw (p.1, p.2, fault.0) (sym (no_kind_handed _ _ _ fault.1))

-- the kind is a call's
known : (c : In_ok-try_from) → c.args.call.kind < kind_count
known c = rw (← c.in_ok-try_from.ensures) (kind_below _)

pub returns-in_err-read : goal.returns-in_err-read
returns-in_err-read c =
    let next = c.args.next.now in
    let refusal = c.in_err-read.field-0.0 in
    let e = ap (λ (s : Sheet). s.answer) c.in_err-read.ensures in
    let fault = fault_handed c.args.sheet.now c.args.call next (known (goal.at.returns-in_err-read c).In_ok-try_from)
    (λ d. omega (arith, number_high refusal, e, d)) in
    let p = err_from_is_err_and c.from_residual-in_err-read.result c.from_residual-in_err-read.ensures.1 in
    rw (p.1, p.2) (ap (λ n. stays n next) e ∙ sym fault)

pub returns : goal.returns
returns c =
    let a = c.args in
    let s = c.in_ok-read.ensures in
    c.call_and_write.ensures
    ∙ ap (λ (s : Sheet). hand_on (call_of s.table a.call) a.next.now) s
    ∙ sym (call_handed a.sheet.now _ _ (known (goal.at.returns c).In_ok-try_from) (sym (ap (λ (s : Sheet). s.answer) s)))
