use native.Mathlib.Omega.{arith}
use mathlib.Core.Path.{refl, ◌∙◌}
use Rattle.std.proofs.lemmas.Result.{err_from_is_err_and}
use Rattle.hall.specs.Effects.{with_entry}
use Rattle.sheet.specs.Reader.{member_step}
use Rattle.sheet.proofs.Onward.{going_start, going_turn, going_refused, going_end}
use Rattle.sheet.proofs.Steps.{member_read, member_refused}
use Rattle.sheet.proofs.reader.lay_members.Goals.{In_ok-joined}
use Rattle.sheet.proofs.reader.lay_members.Goals as goal

pub loop-init : goal.loop-init
loop-init c = (going_start (member_step _ _ _) c.args.table.now c.args.first (omega arith), refl)

pub returns-in_err-joined-clause-read : goal.returns-in_err-joined-clause-read
returns-in_err-joined-clause-read c =
    let l = c.loop in
    let p = err_from_is_err_and c.from_residual.result c.from_residual.ensures.1 in
    rw (p.1, p.2)
    (going_refused (member_step _ _ _) l.floor l.table l.at (omega arith) (member_refused _ _ _ _ l.table _ c.in_err-joined.ensures) ∙ l.invariant.0)

pub loop-preserved : goal.loop-preserved
unfolding with_entry
loop-preserved c =
    let l = c.loop in (
      going_turn (member_step _ _ _) l.floor l.table l.at (omega arith) (omega arith) (member_read _ _ _ _ l.table _ c.in_ok-joined.ensures) ∙ l.invariant.0,
      l.invariant.1,
    )

pub returns-clause-read : goal.returns-clause-read
returns-clause-read c =
    let l = c.loop in
    going_end (member_step _ _ _) l.floor l.table l.at (omega arith) ∙ l.invariant.0
