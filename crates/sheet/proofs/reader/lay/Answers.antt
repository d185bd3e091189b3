use native.Mathlib.Omega.{arith}
use mathlib.Core.Path.{◌≡◌, refl, ◌∙◌}
use Prim.Native.Nat.{◌<◌}
use lib.ListN.{length}
use Rattle.std.proofs.Common.{rules}
use Rattle.std.proofs.lemmas.Result.{err_from_is_err_and}
use Rattle.hall.specs.Effects.{with_state}
use Rattle.hall.specs.Table.{fresh_table}
use Rattle.sheet.specs.Reader.{task_step}
use Rattle.sheet.proofs.Marks.{nobody_blocked, mark_one}
use Rattle.sheet.proofs.Onward.{going_start, going_turn, going_refused, going_end}
use Rattle.sheet.proofs.Bounds.{entry_within}
use Rattle.sheet.proofs.Steps.{entry_refused, task_read, task_refused, head_refused, tasks_refused, bytes_left, all_read}
use Rattle.sheet.proofs.reader.lay.Goals as goal

pub returns-in_err-head-clause-read : goal.returns-in_err-head-clause-read
returns-in_err-head-clause-read c =
    let p = err_from_is_err_and c.from_residual.result c.from_residual.ensures.1 in
    rw (p.1, p.2) (head_refused _ c.in_err-head.ensures)

pub loop-init : goal.loop-init
unfolding fresh_table
loop-init c = rw c.fresh.ensures (going_start (task_step _ _) _ c.in_ok-head.first (omega arith), nobody_blocked _ refl)

pub returns-in_err-entry-clause-read : goal.returns-in_err-entry-clause-read
returns-in_err-entry-clause-read c =
    let l = c.loop in
    let p = err_from_is_err_and c.from_residual-in_err-entry.result c.from_residual-in_err-entry.ensures.1 in
    rw (p.1, p.2)
    (tasks_refused _ c.in_ok-head.ensures
    (going_refused (task_step _ _) l.floor l.table l.at (omega arith) (entry_refused _ _ _ _ l.table c.in_err-entry.ensures) ∙ l.invariant.0))

pub returns-in_err-at-clause-read : goal.returns-in_err-at-clause-read
unfolding with_state
returns-in_err-at-clause-read c =
    let l = c.loop in
    let p = err_from_is_err_and c.from_residual-in_err-at.result c.from_residual-in_err-at.ensures.1 in
    rw (p.1, p.2)
    (tasks_refused _ c.in_ok-head.ensures
    (going_refused (task_step _ _) l.floor l.table l.at (omega arith) (task_refused _ _ _ _ l.table c.in_ok-entry.ensures c.in_err-at.ensures.read)
    ∙ l.invariant.0))

pub loop-preserved : goal.loop-preserved
unfolding with_state
loop-preserved c =
    let l = c.loop in
    let below : c.in_ok-entry.entry.number.0 < 32 = omega (arith, entry_within _ _ _ _ c.in_ok-entry.ensures) in
    let long : length l.table.tasks ≡ 32 = search rules in
    let told = c.is_blocked.ensures in (
      going_turn (task_step _ _) l.floor l.table l.at (omega arith) (omega arith)
          (task_read _ _ _ _ l.table c.in_ok-entry.ensures c.in_ok-at.ensures.read) ∙ l.invariant.0,
      mark_one l.table _ _ _ below long c.in_ok-at.ensures.tasks
          _ _ _ _ _ (omega arith) (omega arith) (λ e. rw (told ∙ e) refl) (λ e. rw (told ∙ e) refl) c.marked-blocked.ensures l.invariant.1,
    )

pub returns-in_err-ended-clause-read : goal.returns-in_err-ended-clause-read
returns-in_err-ended-clause-read c =
    let l = c.loop in
    let p = err_from_is_err_and c.from_residual-in_err-ended.result c.from_residual-in_err-ended.ensures.1 in
    rw (p.1, p.2)
    (bytes_left _ c.in_ok-head.ensures (going_end (task_step _ _) l.floor l.table l.at (omega arith) ∙ l.invariant.0) _ c.in_err-ended.ensures)

pub returns-clause-read : goal.returns-clause-read
returns-clause-read c =
    let l = c.loop in
    all_read _ c.in_ok-head.ensures (going_end (task_step _ _) l.floor l.table l.at (omega arith) ∙ l.invariant.0) c.in_ok-ended.ensures
