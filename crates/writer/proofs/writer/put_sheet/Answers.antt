use mathlib.Core.Path.{◌≡◌, refl, ◌∙◌}
use Prim.Native.Nat.{◌<◌}
use native.Mathlib.Omega.{arith}
use lib.ListN.{get_or}
use Rattle.states.specs.State.{free_task}
use Rattle.writer.specs.Parts.{flagged}
use Rattle.writer.proofs.Laying.{laid_none, laid_both, laid_same}
use Rattle.writer.proofs.Sheet.{head_short, entry_ends, member_ends, row_within, members_same, member_read, phase_read, row_next, task_next, sheet_done}
use Rattle.writer.proofs.writer.put_sheet.Goals as goal

pub loop-k-init : goal.loop-k-init
loop-k-init c = (laid_none _ _, omega (arith, c.put_head-at.ensures.place, head_short (flagged c.args.table.opened) c.live_count.result))

pub loop-p-init : goal.loop-p-init
loop-p-init c = (laid_none _ _, omega (arith, c.loop-k.invariant.1, entry_ends _ _ _ c.put_entry-at.ensures))

pub loop-p-preserved : goal.loop-p-preserved
loop-p-preserved c =
    let k = c.loop-k.k in
    let near : k < 32 = omega arith in
    let p = c.loop-p.p in
    let within : p < 16 = omega (arith, c.row_end-p-end.ensures, row_within ((get_or c.args.table.tasks k free_task).state)) in (
      laid_same (laid_both c.loop-p.invariant.0 c.put_membership-at.ensures)
          (row_next c.args.table k p _ _ (member_read c.args.table k p _ (omega arith) near within) (phase_read c.args.table k p _ (omega arith) near within)),
      omega (arith, c.loop-p.invariant.1, member_ends _ _ _ c.put_membership-at.ensures),
    )

pub loop-k-preserved : goal.loop-k-preserved
loop-k-preserved c =
    let k = c.loop-k.k in
    let near : k < 32 = omega arith in
    let state = (get_or c.args.table.tasks k free_task).state in
    let whole : c.loop-p.p ≡ c.row_end-p-end.result = omega arith in (
      rw
          (← task_next c.args.table k c.count_of.result c.loop-p.p state near (c.count_of.ensures ∙ members_same c.args.table k near) refl
          (whole ∙ c.row_end-p-end.ensures))
          (laid_both c.loop-k.invariant.0 (laid_both c.put_entry-at.ensures c.loop-p.invariant.0)),
      omega (arith, c.loop-p.invariant.1, whole, c.row_end-p-end.ensures, row_within state),
    )

pub returns : goal.returns
returns c =
    rw (← sheet_done c.args.table c.live_count.result c.loop-k.k (omega arith) c.live_count.ensures)
    (laid_both c.put_head-at.ensures c.loop-k.invariant.0)
