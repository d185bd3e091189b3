use Prim.Native.Nat.{◌<◌}
use native.Mathlib.Numerals.{add-one}
use native.Mathlib.Omega.{arith}
use lib.ListN.{length, take}
use lib.Seq.{take-suc}
use Rattle.text.specs.Text.{numbered}
use Rattle.text.proofs.Decimals.{numbered_append}
use Rattle.text.proofs.Said.{adds_none, adds_both}
use Rattle.text.proofs.verdict.ring_line.Goals as goal

pub loop-task-init : goal.loop-task-init
unfolding numbered
loop-task-init c = adds_none _

pub loop-task-preserved : goal.loop-task-preserved
loop-task-preserved c =
    let ring = take c.min-end.result c.args.verdict.ring in
    let at = c.loop-task.task-index in
    let here : at < length ring = omega arith in
    rw (add-one, take-suc ring at 0, numbered_append, ← c.from.ensures) (adds_both c.loop-task.invariant c.number-next.ensures)
