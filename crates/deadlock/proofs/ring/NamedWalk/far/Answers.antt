use mathlib.Core.Path.{sym, ◌∙◌}
use Prim.Native.Nat.{◌≤◌, ◌<◌}
use native.Mathlib.Omega.{arith}
use Rattle.deadlock.proofs.Turns.{go_turn, go_end}
use Rattle.deadlock.proofs.ring.NamedWalk.far.Goals as goal

pub loop-step-preserved : goal.loop-step-preserved
loop-step-preserved c =
    let l = c.loop-step in
    let h : l.step < c.args.steps = omega arith in
    l.invariant ∙ go_turn c.args.self.next c.args.self.named _ l.task l.step _ h c.after-task.ensures

pub returns : goal.returns
returns c =
    let l = c.loop-step in
    let h : c.args.steps ≤ l.step = omega arith in
    sym (l.invariant ∙ go_end c.args.self.next c.args.self.named _ l.task l.step h)
