use mathlib.Core.Path.{◌≡◌}
use Prim.Native.Nat.{◌<◌}
use native.Mathlib.Omega.{arith}
use borrow.Author.Rules.{rules}
use mir.Syntax.{w32}
use mir.Val.{Fits}
use Rattle.deadlock.proofs.Stepping.{step_le}
use Rattle.deadlock.proofs.Turns.{turn_more, turn_back, turn_all}
use Rattle.deadlock.proofs.ring.NamedWalk.once.Goals as goal

pub returns-then-task-low : goal.returns-then-task-low
returns-then-task-low c =
    let l = c.loop-i in
    let h : l.i < 32 = omega arith in
    turn_back _ _ _ _ l.task l.i l.invariant h _ c.after-task.ensures c.if-task-low.true

pub loop-i-preserved : goal.loop-i-preserved
loop-i-preserved c =
    let l = c.loop-i in
    let e = c.after-task.ensures in
    let f : Fits w32 c.args.self.named = search rules in
    let z = step_le c.args.self.next c.args.self.named l.task f.fits in
    let h : l.i < 32 = omega arith in
    turn_more _ _ _ _ l.task l.i l.invariant h _ e c.if-task-low.false (omega arith)

pub returns : goal.returns
returns c =
    let e : c.loop-i.i ≡ 32 = omega arith in
    turn_all _ _ _ _ _ (rw e at c.loop-i.invariant)
