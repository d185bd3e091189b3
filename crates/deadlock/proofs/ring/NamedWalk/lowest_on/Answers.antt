use mathlib.Core.Path.{sym, ◌∙◌}
use Prim.Native.Nat.{◌≤◌, ◌<◌}
use native.Mathlib.Omega.{arith}
use Rattle.deadlock.proofs.Turns.{low_turn, low_end}
use Rattle.deadlock.proofs.ring.NamedWalk.lowest_on.Goals as goal

pub loop-more-preserved : goal.loop-more-preserved
loop-more-preserved c =
    let s = c.args in
    let l = c.loop-more in
    let h : l.more < s.steps = omega arith in
    l.invariant ∙ low_turn s.self.next s.self.named _ l.task l.low l.more _ _ h c.after-task.ensures c.min-low.ensures

pub returns : goal.returns
returns c =
    let l = c.loop-more in
    let h : c.args.steps ≤ l.more = omega arith in
    sym (l.invariant ∙ low_end c.args.self.next c.args.self.named _ l.task l.low l.more h)
