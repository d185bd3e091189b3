use mathlib.Core.Bool.{true≢false}
use mathlib.Core.Path.{sym, ◌∙◌, subst}
use Rattle.sets.specs.Set.{Has}
use Rattle.deadlock.proofs.Stepping.{step_in, step_out, step_off}
use Rattle.deadlock.proofs.ring.NamedWalk.after.Goals as goal

pub returns-then-has : goal.returns-then-has
returns-then-has c =
    let to = c.from-to.ensures in
    let h = subst (Has c.args.self.named) to (c.has.ensures.0 c.if-has.true) in
    to ∙ sym (step_in c.args.self.next c.args.self.named c.args.task c.if-task-lt32.true h)

pub returns-else-has : goal.returns-else-has
returns-else-has c =
    let to = c.from-to.ensures in
    sym (step_out c.args.self.next c.args.self.named c.args.task
    (λ h. true≢false (sym (c.has.ensures.1 (subst (Has c.args.self.named) (sym to) h)) ∙ c.if-has.false)))

pub returns-else-task-lt32 : goal.returns-else-task-lt32
returns-else-task-lt32 c = sym (step_off c.args.self.next c.args.self.named c.args.task c.if-task-lt32.false)
