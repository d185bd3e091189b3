use mathlib.Core.Path.{sym, ◌∙◌}
use mathlib.Core.Bool.{true≢false}
use Rattle.text.specs.Text.{numbered}
use Rattle.text.proofs.Said.{adds_none}
use Rattle.text.proofs.Lines.{task_away}
use Rattle.text.proofs.verdict.task_in.Goals as goal

pub returns-else-has : goal.returns-else-has
unfolding numbered
returns-else-has c =
    let a = c.args in
    rw (task_away a.set a.task (λ h. true≢false (sym (c.has.ensures.1 h) ∙ c.if-has.false))) (adds_none _)
