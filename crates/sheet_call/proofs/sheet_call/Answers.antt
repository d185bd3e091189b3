use mathlib.Core.Path.{◌∙◌}
use Rattle.sheet_call.proofs.sheet_call.Goals as goal

pub returns-in-Err : goal.returns-in-Err
returns-in-Err c = c.refused-called.ensures _ ∙ rw c.number.ensures c.in-Err.ensures
