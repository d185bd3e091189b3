-- One byte more where there is room, and else none.
use native.Mathlib.Omega.{arith}
use Rattle.text.proofs.Said.{added, full}
use Rattle.text.proofs.text.Text.byte.Goals as goal

pub returns-then-at-lt256 : goal.returns-then-at-lt256
returns-then-at-lt256 c = added _ _ (omega arith)

pub returns-else-at-lt256 : goal.returns-else-at-lt256
returns-else-at-lt256 c = full _ _ (omega arith)
