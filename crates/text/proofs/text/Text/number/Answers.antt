-- A u64 has at most 20 digits.
use native.Mathlib.Omega.{arith}
use Rattle.text.specs.Text.{decimal}
use Rattle.text.proofs.Decimals.{adds_number}
use Rattle.text.proofs.text.Text.number.Goals as goal

pub returns : goal.returns
unfolding decimal
returns c = adds_number c.args.number _ c.byte.ensures (c.digits.ensures 19 (omega arith)) (omega arith)
