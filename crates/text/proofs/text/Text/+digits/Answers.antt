use Prim.Native.Nat.{zero, suc}
use native.Mathlib.Omega.{arith}
use Rattle.text.proofs.Decimals.{adds_digit, adds_digits}
use Rattle.text.proofs.text.Text.+digits.Goals as goal

pub returns-then-number-lt10 : goal.returns-then-number-lt10
returns-then-number-lt10 t c more fits = adds_digit more c.args.number _ c.byte.ensures (omega arith) (omega arith)

pub returns-else-number-lt10 : goal.returns-else-number-lt10
returns-else-number-lt10 t c zero fits = absurd (omega arith)
returns-else-number-lt10 t c (suc more) fits =
    adds_digits more c.args.number _ _ c.digits.ensures c.byte-else-number-lt10.ensures (omega arith) fits (omega arith) (omega arith)
