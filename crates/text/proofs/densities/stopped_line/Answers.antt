use native.Mathlib.Omega.{arith}
use lib.ListN.{length-append}
use Rattle.text.specs.Density.{stopped_line}
use Rattle.text.proofs.Said.{adds_both}
use Rattle.text.proofs.Whole.{number_short}
use Rattle.text.proofs.Wordings.{number_as}
use Rattle.text.proofs.densities.stopped_line.Goals as goal

pub returns : goal.returns
unfolding stopped_line
returns c =
    let n = c.args.number in
    let short = number_short n 9 (omega arith) in
    let number = number_as _ n c.number.ensures (omega arith) in
    let said = adds_both (adds_both c.word.ensures number) c.byte.ensures in
    record {
      says = said.says _ c.empty.ensures;
      whole = simp length-append (omega arith);
    }
