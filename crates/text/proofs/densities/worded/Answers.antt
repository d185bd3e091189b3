use native.Mathlib.Omega.{arith}
use Rattle.text.specs.Density.{worded}
use Rattle.text.proofs.Said.{adds_both}
use Rattle.text.proofs.Wordings.{worded_short}
use Rattle.text.proofs.densities.worded.Goals as goal

pub returns : goal.returns
unfolding worded
returns c =
    let a = c.args in record {
      adds = adds_both (adds_both c.byte.ensures c.word.ensures) c.number.ensures;
      short = worded_short a.word.now a.number (omega arith);
    }
