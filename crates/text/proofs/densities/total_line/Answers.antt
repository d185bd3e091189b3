use native.Mathlib.Omega.{arith}
use lib.ListN.{length-append}
use Rattle.text.specs.Density.{refused_word, sheets_word, total_line}
use Rattle.text.proofs.Said.{adds_both}
use Rattle.text.proofs.Wordings.{said_as}
use Rattle.text.proofs.densities.total_line.Goals as goal

pub returns : goal.returns
unfolding total_line
returns c =
    let totals = c.args.totals in
    let r = said_as refused_word _ totals.refused (c.worded-refused.ensures.adds, c.worded-refused.ensures.short) (omega arith) in
    let s = said_as sheets_word _ totals.sheets (c.worded-sheets.ensures.adds, c.worded-sheets.ensures.short) (omega arith) in
    let d = c.density_words.ensures in
    let said = adds_both c.word.ensures (adds_both s.0 (adds_both r.0 (adds_both d.adds c.byte.ensures))) in
    record {
      says = said.says _ c.empty.ensures;
      whole = simp length-append (omega (arith, s.1, r.1, d.short));
    }
