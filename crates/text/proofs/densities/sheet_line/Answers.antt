use native.Mathlib.Omega.{arith}
use mathlib.Core.List.{[], ◌∷◌, ◌++◌}
use lib.ListN.{length-append}
use Rattle.text.specs.Density.{sheet_word, refused_word}
use Rattle.text.specs.Parts.{Adds}
use Rattle.text.specs.Text.{numbered}
use Rattle.text.proofs.Said.{adds_both}
use Rattle.text.proofs.Whole.{number_short}
use Rattle.text.proofs.Wordings.{said_as, number_as, line_accepted, line_refused}
use Rattle.text.proofs.densities.sheet_line.Goals.{After-number-sheet}
use Rattle.text.proofs.densities.sheet_line.Goals as goal

-- `sheet` and its place in the file
begun : (c : After-number-sheet) → let a = c.args in
    Adds c.empty.result (sheet_word ++ numbered (a.nth ∷ [])) c.number-sheet.result
begun c = adds_both c.word.ensures (number_as _ _ c.number-sheet.ensures (omega arith))

pub returns-then-counted-ne0 : goal.returns-then-counted-ne0
returns-then-counted-ne0 c =
    let a = c.args in
    let short = number_short a.nth 19 (omega arith) in
    let w = said_as refused_word _ a.counted.answer (c.worded.ensures.adds, c.worded.ensures.short) (omega arith) in
    let said = adds_both (begun (goal.at.returns-then-counted-ne0 c).After-number-sheet) (adds_both w.0 c.byte.ensures) in
    let line = line_refused a.nth a.counted (λ e. omega (arith, c.if-counted-ne0.true, e)) in
    record { says = rw line (said.says _ c.empty.ensures); whole = rw line (simp length-append (omega (arith, w.1))) }

pub returns : goal.returns
returns c =
    let a = c.args in
    let short = number_short a.nth 19 (omega arith) in
    let d = c.density_words.ensures in
    let said = adds_both (begun (goal.at.returns c).After-number-sheet) (adds_both d.adds c.byte-2.ensures) in
    let line = line_accepted a.nth a.counted (omega (arith, c.if-counted-ne0.false)) in
    record { says = rw line (said.says _ c.empty.ensures); whole = rw line (simp length-append (omega (arith, d.short))) }
