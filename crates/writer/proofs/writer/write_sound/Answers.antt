use mathlib.Core.Path.{refl, sym, ◌∙◌}
use borrow.Author.Tests.{ltb-true, ltb-false}
use Rattle.states.proofs.Truth.{holds, fails, clash}
use Rattle.writer.proofs.Answered.{short_written, sheet_written}
use Rattle.writer.proofs.writer.write_sound.Goals as goal

pub returns-then-is_short : goal.returns-then-is_short
returns-then-is_short c =
    short_written _ _ c.requires (ltb-true _ _ (sym c.is_short.ensures ∙ holds _ (λ e. clash c.if-is_short.true (rw e refl))))

pub returns : goal.returns
returns c =
    let room = ltb-false _ _ (sym c.is_short.ensures ∙ fails _ (λ e. clash (rw e refl) c.if-is_short.false)) in
    sheet_written _ _ c.requires room c.put_sheet-length.ensures
