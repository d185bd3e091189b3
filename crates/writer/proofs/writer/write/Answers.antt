use mathlib.Core.Path.{refl, sym, ◌∙◌}
use Rattle.states.proofs.Truth.{fails, clash}
use Rattle.writer.proofs.Answered.{unsound_written}
use Rattle.writer.proofs.writer.write.Goals as goal

pub returns-then-not-is_sound : goal.returns-then-not-is_sound
returns-then-not-is_sound c =
    unsound_written _ _ (sym c.is_sound.ensures ∙ fails _ (λ e. clash c.if-not-is_sound.true-raw (rw e refl)))
