use mathlib.Core.Path.{refl}
use Rattle.text.specs.Text.{text_with}
use Rattle.text.proofs.text.Text.empty.Goals as goal

pub returns : goal.returns
unfolding text_with
returns c = refl
