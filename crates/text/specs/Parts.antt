-- What the parts of the code hand each other; nobody need believe this file.
use Rattle.std.specs.Prelude.{◌≡◌, List, ◌++◌, ℕ}
use Rattle.text.specs.Text.{text_with}
use Rattle.text.specs.declared.text.Text.{Text}

-- where `before` says l, `after` says l and `more`
pub record Adds (before : Text) (more : List ℕ) (after : Text) : Type 0 where
  pub says : (l : List ℕ) → before ≡ text_with l → after ≡ text_with (l ++ more)
