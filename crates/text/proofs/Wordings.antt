-- The lines of a file of sheets: a word and its number has 22 bytes beside the word at most; a sheet's line, accepted or refused.
use mathlib.Core.Path.{◌≡◌, refl}
use mathlib.Core.List.{List, [], ◌∷◌, ◌++◌}
use Prim.Native.Nat.{ℕ, ◌+◌, ◌^◌, ◌≤◌, ◌<◌}
use native.Mathlib.Omega.{arith}
use lib.ListN.{length, length-append}
use borrow.Author.Tests.{eq-eqb, ne_eqb}
use Rattle.answers.specs.Answers.{done}
use Rattle.sheet_file.specs.declared.counted.Counted.{Counted}
use Rattle.text.specs.Density.{sheet_word, refused_word, worded, density_words, sheet_line}
use Rattle.text.specs.Parts.{Adds}
use Rattle.text.specs.Text.{numbered}
use Rattle.text.specs.declared.text.Text.{Text}
use Rattle.text.proofs.Whole.{number_short}

pub worded_short : (word : List ℕ) (n : ℕ) → n < 2 ^ 64 → length (worded word n) ≤ length word + 22
unfolding worded
worded_short word n h = let s = number_short n 19 (omega arith) in rw length-append (omega arith)

-- a number that is handed on, as it is to be said
pub said_as : {t u : Text} {most : ℕ} (word : List ℕ) (m n : ℕ) → Adds t (worded word m) u × (length (worded word m) ≤ most) → m ≡ n
    → Adds t (worded word n) u × (length (worded word n) ≤ most)
said_as word m n h e = rw (← e) h

pub number_as : {t u : Text} (m n : ℕ) → Adds t (numbered (m ∷ [])) u → m ≡ n → Adds t (numbered (n ∷ [])) u
number_as m n h e = rw (← e) h

module _ (nth : ℕ) (c : Counted) where
  pub line_accepted : c.answer ≡ done → sheet_line nth c ≡ (sheet_word ++ numbered (nth ∷ [])) ++ (density_words c.density ++ (10 ∷ []))
  unfolding sheet_line
  line_accepted e = rw (eq-eqb c.answer done e) refl

  pub line_refused : (c.answer ≡ done → ⊥)
      → sheet_line nth c ≡ (sheet_word ++ numbered (nth ∷ [])) ++ (worded refused_word c.answer ++ (10 ∷ []))
  unfolding sheet_line
  line_refused e = rw (ne_eqb c.answer done e) refl
