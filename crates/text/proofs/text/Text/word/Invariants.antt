-- The invariant: of the word, the first bytes are added.
use lib.ListN.{take}
use Rattle.text.specs.Parts.{Adds}
use Rattle.text.proofs.text.Text.word.Given as goal

abbrev pub invariant-loop-byte : goal.invariant-loop-byte
invariant-loop-byte l = Adds l.initial.text (take l.byte-index l.word) l.text
