-- The answer strip (document 01, 'The hall sheet'): "Answer 0 writes 38 bytes: the mask of named tasks (four bytes, low first, bit k for task k); the count;
-- the ring's length; the ring's task numbers, filled up to 32 places with 255." "Longer strips keep the rest."
use Rattle.std.specs.Prelude.{cond, List, [], ◌∷◌, ◌++◌, ℕ, ◌+◌, ◌*◌, ◌/◌, ◌%◌, eqb, drop, get_or, take}
use Rattle.answers.specs.Answers.{done}
use Rattle.judge.specs.declared.verdict.Verdict.{Verdict}

-- "the mask of named tasks (four bytes, low first ..); the count; the ring's length"
abbrev pub head_of : Verdict → List ℕ
head_of v = v.named % 256 ∷ v.named / 256 % 256 ∷ v.named / 65536 % 256 ∷ v.named / 16777216 % 256 ∷ v.count ∷ v.length ∷ []

-- the 38 bytes of a verdict: then "the ring's task numbers, filled up to 32 places with 255", as a verdict has them
unfoldable pub strip_of : Verdict → List ℕ
strip_of v = head_of v ++ v.ring

-- the strip after a verdict: answer 0 writes its first 38 bytes, a refusal leaves it "exactly as before"
unfoldable pub strip_after : Verdict → List ℕ → List ℕ
strip_after v strip = cond (eqb v.answer done) (strip_of v ++ drop 38 strip) strip

-- what a host reads in the strip after answer 0, byte by byte (a law has: it is the verdict of the sheet)
unfoldable pub verdict_in : List ℕ → Verdict
verdict_in strip = record {
  answer = done;
  named = get_or strip 0 0 + get_or strip 1 0 * 256 + get_or strip 2 0 * 65536 + get_or strip 3 0 * 16777216;
  count = get_or strip 4 0;
  length = get_or strip 5 0;
  ring = take 32 (drop 6 strip);
}
