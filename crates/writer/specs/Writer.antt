-- Document 02, M-100: "Write any sound table as a hall sheet into a lent buffer; the value is its length."
use Rattle.std.specs.Prelude.{cond, List, ◌++◌, ℕ, ltb, length, drop, Result, Ok, Err}
use Rattle.answers.specs.Answers.{done, short_buffer, not_sound}
use Rattle.answers.specs.declared.Refusal.{Refusal}
use Rattle.hall.specs.Parts.{sound_of}
use Rattle.hall.specs.declared.table.Table.{Table}
use Rattle.sheet.specs.Written.{sheet_of}

-- what a writer hands back, answer and value, and the buffer after it
pub record Wrote : Type 0 where
  pub answer : ℕ
  pub value : ℕ
  pub buffer : List ℕ

abbrev pub wrote : ℕ → ℕ → List ℕ → Wrote
wrote answer value buffer = record { answer = answer; value = value; buffer = buffer }

-- the value of what is handed back: a length, or 0 beside a refusal
abbrev pub value_of : Result ℕ Refusal → ℕ
value_of (Ok length) = length
value_of (Err refusal) = 0

-- "Bytes after the sheet stay as they were."
abbrev pub laid_on : List ℕ → List ℕ → List ℕ
laid_on sheet buffer = sheet ++ drop (length sheet) buffer

-- "Refusals: 44 as in 01, then 43 if the buffer is shorter than the sheet." (`sound_of`, which the calls' 44 goes by too, decides `Sound`: `sound_iff`)
unfoldable pub write_of : Table → List ℕ → Wrote
write_of t b =
    cond (sound_of t)
    (cond (ltb (length b) (length (sheet_of t))) (wrote short_buffer 0 b) (wrote done (length (sheet_of t)) (laid_on (sheet_of t) b)))
    (wrote not_sound 0 b)
