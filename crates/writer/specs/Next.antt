-- A call, and the sheet of the table that it leaves. The words are include/mollavisce.h's, of `sheet_call`: "writes the next table's sheet".
use Rattle.std.specs.Prelude.{cond, List, ℕ, ltb, length}
use Rattle.answers.specs.Answers.{short_buffer}
use Rattle.hall.specs.declared.calls.Called.{Called}
use Rattle.sheet.specs.Written.{sheet_of}
use Rattle.writer.specs.Writer.{laid_on}

-- what the host is handed: the answer, the value, the length of the next table's sheet, and the buffer `next` after the call
pub record HandedOver : Type 0 where
  pub answer : ℕ
  pub value : ℕ
  pub length : ℕ
  pub next : List ℕ

abbrev pub hands_over : ℕ → ℕ → ℕ → List ℕ → HandedOver
hands_over answer value length next = record { answer = answer; value = value; length = length; next = next }

-- "From 10 up: *value and *length are 0, and no byte of `next` moves."
abbrev pub stays : ℕ → List ℕ → HandedOver
stays refusal next = hands_over refusal 0 0 next

-- "last 43, if `next` is shorter than the next table's sheet"; else "`next` begins with the next table's sheet and keeps its rest, *length is that sheet's
-- length, *value the call's value"
unfoldable pub sent : Called → List ℕ → HandedOver
sent r next =
    cond (ltb (length next) (length (sheet_of r.table))) (stays short_buffer next)
    (hands_over r.answer r.value (length (sheet_of r.table)) (laid_on (sheet_of r.table) next))

-- a call as the host is handed it: "Below 10, a wait that passes (1) or blocks (2) too", its next table is sent
unfoldable pub hand_on : Called → List ℕ → HandedOver
hand_on r next = cond (ltb r.answer 10) (sent r next) (stays r.answer next)
