-- Demands 1 and 2 of a call as a C++ host can make it, on a sheet: of what `sheet_call` hands over, h.
use Rattle.std.specs.Prelude.{◌≡◌, ◌↔◌, true, List, ◌∷◌, ℕ, ◌<◌, ◌≤◌, length, drop}
use Rattle.answers.specs.Answers.{done, no_kind, short_buffer, among}
use Rattle.hall.specs.Answers.{answers_of}
use Rattle.hall.specs.Calls.{kind_count, call_of}
use Rattle.hall.specs.Sound.{Sound}
use Rattle.hall.specs.Table.{Shaped}
use Rattle.hall.specs.declared.calls.Call.{Call}
use Rattle.hall.specs.declared.calls.Called.{Called}
use Rattle.hall.specs.declared.table.Table.{Table}
use Rattle.fields.specs.Figures.{longest_sheet}
use Rattle.sheet.specs.Reader.{sheet_at}
use Rattle.sheet.specs.Written.{sheet_of}
use Rattle.writer.specs.Next.{HandedOver, hand_on}
use Rattle.sheet_call.specs.Call.{sheet_call_of}
use Rattle.demands.specs.Demands.{SheetOfSound, OfSheet, CallAnswered}
use Rattle.demands.specs.Moves.{ByRules}
use Rattle.demands.specs.Series.{Accepted, sheet_left}

-- the bytes are the sheet of a sound table, on which the call is accepted; and so it is with the next table
pub record CallOn (sheet : List ℕ) (c : Call) (Next : Table → Type 0) : Type 0 where
  pub of : SheetOfSound sheet
  pub accepted : Accepted of.table c
  pub next : Next (call_of of.table c).table

-- "Calls move the table by that paper's rules": what the host then keeps is the sheet of the table that the call leaves, which is sound
pub record NextSheet (t : Table) (c : Call) (h : HandedOver) : Type 0 where
  pub called : Called
  pub answered : CallAnswered t c called
  pub moves : ByRules t c called
  pub answer : h.answer ≡ called.answer
  pub value : h.value ≡ called.value
  pub sheet : sheet_left h ≡ sheet_of called.table
  pub shaped : Shaped called.table
  pub sound : Sound called.table

-- a sheet, a call, the buffer `next` before it, and what was handed over
pub record SheetCallAnswered (sheet : List ℕ) (c : Call) (before : List ℕ) (h : HandedOver) : Type 0 where
  pub is : h ≡ sheet_call_of sheet c before
  -- for the sheet of a sound table it is exactly the call, with its next table's sheet: so a series of them is a series of calls
  pub call : OfSheet sheet (λ t. h ≡ hand_on (call_of t c) before)
  -- "its own number": 42 before all else, then the sheet's own fault, then the call's own, and 43 last
  pub no_kind : (h.answer ≡ no_kind) ↔ (kind_count ≤ c.kind)
  pub fault : c.kind < kind_count → ((sheet_at sheet).answer ≡ done → ⊥) → h.answer ≡ (sheet_at sheet).answer
  pub own : c.kind < kind_count → OfSheet sheet (λ t. among h.answer (short_buffer ∷ answers_of c.kind) ≡ true)
  pub short : (h.answer ≡ short_buffer) ↔ CallOn sheet c (λ u. length before < length (sheet_of u))
  pub accepted : (h.answer < 10) ↔ CallOn sheet c (λ u. length (sheet_of u) ≤ length before)
  -- "The longest sheet has 2,291 bytes" (document 01): so many are enough for any
  pub enough : longest_sheet ≤ length before → h.answer ≡ short_buffer → ⊥
  -- "and a value of 0, the table stays as it stood, and not one byte .. moves": the sheet is lent to be read only
  pub refusal : 10 ≤ h.answer → (h.value ≡ 0) × (h.length ≡ 0) × (h.next ≡ before)
  pub next : h.answer < 10 → OfSheet sheet (λ t. NextSheet t c h)
  pub rest : drop h.length h.next ≡ drop h.length before
