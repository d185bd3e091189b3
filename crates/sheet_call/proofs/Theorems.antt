-- What is true of `sheet_call`, for all bytes, numbers and buffers.
use mathlib.Core.Path.{◌≡◌, refl, ap, sym, ◌∙◌}
use mathlib.Core.Bool.{Bool, true, false, cond}
use mathlib.Core.List.{List}
use Prim.Native.Nat.{ℕ, ◌≤◌, ◌<◌}
use native.Mathlib.Decide.{ℕ_discrete, dec_lt}
use native.Mathlib.Omega.{arith}
use lib.Dec.{ltb}
use lib.ListN.{length, take, drop}
use lib.Seq.{take-append_seam, drop-append_seam}
use borrow.Author.Tests.{ltb-true, ltb-false}
use Rattle.answers.specs.Answers.{done, no_kind, short_buffer}
use Rattle.hall.specs.Calls.{called, kind_count, call_of}
use Rattle.hall.specs.Sound.{Sound}
use Rattle.hall.specs.Table.{Shaped}
use Rattle.hall.specs.declared.calls.Call.{Call}
use Rattle.hall.specs.declared.calls.Called.{Called}
use Rattle.hall.specs.declared.table.Table.{Table}
use Rattle.hall.proofs.ByEffect.{no_kind_refused}
use Rattle.sheet.specs.Reader.{sheet_at}
use Rattle.sheet.specs.Written.{sheet_of}
use Rattle.sheet.proofs.Bytes.{sheet_bytes}
use Rattle.sheet.proofs.Theorems.{accepts}
use Rattle.writer.specs.Next.{HandedOver, hands_over, stays, sent, hand_on}
use Rattle.writer.specs.Writer.{laid_on}
use Rattle.writer.proofs.Handing.{refused_handed}
use Rattle.sheet_call.specs.Call.{sheet_call_of}
use Rattle.sheet_call.proofs.InOrder.{no_kind_handed, fault_handed, call_handed}

-- ---- a call that is handed on: its refusal, 43, or its next table's sheet
pub data HandedOn (r : Called) (b : List ℕ) : HandedOver → Type 0 where
  refused : 10 ≤ r.answer → HandedOn r b (stays r.answer b)
  short : r.answer < 10 → length b < length (sheet_of r.table) → HandedOn r b (stays short_buffer b)
  whole : r.answer < 10 → length (sheet_of r.table) ≤ length b
      → HandedOn r b (hands_over r.answer r.value (length (sheet_of r.table)) (laid_on (sheet_of r.table) b))

pub handed_on : (r : Called) (b : List ℕ) → HandedOn r b (hand_on r b)
unfolding hand_on sent
handed_on r b = go (ltb r.answer 10) refl (ltb (length b) (length (sheet_of r.table))) refl
  where
    go : (a : Bool) → ltb r.answer 10 ≡ a → (l : Bool) → ltb (length b) (length (sheet_of r.table)) ≡ l
        → HandedOn r b (cond a (cond l (stays short_buffer b)
        (hands_over r.answer r.value (length (sheet_of r.table)) (laid_on (sheet_of r.table) b))) (stays r.answer b))
    go false a l h = refused (ltb-false _ _ a)
    go true a true h = short (ltb-true _ _ a) (ltb-true _ _ h)
    go true a false h = whole (ltb-true _ _ a) (ltb-false _ _ h)

-- ---- a call on a sheet: 42, the sheet's own refusal, or the call on its table
pub data CalledOn (sheet : List ℕ) (c : Call) (b : List ℕ) : HandedOver → Type 0 where
  kind_unknown : kind_count ≤ c.kind → CalledOn sheet c b (stays no_kind b)
  fault : c.kind < kind_count → ((sheet_at sheet).answer ≡ done → ⊥) → CalledOn sheet c b (stays (sheet_at sheet).answer b)
  made : {h : HandedOver} → c.kind < kind_count → (sheet_at sheet).answer ≡ done → HandedOn (call_of (sheet_at sheet).table c) b h → CalledOn sheet c b h

pub called_on : (sheet : List ℕ) (c : Call) (b : List ℕ) → CalledOn sheet c b (sheet_call_of sheet c b)
called_on sheet c b = go (dec_lt c.kind kind_count) (ℕ_discrete (sheet_at sheet).answer done)
  where
    go : Dec (c.kind < kind_count) → Dec ((sheet_at sheet).answer ≡ done) → CalledOn sheet c b (sheet_call_of sheet c b)
    go (no l) d = let m : kind_count ≤ c.kind = omega arith in rw (no_kind_handed sheet c b m) (kind_unknown m)
    go (yes l) (no n) = rw (fault_handed sheet c b l n) (fault l n)
    go (yes l) (yes e) = rw (call_handed sheet c b l e) (made l e (handed_on _ b))

-- FOR THE SHEET OF A SOUND TABLE IT IS EXACTLY THE CALL, with its next table's sheet
pub call_sheet : (t : Table) → Sound t → Shaped t → (c : Call) (b : List ℕ) → sheet_call_of (sheet_of t) c b ≡ hand_on (call_of t c) b
call_sheet t s z c b = go (dec_lt c.kind kind_count)
  where
    go : Dec (c.kind < kind_count) → sheet_call_of (sheet_of t) c b ≡ hand_on (call_of t c) b
    go (yes l) =
        let read = (accepts (sheet_of t) (sheet_bytes t) t).1 (s, z, refl) in
        call_handed (sheet_of t) c b l read.0 ∙ ap (λ (u : Table). hand_on (call_of u c) b) read.1
    go (no l) =
        let m : kind_count ≤ c.kind = omega arith in
        no_kind_handed (sheet_of t) c b m ∙ sym (refused_handed (called no_kind 0 t) b (omega arith))
        ∙ ap (λ (r : Called). hand_on r b) (sym (no_kind_refused t c m))

-- ---- of what is handed over
-- "From 10 up": value 0, length 0, and no byte moves
pub handed_stays : {r : Called} {b : List ℕ} {h : HandedOver} → HandedOn r b h → 10 ≤ h.answer → h ≡ stays h.answer b
handed_stays (refused l) m = refl
handed_stays (short a l) m = refl
handed_stays (whole a l) m = absurd (omega (arith, a, m))

pub call_stays : {sheet : List ℕ} {c : Call} {b : List ℕ} {h : HandedOver} → CalledOn sheet c b h → 10 ≤ h.answer → h ≡ stays h.answer b
call_stays (kind_unknown l) m = refl
call_stays (fault l n) m = refl
call_stays (made l e x) m = handed_stays x m

-- below 10: the next table's sheet, and "the rest of it stays as it was"
pub handed_sheet : {r : Called} {b : List ℕ} {h : HandedOver} → HandedOn r b h → h.answer < 10
    → (h.answer ≡ r.answer) × (h.value ≡ r.value) × (take h.length h.next ≡ sheet_of r.table)
handed_sheet (refused l) m = absurd (omega (arith, l, m))
handed_sheet (short a l) m = absurd (omega (arith, m))
handed_sheet (whole a l) m = (refl, refl, take-append_seam _ _)

pub handed_rest : {r : Called} {b : List ℕ} {h : HandedOver} → HandedOn r b h → drop h.length h.next ≡ drop h.length b
handed_rest (refused l) = refl
handed_rest (short a l) = refl
handed_rest {r} {b} (whole a l) = drop-append_seam (sheet_of r.table) _

-- the promise allows one answer, and one content of what was lent
pub handed_one : {answer value length answer' value' length' : ℕ} {next next' : List ℕ}
    → hands_over answer value length next ≡ hands_over answer' value' length' next'
    → (answer ≡ answer') × (◌≡◌ {A = List ℕ × ℕ × ℕ} (next, value, length) (next', value', length'))
handed_one e = (ap (λ (h : HandedOver). h.answer) e, λ i. ((e i).next, (e i).value, (e i).length))
