-- What `call_and_write` hands over, test by test: of the call's answer, and of what the writer made of its next table.
use mathlib.Core.Path.{◌≡◌, refl, ap}
use mathlib.Core.Bool.{true, false}
use mathlib.Core.List.{List}
use Prim.Native.Nat.{ℕ, ◌≤◌, ◌<◌}
use native.Mathlib.Decide.{dec_lt}
use native.Mathlib.Omega.{arith}
use borrow.Author.Tests.{lt-ltb, le-ltb}
use Rattle.answers.specs.Answers.{done}
use Rattle.states.proofs.Truth.{clash, holds}
use Rattle.hall.specs.Calls.{kind_count, call_of}
use Rattle.hall.specs.Parts.{sound_of}
use Rattle.hall.specs.Table.{Shaped}
use Rattle.hall.specs.declared.calls.Call.{Call}
use Rattle.hall.specs.declared.calls.Called.{Called}
use Rattle.hall.specs.declared.table.Table.{Table}
use Rattle.hall.proofs.Answered.{unsound_refused}
use Rattle.hall.proofs.ByEffect.{no_kind_refused}
use Rattle.hall.proofs.Kept.{call_sound}
use Rattle.writer.specs.declared.next.SheetCalled.{SheetCalled}
use Rattle.writer.specs.Next.{hands_over, stays, sent, hand_on}
use Rattle.writer.specs.Writer.{Wrote, write_of}
use Rattle.writer.proofs.Theorems.{Way, unsound, short, whole, way}

-- ---- what an accepted call leaves is sound, whatever the table: any other is refused with 42 or 44
module _ (t : Table) (c : Call) where
  accepted_sound : (call_of t c).answer < 10 → sound_of t ≡ true
  accepted_sound l = holds (sound_of t) (go (dec_lt c.kind kind_count))
    where
      go : Dec (c.kind < kind_count) → sound_of t ≡ false → ⊥
      go (yes k) s = omega (arith, l, ap (λ (r : Called). r.answer) (unsound_refused t c k s))
      go (no k) s = omega (arith, l, ap (λ (r : Called). r.answer) (no_kind_refused t c (omega arith)))

  pub after_sound : Shaped t → {r : Called} → r ≡ call_of t c → r.answer < 10 → sound_of r.table ≡ true
  after_sound z e l = rw e (call_sound t z (accepted_sound (rw e at l)) c)

-- ---- what is told of a refusal
pub told_stays : {answer value length : ℕ} (refusal : ℕ) (next : List ℕ) → answer ≡ refusal → value ≡ 0 → length ≡ 0
    → hands_over answer value length next ≡ stays refusal next
told_stays refusal next a v l = rw (a, v, l) refl

-- ---- a call that is handed on
module _ (r : Called) (next : List ℕ) where
  pub refused_handed : 10 ≤ r.answer → hand_on r next ≡ stays r.answer next
  unfolding hand_on
  refused_handed l = rw (le-ltb r.answer 10 l) refl

  pub accepted_handed : r.answer < 10 → hand_on r next ≡ sent r next
  unfolding hand_on
  accepted_handed l = rw (lt-ltb r.answer 10 l) refl

  -- the writer, of a sound table, answers 43 or 0
  module _ (sound : sound_of r.table ≡ true) (w : Wrote) (is : w ≡ write_of r.table next) where
    pub short_sent : (w.answer ≡ done → ⊥) → sent r next ≡ stays w.answer w.buffer
    unfolding sent
    short_sent = rw is (go (way r.table next))
      where
        go : {w : Wrote} → Way r.table next w → (w.answer ≡ done → ⊥) → sent r next ≡ stays w.answer w.buffer
        go (unsound e) n = absurd (clash sound e)
        go (short e l) n = rw (lt-ltb _ _ l) refl
        go (whole e l) n = absurd (n refl)

    pub whole_sent : w.answer ≡ done → sent r next ≡ hands_over r.answer r.value w.value w.buffer
    unfolding sent
    whole_sent = rw is (go (way r.table next))
      where
        go : {w : Wrote} → Way r.table next w → w.answer ≡ done → sent r next ≡ hands_over r.answer r.value w.value w.buffer
        go (unsound e) q = absurd (clash sound e)
        go (short e l) q = absurd (omega (arith, q))
        go (whole e l) q = rw (le-ltb _ _ l) refl

-- the promise allows one answer, one value, one length and one content of the buffer
pub called_one : (r r' : SheetCalled) {b b' : List ℕ}
    → hands_over r.answer r.value r.length b ≡ hands_over r'.answer r'.value r'.length b' → (r ≡ r') × (b ≡ b')
called_one r r' e = (λ i. record { answer = (e i).answer; value = (e i).value; length = (e i).length }, λ i. (e i).next)
