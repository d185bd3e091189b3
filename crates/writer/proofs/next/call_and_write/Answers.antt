-- The call's refusal, 43; else what the writer laid is the next table's sheet.
use mathlib.Core.Path.{◌≡◌, refl, sym, ap, ◌∙◌}
use mathlib.Core.Bool.{true}
use Prim.Native.Nat.{◌<◌}
use native.Mathlib.Omega.{arith}
use Rattle.answers.specs.Answers.{done, number_of}
use Rattle.answers.proofs.Numbers.{number_high}
use Rattle.hall.specs.Calls.{call_of}
use Rattle.hall.specs.Parts.{sound_of}
use Rattle.hall.specs.declared.calls.Called.{Called}
use Rattle.writer.specs.Next.{sent, hand_on}
use Rattle.writer.specs.Writer.{wrote}
use Rattle.writer.proofs.Handing.{after_sound, refused_handed, accepted_handed, short_sent, whole_sent}
use Rattle.writer.proofs.next.call_and_write.Goals.{After-call-called, Else-answer-ge10}
use Rattle.writer.proofs.next.call_and_write.Goals as goal

on_call : (c : After-call-called)
    → hand_on (call_of c.args.table c.args.call) c.args.next.now ≡ hand_on c.call-called.result c.args.next.now
on_call c = ap (λ (r : Called). hand_on r c.args.next.now) (sym c.call-called.ensures)

pub returns-then-answer-ge10 : goal.returns-then-answer-ge10
returns-then-answer-ge10 c =
    c.refused.ensures _ ∙ sym (on_call (goal.at.returns-then-answer-ge10 c).After-call-called ∙ refused_handed c.call-called.result _
    (omega (arith, c.if-answer-ge10.true)))

-- where it is accepted: what it leaves is sound, and is to be sent
accepted : (c : Else-answer-ge10) → c.call-called.result.answer < 10
accepted c = omega (arith, c.if-answer-ge10.false)

sound : (c : Else-answer-ge10) → sound_of c.call-called.result.table ≡ true
sound c = after_sound _ _ c.shaped.ensures.lengths c.call-called.ensures (accepted c)

on_sent : (c : Else-answer-ge10)
    → hand_on (call_of c.args.table c.args.call) c.args.next.now
    ≡ sent c.call-called.result c.args.next.now
on_sent c =
    rw (← c.call-called.ensures) (accepted_handed c.call-called.result _ (accepted c))

pub write_sound-requires : goal.write_sound-requires
write_sound-requires c = sound (goal.at.write_sound-requires c).Else-answer-ge10

pub returns-in-Ok : goal.returns-in-Ok
returns-in-Ok c =
    let after = (goal.at.returns-in-Ok c).Else-answer-ge10 in
    sym (on_sent after ∙ whole_sent c.call-called.result _ (sound after) (wrote done c.in-Ok.length _) c.in-Ok.ensures refl)

pub returns-in-Err : goal.returns-in-Err
returns-in-Err c =
    let after = (goal.at.returns-in-Err c).Else-answer-ge10 in
    c.refused-in-Err.ensures _
    ∙ rw c.number.ensures
    (sym (on_sent after
    ∙ short_sent c.call-called.result _ (sound after) (wrote (number_of c.in-Err.refusal) 0 _) c.in-Err.ensures
    (λ e. omega (arith, e, number_high c.in-Err.refusal))))
