-- What a call answers: demand 1, of what `Table::call` promises.
use mathlib.Core.Path.{◌≡◌, refl, ap}
use mathlib.Core.Logic.{⊎_elim}
use mathlib.Core.Bool.{true}
use Prim.Native.Nat.{ℕ}
use Rattle.answers.specs.Answers.{among}
use Rattle.hall.specs.Calls.{call_of}
use Rattle.hall.specs.Parts.{sound_of}
use Rattle.hall.specs.Table.{Shaped}
use Rattle.hall.specs.declared.calls.Called.{Called}
use Rattle.hall.specs.declared.table.Table.{Table}
use Rattle.hall.proofs.Answered.{sound_answers, no_kind_iff, unsound_iff}
use Rattle.hall.proofs.ByEffect.{kinds, no_kind_refused}
use Rattle.hall.proofs.Kept.{call_refused, call_sound}
use Rattle.states.proofs.Truth.{clash, decide}
use Rattle.hall.proofs.Soundness.{sound_iff}
use Rattle.demands.specs.Demands.{task_users, phaser_users, other_users, SameUsed, CallAnswered}
use Rattle.hall.specs.declared.calls.Call.{Call}

-- "Numbers that a kind doesn't use are not looked at."
unused : (t : Table) (c d : Call) → SameUsed c d → call_of t d ≡ call_of t c
unfolding call_of
unused t c d s =
    kinds t c (λ x. call_of t d ≡ x) (λ q. rw (s.kind, q)) (λ q. rw (s.kind, q, task q refl)) (λ q. rw (s.kind, q, task q refl))
    (λ q. rw (s.kind, q, phaser q refl)) (λ q. rw (s.kind, q, task q refl, phaser q refl, other q refl)) (λ q. rw (s.kind, q, task q refl, phaser q refl))
    (λ q. rw (s.kind, q, task q refl, phaser q refl)) (λ q. rw (s.kind, q, task q refl, phaser q refl))
    (λ q. rw (s.kind, q, task q refl, phaser q refl, other q refl)) (λ q. rw (s.kind, q, task q refl)) (λ l. no_kind_refused t d (rw s.kind l))
  where
    task : {n : ℕ} → c.kind ≡ n → among n task_users ≡ true → d.task ≡ c.task
    task q e = s.task (rw q e)

    phaser : {n : ℕ} → c.kind ≡ n → among n phaser_users ≡ true → d.phaser ≡ c.phaser
    phaser q e = s.phaser (rw q e)

    other : {n : ℕ} → c.kind ≡ n → among n other_users ≡ true → d.other ≡ c.other
    other q e = s.other (rw q e)

pub call_answered : (t : Table) → Shaped t → (c : Call) → CallAnswered t c (call_of t c)
call_answered t z c = record {
  is = refl;
  no_kind = no_kind_iff t c;
  not_sound =
      let i = unsound_iff t c in (
        λ e. let x = i.0 e in (x.0, λ s. clash ((sound_iff t).1 s) x.1),
        λ x. i.1 (x.0, ⊎_elim (λ (q : sound_of t ≡ true). absurd (x.1 ((sound_iff t).0 q))) (λ q. q) (decide (sound_of t))),
      );
  own = λ l s. sound_answers t c l ((sound_iff t).1 s);
  refusal = λ l. let q = call_refused t c l in (ap (λ (r : Called). r.value) q, ap (λ (r : Called). r.table) q);
  sound = λ s. (sound_iff (call_of t c).table).0 (call_sound t z ((sound_iff t).1 s) c);
  unused = λ d s. unused t c d s;
}
