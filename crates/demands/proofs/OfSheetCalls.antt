-- What is handed over for a call on a sheet: demands 1 and 2, of what `sheet_call` promises.
use mathlib.Core.Path.{◌≡◌, refl, ap, sym, ◌∙◌, subst}
use mathlib.Core.Bool.{true}
use mathlib.Core.List.{List, ◌∷◌}
use Prim.Native.Nat.{ℕ, ◌<◌, ◌≤◌}
use native.Mathlib.Omega.{arith}
use lib.Dec.{eqb}
use lib.ListN.{length, drop}
use Rattle.answers.specs.Answers.{no_kind, short_buffer, among}
use Rattle.states.proofs.Truth.{clash}
use Rattle.hall.specs.Answers.{answers_of}
use Rattle.hall.specs.Calls.{kind_count, call_of}
use Rattle.hall.specs.Every.{every}
use Rattle.hall.specs.Sound.{Sound}
use Rattle.hall.specs.Table.{Shaped}
use Rattle.hall.specs.declared.calls.Call.{Call}
use Rattle.hall.specs.declared.table.Table.{Table}
use Rattle.hall.proofs.Answered.{apart, sound_answers, no_kind_iff}
use Rattle.hall.proofs.Kept.{call_shaped}
use Rattle.hall.proofs.One.{same_call}
use Rattle.hall.proofs.Soundness.{sound_iff}
use Rattle.sheet.specs.Written.{sheet_of}
use Rattle.sheet.proofs.Numbers.{Bytes}
use Rattle.sheet.proofs.Theorems.{refusal_high}
use Rattle.writer.specs.Next.{HandedOver, hand_on}
use Rattle.sheet_call.specs.Call.{sheet_call_of}
use Rattle.sheet_call.proofs.InOrder.{no_kind_handed, fault_handed}
use Rattle.sheet_call.proofs.Theorems.{HandedOn, refused, short, whole, handed_sheet, handed_rest}
use Rattle.sheet_call.proofs.Theorems.{CalledOn, kind_unknown, fault, made, called_on, call_stays, call_sheet}
use Rattle.demands.specs.SheetCalls.{CallOn, NextSheet, SheetCallAnswered}
use Rattle.demands.proofs.Answers.{call_answered}
use Rattle.demands.proofs.Moves.{by_rules}
use Rattle.demands.proofs.OfSheets.{accepted_sound, later, no_answer}
use Rattle.demands.proofs.SheetSeries.{next_sound, step_handed, too_short}

-- 43 is no kind's own: a call on a sound table never answers it
not_short : (t : Table) → Sound t → (c : Call) → c.kind < kind_count → (call_of t c).answer ≡ short_buffer → ⊥
unfolding every
not_short t s c l e =
    clash (ap (λ (n : ℕ). among n (answers_of c.kind)) (sym e) ∙ sound_answers t c l ((sound_iff t).1 s)) (apart short_buffer refl c.kind l)

module _ (sheet : List ℕ) (bytes : Bytes sheet) (c : Call) (b : List ℕ) where
  known_kind : {h : HandedOver} → CalledOn sheet c b h → h.answer ≡ no_kind → kind_count ≤ c.kind
  known_kind (kind_unknown l) e = l
  known_kind (fault l n) e = absurd (no_answer sheet bytes no_kind refl e)
  known_kind (made l d (refused m)) e = (no_kind_iff _ c).0 e
  known_kind (made l d (short a m)) e = absurd (omega (arith, e))
  known_kind (made l d (whole a m)) e = absurd (omega (arith, e, a))

  short_on : {h : HandedOver} → CalledOn sheet c b h → h.answer ≡ short_buffer → CallOn sheet c (λ u. length b < length (sheet_of u))
  short_on (kind_unknown l) e = absurd (omega (arith, e))
  short_on (fault l n) e = absurd (no_answer sheet bytes short_buffer refl e)
  short_on (made l d (refused m)) e = absurd (not_short _ (accepted_sound sheet bytes d).sound c l e)
  short_on (made l d (short a m)) e = record { of = accepted_sound sheet bytes d; accepted = a; next = m }
  short_on (made l d (whole a m)) e = absurd (omega (arith, e, a))

  accepted_on : {h : HandedOver} → CalledOn sheet c b h → h.answer < 10 → CallOn sheet c (λ u. length (sheet_of u) ≤ length b)
  accepted_on (kind_unknown l) e = absurd (omega (arith, e))
  accepted_on (fault l n) e = absurd (omega (arith, e, refusal_high sheet bytes n))
  accepted_on (made l d (refused m)) e = absurd (omega (arith, e, m))
  accepted_on (made l d (short a m)) e = absurd (omega (arith, e))
  accepted_on (made l d (whole a m)) e = record { of = accepted_sound sheet bytes d; accepted = a; next = m }

  rest_on : {h : HandedOver} → CalledOn sheet c b h → drop h.length h.next ≡ drop h.length b
  rest_on (kind_unknown l) = refl
  rest_on (fault l n) = refl
  rest_on (made l d x) = handed_rest x

  -- ---- the other way: of any sound table whose sheet it is
  of_table : (t : Table) → Shaped t → Sound t → sheet ≡ sheet_of t → sheet_call_of sheet c b ≡ hand_on (call_of t c) b
  of_table t z s q = ap (λ (x : List ℕ). sheet_call_of x c b) q ∙ call_sheet t s z c b

  on_table : (t : Table) → Shaped t → Sound t → sheet ≡ sheet_of t → HandedOn (call_of t c) b (sheet_call_of sheet c b)
  on_table t z s q = subst (λ (x : List ℕ). HandedOn (call_of t c) b (sheet_call_of x c b)) (sym q) (step_handed t s z c b)

  on_short : CallOn sheet c (λ u. length b < length (sheet_of u)) → (sheet_call_of sheet c b).answer ≡ short_buffer
  on_short x = go (on_table x.of.table x.of.shaped x.of.sound x.of.is)
    where
      go : {h : HandedOver} → HandedOn (call_of x.of.table c) b h → h.answer ≡ short_buffer
      go (refused l) = absurd (omega (arith, l, x.accepted))
      go (short a l) = refl
      go (whole a l) = absurd (omega (arith, l, x.next))

  on_accepted : CallOn sheet c (λ u. length (sheet_of u) ≤ length b) → (sheet_call_of sheet c b).answer < 10
  on_accepted x = go (on_table x.of.table x.of.shaped x.of.sound x.of.is)
    where
      go : {h : HandedOver} → HandedOn (call_of x.of.table c) b h → h.answer < 10
      go (refused l) = absurd (omega (arith, l, x.accepted))
      go (short a l) = absurd (omega (arith, l, x.next))
      go (whole a l) = a

  own : (t : Table) → Sound t → c.kind < kind_count → {h : HandedOver} → HandedOn (call_of t c) b h
      → among h.answer (short_buffer ∷ answers_of c.kind) ≡ true
  own t s l (refused m) = later (eqb (call_of t c).answer short_buffer) (sound_answers t c l ((sound_iff t).1 s))
  own t s l (short a m) = refl
  own t s l (whole a m) = later (eqb (call_of t c).answer short_buffer) (sound_answers t c l ((sound_iff t).1 s))

  next_sheet : (t : Table) → Shaped t → Sound t → {h : HandedOver} → HandedOn (call_of t c) b h → h.answer < 10 → NextSheet t c h
  next_sheet t z s x l =
      let y = handed_sheet x l in
      record {
        called = call_of t c;
        answered = call_answered t z c;
        moves = by_rules t z c;
        answer = y.0;
        value = y.1;
        sheet = y.2;
        shaped = call_shaped t z c;
        sound = next_sound t s z c;
      }

  of_sheet_call : SheetCallAnswered sheet c b (sheet_call_of sheet c b)
  of_sheet_call = record {
    is = refl;
    call = of_table;
    no_kind = (known_kind (called_on sheet c b), λ l. ap (λ (h : HandedOver). h.answer) (no_kind_handed sheet c b l));
    fault = λ l n. ap (λ (h : HandedOver). h.answer) (fault_handed sheet c b l n);
    own = λ l t z s q. own t s l (on_table t z s q);
    short = (short_on (called_on sheet c b), on_short);
    accepted = (accepted_on (called_on sheet c b), on_accepted);
    enough = λ room e.
        let x = short_on (called_on sheet c b) e in
        too_short x.of.table x.of.sound x.of.shaped c b room x.next;
    refusal = λ l. let e = call_stays (called_on sheet c b) l in
        (ap (λ (h : HandedOver). h.value) e, ap (λ (h : HandedOver). h.length) e, ap (λ (h : HandedOver). h.next) e);
    next = λ l t z s q. next_sheet t z s (on_table t z s q) l;
    rest = rest_on (called_on sheet c b);
  }

  -- of a call with the same numbers
  pub sheet_called_by : (d : Call) (h : HandedOver) → h ≡ sheet_call_of sheet d b → d.kind ≡ c.kind → d.task ≡ c.task → d.phaser ≡ c.phaser
      → d.other ≡ c.other → SheetCallAnswered sheet c b h
  sheet_called_by d h e k a p o =
      subst (SheetCallAnswered sheet c b) (sym (e ∙ ap (λ (x : Call). sheet_call_of sheet x b) (same_call c d k a p o))) of_sheet_call
