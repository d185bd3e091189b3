-- What is handed back for a sheet: demands 1 to 3, of what the reader, the verdict of a sheet and the entry promise. `Bytes` is what code has by its types.
use mathlib.Core.Path.{◌≡◌, refl, ap, sym, ◌∙◌, subst}
use mathlib.Core.Bool.{Bool, true, false, cond, ◌||◌}
use mathlib.Core.List.{List, ◌∷◌, ◌++◌}
use Prim.Native.Nat.{ℕ, ◌<◌, ◌≤◌}
use native.Mathlib.Decide.{ℕ_discrete, dec_lt}
use native.Mathlib.Omega.{arith}
use lib.Dec.{T, eqb}
use lib.ListN.{length, drop}
use lib.Seq.{drop_at}
use borrow.Author.Tests.{eqb-true}
use Rattle.answers.specs.Answers.{done, among, no_route, short_strip}
use Rattle.hall.specs.Table.{Shaped}
use Rattle.hall.specs.declared.table.Table.{Table}
use Rattle.judge.specs.Verdict.{nobody, Judged}
use Rattle.judge.specs.declared.verdict.Verdict.{Verdict}
use Rattle.sheet.specs.Answers.{sheet_answers}
use Rattle.sheet.specs.Reader.{Sheet, hands, sheet_at}
use Rattle.sheet.proofs.Numbers.{Bytes}
use Rattle.sheet.proofs.Theorems.{accepts, no_longer, settled, answers, refused_fresh}
use Rattle.mollavisce.specs.Entry.{Entered}
use Rattle.judge.specs.OfSheet.{VerdictOf}
use Rattle.mollavisce.specs.Strip.{head_of, strip_of, strip_after, verdict_in}
use Rattle.mollavisce.proofs.Answers.{judged_answer, entry_answers_lem}
use Rattle.mollavisce.proofs.Entered.{Way, route_unknown, short, reached, way, refused_kept}
use Rattle.mollavisce.proofs.Fits.{sheet_fits}
use Rattle.mollavisce.proofs.ReadBack.{entered_judged}
use Rattle.demands.specs.Demands.{SheetOfSound, OfSheet, NamesTheStuck, MeansNever, SheetRead, TableJudged, SheetVerdict, SheetAnswered}
use Rattle.demands.proofs.SheetSeries.{by_sheets}
use Rattle.demands.proofs.Verdicts.{table_judged}
use Rattle.judge.specs.Routes.{largest_route}

holds_true : (b : Bool) → T b → b ≡ true
holds_true false h = elim h [ ]
holds_true true h = refl

pub later : (b : Bool) {c : Bool} → c ≡ true → b || c ≡ true
later true e = refl
later false e = e

-- ---- the reader
module _ (sheet : List ℕ) (bytes : Bytes sheet) where
  pub sheet_read : (answer : ℕ) (t : Table) → hands answer t ≡ sheet_at sheet → SheetRead sheet answer t
  sheet_read answer t e = record {
    is = e;
    accepted = λ u. let i = accepts sheet bytes u in (
      λ x. i.0 (sym a ∙ x.0, sym b ∙ x.1),
      λ x. let y = i.1 x in (a ∙ y.0, b ∙ y.1),
    );
    own = rw a (holds_true _ (answers sheet bytes));
    fresh = λ n. b ∙ refused_fresh sheet (λ q. n (a ∙ q));
    longest = λ q. no_longer sheet bytes (sheet_at sheet).table (sym a ∙ q, refl);
    settled = e ∙ settled sheet bytes;
  }
    where
      a : answer ≡ (sheet_at sheet).answer
      a = ap (λ (s : Sheet). s.answer) e

      b : t ≡ (sheet_at sheet).table
      b = ap (λ (s : Sheet). s.table) e

  abbrev pub accepted_sound : (sheet_at sheet).answer ≡ done → SheetOfSound sheet
  accepted_sound a =
      let h = (accepts sheet bytes (sheet_at sheet).table).0 (a, refl) in
      record { table = (sheet_at sheet).table; shaped = h.1; sound = h.0; is = h.2 }

  sound_accepted : SheetOfSound sheet → (sheet_at sheet).answer ≡ done
  sound_accepted o = ((accepts sheet bytes o.table).1 (o.sound, o.shaped, o.is)).0

  -- a number that is none of the reader's
  pub no_answer : (n : ℕ) → among n sheet_answers ≡ false → (sheet_at sheet).answer ≡ n → ⊥
  no_answer n m e = subst T m (subst (λ (k : ℕ). T (among k sheet_answers)) e (answers sheet bytes))

  -- ---- the verdict of a sheet
  module _ (route : ℕ) (v : Verdict) (j : VerdictOf sheet route v) where
    fault : route ≤ largest_route → v.answer ≡ (sheet_at sheet).answer
    fault l = judged_answer sheet bytes route v l j

    -- of the table whose sheet it is
    of_sheet : (P : Table → Type 0) → ((t : Table) → Shaped t → TableJudged t route v → P t) → v.answer ≡ done → OfSheet sheet P
    of_sheet P f e t z s q = go (dec_lt largest_route route)
      where
        go : Dec (largest_route < route) → P t
        go (yes l) = absurd (omega (arith, e, ap (λ (w : Verdict). w.answer) (j.no_route l)))
        go (no l) =
            let m : route ≤ largest_route = omega arith in
            let a = (accepts sheet bytes t).1 (s, z, q) in
            f t z (table_judged t z route v (subst (λ (u : Table). Judged u route v) a.1 (j.judged m a.0)))

    pub sheet_verdict : SheetVerdict sheet route v
    sheet_verdict = record {
      is = j;
      no_route = (λ e. go e (dec_lt largest_route route), λ l. ap (λ (w : Verdict). w.answer) (j.no_route l));
      accepted = (λ e. yes_or e (dec_lt largest_route route), λ x. fault x.0 ∙ sound_accepted x.1);
      fault = fault;
      own = own (dec_lt largest_route route);
      refusal = λ n. refusal n (dec_lt largest_route route) (ℕ_discrete (sheet_at sheet).answer done);
      names = λ e. of_sheet (λ t. NamesTheStuck t v) (λ t z x. x.names e) e;
      never = λ e. of_sheet (λ t. MeansNever t v) (λ t z x. x.never e) e;
    }
      where
        go : v.answer ≡ no_route → Dec (largest_route < route) → largest_route < route
        go e (yes l) = l
        go e (no l) = absurd (no_answer no_route refl (sym (fault (omega arith)) ∙ e))

        yes_or : v.answer ≡ done → Dec (largest_route < route) → (route ≤ largest_route) × SheetOfSound sheet
        yes_or e (yes l) = absurd (omega (arith, e, ap (λ (w : Verdict). w.answer) (j.no_route l)))
        yes_or e (no l) = (omega arith, accepted_sound (sym (fault (omega arith)) ∙ e))

        own : Dec (largest_route < route) → among v.answer (no_route ∷ sheet_answers) ≡ true
        own (yes l) = rw (ap (λ (w : Verdict). w.answer) (j.no_route l)) refl
        own (no l) = rw (fault (omega arith)) (later (eqb (sheet_at sheet).answer no_route) (holds_true _ (answers sheet bytes)))

        refusal : (v.answer ≡ done → ⊥) → Dec (largest_route < route) → Dec ((sheet_at sheet).answer ≡ done) → v ≡ nobody v.answer
        refusal n (yes l) d = let e = j.no_route l in e ∙ ap nobody (sym (ap (λ (w : Verdict). w.answer) e))
        refusal n (no l) (yes a) = absurd (n (fault (omega arith) ∙ a))
        refusal n (no l) (no a) = let e = j.refused (omega arith) a in e ∙ ap nobody (sym (ap (λ (w : Verdict). w.answer) e))

-- ---- the entry
-- "Longer strips keep the rest"
rest_kept : (v : Verdict) (before : List ℕ) → (v.answer ≡ done → length v.ring ≡ 32) → drop 38 (strip_after v before) ≡ drop 38 before
unfolding strip_after strip_of
rest_kept v before places = go (eqb v.answer done) refl
  where
    go : (b : Bool) → eqb v.answer done ≡ b → drop 38 (cond b ((head_of v ++ v.ring) ++ drop 38 before) before) ≡ drop 38 before
    go true e = drop_at (head_of v ++ v.ring) (drop 38 before) 38 (omega (arith, places (eqb-true v.answer done e)))
    go false e = refl

module _ (sheet : List ℕ) (bytes : Bytes sheet) (route : ℕ) (before after : List ℕ) (answer : ℕ) (x : Entered sheet route before after answer) where
  pub sheet_answered : SheetAnswered sheet route before after answer
  unfolding verdict_in
  sheet_answered = record {
    is = x;
    no_route = (λ e. no_such e (way sheet route before after answer x), λ l. (x.no_route l).0);
    short = (λ e. too_short e (way sheet route before after answer x), λ y. (x.short y.0 y.1).0);
    accepted = (λ e. good e (way sheet route before after answer x), λ y. fault y.0 y.1 ∙ sound_accepted sheet bytes y.2);
    fault = fault;
    own = holds_true _ (entry_answers_lem sheet bytes route before after answer x);
    strip = refused_kept sheet route before after answer x;
    rest = rest (way sheet route before after answer x);
    names = λ e. (sheet_verdict sheet bytes route (verdict_in after) (judged e)).names refl;
    never = λ e. (sheet_verdict sheet bytes route (verdict_in after) (judged e)).never refl;
    never_on = λ e t z s q. rw q (by_sheets t z s (verdict_in after) ((sheet_verdict sheet bytes route (verdict_in after) (judged e)).never refl t z s q));
  }
    where
      fault : route ≤ largest_route → 38 ≤ length before → answer ≡ (sheet_at sheet).answer
      fault l m = let y = x.judged l m in y.2 ∙ judged_answer sheet bytes route y.0 l y.1

      judged : answer ≡ done → VerdictOf sheet route (verdict_in after)
      judged e = entered_judged sheet route before after (subst (Entered sheet route before after) e x)

      no_such : answer ≡ no_route → Way sheet route before after answer → largest_route < route
      no_such e (route_unknown l a s) = l
      no_such e (short l m a s) = absurd (omega arith)
      no_such e (reached r) = absurd (no_answer sheet bytes no_route refl (sym (fault r.route_there r.long) ∙ e))

      too_short : answer ≡ short_strip → Way sheet route before after answer → (route ≤ largest_route) × (length before < 38)
      too_short e (route_unknown l a s) = absurd (omega arith)
      too_short e (short l m a s) = (l, m)
      too_short e (reached r) = absurd (no_answer sheet bytes short_strip refl (sym (fault r.route_there r.long) ∙ e))

      good : answer ≡ done → Way sheet route before after answer → (route ≤ largest_route) × (38 ≤ length before) × SheetOfSound sheet
      good e (route_unknown l a s) = absurd (omega arith)
      good e (short l m a s) = absurd (omega arith)
      good e (reached r) = (r.route_there, r.long, accepted_sound sheet bytes (sym (fault r.route_there r.long) ∙ e))

      rest : Way sheet route before after answer → drop 38 after ≡ drop 38 before
      rest (route_unknown l a s) = ap (drop 38) s
      rest (short l m a s) = ap (drop 38) s
      rest (reached r) = ap (drop 38) r.strip ∙ rest_kept r.verdict before (λ e. (sheet_fits sheet route r.verdict r.judged e).places)
