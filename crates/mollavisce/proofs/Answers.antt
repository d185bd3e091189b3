-- Which answers the entry gives to bytes. With a route and a strip it is the reader's: the table that was read is sound, and the ring walk always finds a task
-- to step to, so neither 44 nor 22 is among them.
use mathlib.Core.Path.{◌≡◌, refl, ap, sym, ◌∙◌}
use mathlib.Core.Bool.{Bool, true, false, ◌||◌}
use mathlib.Core.List.{List}
use Prim.Native.Nat.{ℕ, ◌≤◌}
use native.Mathlib.Decide.{ℕ_discrete}
use lib.Dec.{T, eqb}
use Rattle.answers.specs.Answers.{done, among, no_route, short_strip}
use Rattle.hall.proofs.Soundness.{sound_iff}
use Rattle.judge.specs.declared.verdict.Verdict.{Verdict}
use Rattle.judge.proofs.Answers.{answer_0}
use Rattle.sheet.specs.Reader.{sheet_at}
use Rattle.sheet.proofs.Numbers.{Bytes}
use Rattle.sheet.proofs.Theorems.{accepts, answers}
use Rattle.judge.specs.Routes.{largest_route}
use Rattle.mollavisce.specs.Entry.{Entered, entry_answers}
use Rattle.judge.specs.OfSheet.{VerdictOf}
use Rattle.mollavisce.proofs.Entered.{Way, route_unknown, short, reached, way}

module _ (sheet : List ℕ) (bytes : Bytes sheet) (route : ℕ) where
  pub judged_answer : (v : Verdict) → route ≤ largest_route → VerdictOf sheet route v → v.answer ≡ (sheet_at sheet).answer
  judged_answer v l j = go (ℕ_discrete (sheet_at sheet).answer done)
    where
      go : Dec ((sheet_at sheet).answer ≡ done) → v.answer ≡ (sheet_at sheet).answer
      go (yes a) =
          let t = (sheet_at sheet).table in
          let s = ((accepts sheet bytes t).0 (a, refl)).0 in
          (answer_0 t route v (j.judged l a)).1 (l, (sound_iff t).1 s) ∙ sym a
      go (no a) = ap (λ (w : Verdict). w.answer) (j.refused l a)

  module _ (before after : List ℕ) (answer : ℕ) (x : Entered sheet route before after answer) where
    pub entry_answers_lem : T (among answer entry_answers)
    entry_answers_lem = go (way sheet route before after answer x)
      where
        more : (a b c : Bool) → T c → T (a || (b || c))
        more true b c h = tt
        more false true c h = tt
        more false false c h = h

        go : Way sheet route before after answer → T (among answer entry_answers)
        go (route_unknown l a s) = rw a tt
        go (short l m a s) = rw a tt
        go (reached r) =
            rw (r.answers ∙ judged_answer r.verdict r.route_there r.judged)
            (more (eqb (sheet_at sheet).answer no_route) (eqb (sheet_at sheet).answer short_strip) _ (answers sheet bytes))
