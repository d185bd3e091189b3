-- What is found in the table that was read is the verdict of its sheet: an accepted sheet's table is sound.
use mathlib.Core.Path.{◌≡◌, sym, ap, ◌∙◌, subst}
use mathlib.Core.Bool.{true}
use mathlib.Core.List.{List}
use Prim.Native.Nat.{ℕ, ◌≤◌}
use native.Mathlib.Omega.{arith}
use Rattle.answers.specs.Answers.{done}
use Rattle.hall.specs.Parts.{sound_of}
use Rattle.hall.specs.declared.table.Table.{Table}
use Rattle.hall.proofs.Soundness.{sound_iff}
use Rattle.sheet.specs.Reader.{Sheet, hands, sheet_at}
use Rattle.sheet.proofs.Numbers.{Bytes}
use Rattle.sheet.proofs.Theorems.{accepts}
use Rattle.states.proofs.Truth.{clash}
use Rattle.judge.specs.OfSheet.{VerdictOf}
use Rattle.judge.specs.Routes.{largest_route}
use Rattle.judge.specs.Verdict.{nobody, Found}
use Rattle.judge.specs.declared.verdict.Verdict.{Verdict}

module _ (sheet : List ℕ) (bytes : Bytes sheet) (t : Table) (refusal : ℕ) (read : hands refusal t ≡ sheet_at sheet) where
  -- what was read, and what the sheet says
  answer : (sheet_at sheet).answer ≡ refusal
  answer = ap (λ (s : Sheet). s.answer) (sym read)

  table : (sheet_at sheet).table ≡ t
  table = ap (λ (s : Sheet). s.table) (sym read)

  sound : (sheet_at sheet).answer ≡ done → sound_of t ≡ true
  sound e = (sound_iff t).1 ((accepts sheet bytes t).0 (e, table)).0

  pub verdict_read : (route : ℕ) (v : Verdict) → route ≤ largest_route → ((refusal ≡ done → ⊥) → v ≡ nobody refusal) → (refusal ≡ done → Found t route v)
      → VerdictOf sheet route v
  verdict_read route v l refused found = record {
    no_route = λ n. absurd (omega arith);
    refused = λ _ n. refused (λ e. n (answer ∙ e)) ∙ ap nobody (sym answer);
    judged = λ _ e. record {
      no_route = λ n. absurd (omega arith);
      unsound = λ _ u. absurd (clash (sound e) (ap sound_of (sym table) ∙ u));
      found = λ _ _. subst (λ u. Found u route v) (sym table) (found (sym answer ∙ e));
    };
  }
