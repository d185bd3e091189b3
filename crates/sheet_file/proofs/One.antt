-- What is counted of a sheet is one thing, and small.
use Rattle.std.proofs.Common.{◌≡◌, ℕ, List, sym, ◌∙◌, arith}
use native.Mathlib.Decide.{ℕ_discrete}
use Rattle.answers.specs.Answers.{done}
use Rattle.density.proofs.Decided.{Small, density_one, density_small}
use Rattle.sheet.specs.Reader.{sheet_at}
use Rattle.sheet_file.specs.Counted.{CountedOf}
use Rattle.sheet_file.specs.declared.counted.Counted.{Counted}

module _ (sheet : List ℕ) where
  pub counted_one : (c d : Counted) → CountedOf sheet c → CountedOf sheet d → c ≡ d
  counted_one c d x y = λ i. record { answer = answers i; density = densities (ℕ_discrete c.answer done) i }
    where
      answers : c.answer ≡ d.answer
      answers = x.answer ∙ sym y.answer

      densities : Dec (c.answer ≡ done) → c.density ≡ d.density
      densities (yes e) = density_one (sheet_at sheet).table c.density d.density (x.density e) (y.density (sym answers ∙ e))
      densities (no n) = x.none n ∙ sym (y.none (λ e. n (answers ∙ e)))

  pub counted_small : (c : Counted) → CountedOf sheet c → Small c.density
  counted_small c x = go (ℕ_discrete c.answer done)
    where
      go : Dec (c.answer ≡ done) → Small c.density
      go (yes e) = density_small (sheet_at sheet).table c.density (x.density e)
      go (no n) = rw (x.none n) (record {
        blocked = omega arith;
        events = omega arith;
        task_edges = omega arith;
        event_edges = omega arith;
        task_event_edges = omega arith;
      })
