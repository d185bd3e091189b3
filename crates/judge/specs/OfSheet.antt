-- The verdict of a sheet (document 01, 'The hall sheet').
use Rattle.std.specs.Prelude.{◌≡◌, List, ℕ, ◌<◌, ◌≤◌}
use Rattle.answers.specs.Answers.{done, no_route}
use Rattle.sheet.specs.Reader.{sheet_at}
use Rattle.judge.specs.Routes.{largest_route}
use Rattle.judge.specs.Verdict.{nobody, Judged}
use Rattle.judge.specs.declared.verdict.Verdict.{Verdict}

-- the verdict of a sheet: 41, then the reader's refusal, "on a refusal the verdict of nobody"; then the judge's verdict of the table that was read
pub record VerdictOf (sheet : List ℕ) (route : ℕ) (v : Verdict) : Type 0 where
  pub no_route : largest_route < route → v ≡ nobody no_route
  pub refused : route ≤ largest_route → ((sheet_at sheet).answer ≡ done → ⊥) → v ≡ nobody (sheet_at sheet).answer
  pub judged : route ≤ largest_route → (sheet_at sheet).answer ≡ done → Judged (sheet_at sheet).table route v
