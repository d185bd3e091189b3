-- The entry for a C++ host (document 01, 'The hall sheet').
use Rattle.std.specs.Prelude.{◌≡◌, List, ◌∷◌, ℕ, ◌<◌, ◌≤◌, length}
use Rattle.answers.specs.Answers.{no_route, short_strip}
use Rattle.judge.specs.OfSheet.{VerdictOf}
use Rattle.judge.specs.declared.verdict.Verdict.{Verdict}
use Rattle.judge.specs.Routes.{largest_route}
use Rattle.mollavisce.specs.Strip.{strip_after}
use Rattle.sheet.specs.Answers.{sheet_answers}

-- what the entry answers: 41, 40, or what the reader does
abbrev pub entry_answers : List ℕ
entry_answers = no_route ∷ short_strip ∷ sheet_answers

-- "The verdict entry takes a sheet, a route number and a strip .. Tests: 41, 40, then the sheet." The answer, and every byte of the strip after it
pub record Entered (sheet : List ℕ) (route : ℕ) (before after : List ℕ) (answer : ℕ) : Type 0 where
  pub no_route : largest_route < route → (answer ≡ no_route) × (after ≡ before)
  pub short : route ≤ largest_route → length before < 38 → (answer ≡ short_strip) × (after ≡ before)
  pub judged : route ≤ largest_route → 38 ≤ length before
      → (v : Verdict) × VerdictOf sheet route v × (answer ≡ v.answer) × (after ≡ strip_after v before)
