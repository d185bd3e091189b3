-- Document 01, 'Answer numbers': those that a reader answers.
use Rattle.std.specs.Prelude.{List, [], ◌∷◌, ℕ}
use Rattle.answers.specs.Answers.{done, ends_inside, needless_group, too_large, not_rising, unknown, bytes_after, not_open}

-- its refusals; and what it answers: 0, or one of them
abbrev pub sheet_refusals : List ℕ
sheet_refusals = ends_inside ∷ needless_group ∷ too_large ∷ not_rising ∷ unknown ∷ bytes_after ∷ not_open ∷ []

abbrev pub sheet_answers : List ℕ
sheet_answers = done ∷ sheet_refusals
