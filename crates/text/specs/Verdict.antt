-- Document 01, 'The hall sheet': "`sheetverdict` .. prints `answer` and the number; if that is 0, a line `named` and a line `ring`, each with its task numbers
-- in the strip's order (named ones rising), one blank before each number."
use Rattle.std.specs.Prelude.{cond, List, [], ◌∷◌, ◌++◌, ℕ, zero, suc, eqb, take}
use Rattle.sets.specs.Set.{bit}
use Rattle.answers.specs.Answers.{done}
use Rattle.judge.specs.declared.verdict.Verdict.{Verdict}
use Rattle.text.specs.Text.{line}

-- `answer`, `named`, `ring`
abbrev pub answer_word : List ℕ
answer_word = 97 ∷ 110 ∷ 115 ∷ 119 ∷ 101 ∷ 114 ∷ []

abbrev pub named_word : List ℕ
named_word = 110 ∷ 97 ∷ 109 ∷ 101 ∷ 100 ∷ []

abbrev pub ring_word : List ℕ
ring_word = 114 ∷ 105 ∷ 110 ∷ 103 ∷ []

-- the task, if it is in the set m
abbrev pub task_in : ℕ → ℕ → List ℕ
task_in m task = cond (eqb (bit m task) 1) (task ∷ []) []

-- "named ones rising": the tasks below n that are in the set m
unfoldable pub tasks_in : ℕ → ℕ → List ℕ
tasks_in m zero = []
tasks_in m (suc n) = tasks_in m n ++ task_in m n

-- "prints `answer` and the number; if that is 0, a line `named` and a line `ring`": of the ring as many places as its length says
unfoldable pub verdict_text : Verdict → List ℕ
verdict_text v =
    line answer_word (v.answer ∷ [])
    ++ cond (eqb v.answer done) (line named_word (tasks_in v.named 32) ++ line ring_word (take v.length v.ring)) []
