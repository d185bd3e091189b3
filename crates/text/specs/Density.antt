-- Document 02, M-101: what is printed of a file of sheets. "prints per sheet the blocked tasks, the distinct awaited events, the edges of the task graph, of
-- the event graph and of the task-event graph, then exact totals"; the words are ours, with one blank between words:
--     sheet 1 blocked 2 events 2 task 2 event 2 task-event 4
--     sheet 2 refused 30
--     total sheets 1 refused 1 blocked 2 events 2 task 2 event 2 task-event 4
-- "stops the run with that number in place of the totals":
--     stopped 35
use Rattle.std.specs.Prelude.{cond, List, [], ◌∷◌, ◌++◌, ℕ, eqb}
use Rattle.answers.specs.Answers.{done}
use Rattle.density.specs.declared.density.Density.{Density}
use Rattle.sheet_file.specs.declared.counted.Counted.{Counted}
use Rattle.sheet_file.specs.declared.totals.Totals.{Totals}
use Rattle.text.specs.Text.{numbered, line}

-- `sheet`, `refused`, `blocked`, `events`, `task`, `event`, `task-event`, `total`, `sheets`, `stopped`
abbrev pub sheet_word : List ℕ
sheet_word = 115 ∷ 104 ∷ 101 ∷ 101 ∷ 116 ∷ []

abbrev pub refused_word : List ℕ
refused_word = 114 ∷ 101 ∷ 102 ∷ 117 ∷ 115 ∷ 101 ∷ 100 ∷ []

abbrev pub blocked_word : List ℕ
blocked_word = 98 ∷ 108 ∷ 111 ∷ 99 ∷ 107 ∷ 101 ∷ 100 ∷ []

abbrev pub events_word : List ℕ
events_word = 101 ∷ 118 ∷ 101 ∷ 110 ∷ 116 ∷ 115 ∷ []

abbrev pub task_word : List ℕ
task_word = 116 ∷ 97 ∷ 115 ∷ 107 ∷ []

abbrev pub event_word : List ℕ
event_word = 101 ∷ 118 ∷ 101 ∷ 110 ∷ 116 ∷ []

abbrev pub task_event_word : List ℕ
task_event_word = 116 ∷ 97 ∷ 115 ∷ 107 ∷ 45 ∷ 101 ∷ 118 ∷ 101 ∷ 110 ∷ 116 ∷ []

abbrev pub total_word : List ℕ
total_word = 116 ∷ 111 ∷ 116 ∷ 97 ∷ 108 ∷ []

abbrev pub sheets_word : List ℕ
sheets_word = 115 ∷ 104 ∷ 101 ∷ 101 ∷ 116 ∷ 115 ∷ []

abbrev pub stopped_word : List ℕ
stopped_word = 115 ∷ 116 ∷ 111 ∷ 112 ∷ 112 ∷ 101 ∷ 100 ∷ []

-- a word after a blank, and its number
unfoldable pub worded : List ℕ → ℕ → List ℕ
worded word n = (32 ∷ word) ++ numbered (n ∷ [])

-- the five counts, in their order
unfoldable pub density_words : Density → List ℕ
density_words d =
    worded blocked_word d.blocked
    ++ (worded events_word d.events
    ++ (worded task_word d.task_edges ++ (worded event_word d.event_edges ++ worded task_event_word d.task_event_edges)))

-- a sheet's line, by its place in the file: "A refused sheet prints its number"
unfoldable pub sheet_line : ℕ → Counted → List ℕ
sheet_line nth c =
    (sheet_word ++ numbered (nth ∷ []))
    ++ (cond (eqb c.answer done) (density_words c.density) (worded refused_word c.answer) ++ (10 ∷ []))

-- the last line: of the accepted sheets, and how many were refused
unfoldable pub total_line : Totals → List ℕ
total_line t = total_word ++ (worded sheets_word t.sheets ++ (worded refused_word t.refused ++ (density_words t.density ++ (10 ∷ []))))

-- the last line of a run that was stopped
unfoldable pub stopped_line : ℕ → List ℕ
stopped_line n = line stopped_word (n ∷ [])
