-- Document 02, M-101, "How dense are our graphs": the customer's sentences, of a table's density, and of each step of a run over a file of sheets.
use Rattle.std.specs.Prelude.{◌≡◌, true, false, List, [], ◌∷◌, ◌++◌, ◌↔◌, ℕ, ◌+◌, ◌≤◌, ◌<◌, length, take, drop}
use Rattle.hall.specs.declared.table.Table.{Table}
use Rattle.density.specs.Density.{DensityOf, FewerEvents}
use Rattle.density.specs.declared.density.Density.{Density}
use Rattle.sheet_file.specs.Counted.{CountedOf}
use Rattle.sheet_file.specs.File.{bytes_from, Ending, whole, stopped_by, CutInto}
use Rattle.sheet_file.specs.Piece.{piece_of}
use Rattle.sheet_file.specs.Totals.{done_of, totals_with, exact_totals}
use Rattle.sheet_file.specs.declared.counted.Counted.{Counted}
use Rattle.sheet_file.specs.declared.piece.Piece.{Piece}
use Rattle.sheet_file.specs.declared.piece.Piece.TheVariants.{Sheet, Stopped, Ended}
use Rattle.sheet_file.specs.declared.totals.Totals.{Totals}
use Rattle.text.specs.Density.{sheet_line, total_line, stopped_line}
use Rattle.text.specs.Text.{text_with}
use Rattle.text.specs.declared.text.Text.{Text}
use Rattle.demands.specs.declared.densities.Step.{Step}

-- a table, and what was counted: "the blocked tasks, the distinct awaited events, the edges of the task graph, of the event graph and of the task-event graph"
pub record TableCounted (t : Table) (d : Density) : Type 0 where
  pub is : DensityOf t d
  -- "A third route, 2, uses events where they are fewer than blocked tasks": so the counts tell which way it goes
  pub fewer : FewerEvents t ↔ (d.events < d.blocked)

-- what is printed is this line, whole
pub record LinePrinted (line : List ℕ) (text : Text) : Type 0 where
  pub is : text ≡ text_with line
  pub whole : take text.length text.bytes ≡ line

-- the last step of a run, with the totals before it
pub record LastStep (line : List ℕ) (before : Totals) (s : Step) : Type 0 where
  pub prints : LinePrinted line s.text
  pub totals : s.totals ≡ before
  pub taken : s.taken ≡ 0
  pub ended : s.ended ≡ true

-- a step over a sheet, which ends before the byte `to`: "prints per sheet ..", "A refused sheet prints its number and adds only to a total of refused ones"
pub record SheetStep (sheet : List ℕ) (before : Totals) (to : ℕ) (s : Step) : Type 0 where
  pub counted : Counted
  pub counts : CountedOf sheet counted
  pub prints : LinePrinted (sheet_line (done_of before + 1) counted) s.text
  pub totals : s.totals ≡ totals_with before counted
  pub taken : s.taken ≡ to
  pub ended : s.ended ≡ false

-- by what comes next
abbrev pub StepBy : List ℕ → Totals → Step → Piece → Type 0
-- the file's end: "then exact totals"
StepBy bytes before s Ended = LastStep (total_line before) before s
-- "stops the run with that number in place of the totals"
StepBy bytes before s (Stopped n) = LastStep (stopped_line n) before s
-- one of "up to 1,000 sheets, each after its length as a house number"
StepBy bytes before s (Sheet from to) = SheetStep (bytes_from bytes from to) before to s

-- a file from here on, the totals before, and a step
pub record StepTaken (bytes : List ℕ) (before : Totals) (s : Step) : Type 0 where
  pub is : StepBy bytes before s (piece_of bytes (done_of before))
  pub within : s.taken ≤ length bytes

-- ---- a run over a whole file: step by step, each on the bytes that the one before it left, up to the last
pub data Run : List ℕ → Totals → List Step → Type 0 where
  last : {bytes : List ℕ} {before : Totals} (s : Step) → StepTaken bytes before s → s.ended ≡ true → Run bytes before (s ∷ [])
  on : {bytes : List ℕ} {before : Totals} (s : Step) {more : List Step} → StepTaken bytes before s → s.ended ≡ false
      → Run (drop s.taken bytes) s.totals more → Run bytes before (s ∷ more)

-- what a run writes, step by step
abbrev pub written : List Step → List (List ℕ)
written [] = []
written (s ∷ more) = take s.text.length s.text.bytes ∷ written more

-- the line of each sheet; the last line
abbrev pub sheet_lines : ℕ → List Counted → List (List ℕ)
sheet_lines nth [] = []
sheet_lines nth (c ∷ more) = sheet_line nth c ∷ sheet_lines (nth + 1) more

abbrev pub last_line : Ending → Totals → List ℕ
last_line whole totals = total_line totals
last_line (stopped_by n) totals = stopped_line n

-- of each sheet what is counted of it
pub data EachCounted : List (List ℕ) → List Counted → Type 0 where
  none : EachCounted [] []
  and : {sheet : List ℕ} {c : Counted} {sheets : List (List ℕ)} {more : List Counted} → CountedOf sheet c → EachCounted sheets more
      → EachCounted (sheet ∷ sheets) (c ∷ more)

-- "a program over a file of up to 1,000 sheets .. that prints per sheet .., then exact totals"
pub record FilePrinted (file : List ℕ) (steps : List Step) : Type 0 where
  pub sheets : List (List ℕ)
  pub ending : Ending
  pub cut : CutInto file 0 sheets ending
  pub counted : List Counted
  pub counts : EachCounted sheets counted
  pub lines : written steps ≡ sheet_lines 1 counted ++ (last_line ending (exact_totals counted) ∷ [])
