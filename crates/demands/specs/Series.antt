-- Document 00, demand 3: "A blocked task is among them exactly when no series of accepted calls, however long and by whichever tasks, could ever contain an
-- accepted release of it."
use Rattle.std.specs.Prelude.{◌≡◌, ◌⊎◌, List, [], ◌∷◌, ◌++◌, ℕ, ◌<◌, take}
use Rattle.sets.specs.Set.{Has}
use Rattle.deadlock.specs.Waiting.{TotallyDeadlocked}
use Rattle.hall.specs.Calls.{call, call_of}
use Rattle.hall.specs.Waiting.{BlockedOn, Impedes}
use Rattle.hall.specs.declared.calls.Call.{Call}
use Rattle.hall.specs.declared.table.Table.{Table}
use Rattle.writer.specs.Next.{HandedOver}
use Rattle.sheet_call.specs.Call.{sheet_call_of}

-- "A task is named when some totally deadlocked set holds it" (document 01, 'Stuck'). A set of tasks is a number, bit k for task k; a law has the same of any
-- predicate on tasks in its place
pub record StuckIn (t : Table) (k : ℕ) : Type 0 where
  pub set : ℕ
  pub deadlocked : TotallyDeadlocked (BlockedOn t) (Impedes t) (Has set)
  pub holds : Has set k

-- "An accepted call is one answered below 10" (document 01)
abbrev pub Accepted : Table → Call → Type 0
Accepted t c = (call_of t c).answer < 10

-- "series of accepted calls, however long and by whichever tasks": each is accepted in the table that those before it left
abbrev pub Series : Table → List Call → Type 0
Series t [] = Unit {0}
Series t (c ∷ calls) = Accepted t c × Series (call_of t c).table calls

-- the table that calls leave, accepted or refused
abbrev pub after : Table → List Call → Table
after t [] = t
after t (c ∷ calls) = after (call_of t c).table calls

-- a release of task k: kind 9
pub record Releases (k : ℕ) (c : Call) : Type 0 where
  pub kind : c.kind ≡ 9
  pub task : c.task ≡ k

-- the calls contain one
abbrev pub Contains : ℕ → List Call → Type 0
Contains k [] = ⊥
Contains k (c ∷ calls) = Releases k c ⊎ Contains k calls

-- "no series of accepted calls .. could ever contain an accepted release of it"
abbrev pub Never : Table → ℕ → Type 0
Never t k = (calls : List Call) → Series t calls → Contains k calls → ⊥

-- "a task left off the list must have a way to go on": a series that ends in its release
abbrev pub release : ℕ → Call
release k = call 9 k 0 0

pub record WayOn (t : Table) (k : ℕ) : Type 0 where
  pub calls : List Call
  pub series : Series t (calls ++ (release k ∷ []))

-- ---- the same as a C++ host makes it, by `sheet_call`s: a call, and the buffer that is lent for the next sheet
pub record SheetStep : Type 0 where
  pub call : Call
  pub next : List ℕ

abbrev pub handed_by : List ℕ → SheetStep → HandedOver
handed_by sheet s = sheet_call_of sheet s.call s.next

-- the sheet that an accepted call leaves
abbrev pub sheet_left : HandedOver → List ℕ
sheet_left h = take h.length h.next

-- each is accepted on the sheet that those before it left
abbrev pub SheetSeries : List ℕ → List SheetStep → Type 0
SheetSeries sheet [] = Unit {0}
SheetSeries sheet (s ∷ steps) = ((handed_by sheet s).answer < 10) × SheetSeries (sheet_left (handed_by sheet s)) steps

abbrev pub calls_of : List SheetStep → List Call
calls_of [] = []
calls_of (s ∷ steps) = s.call ∷ calls_of steps

-- no series of accepted `sheet_call`s contains a release of task k
abbrev pub NeverOn : List ℕ → ℕ → Type 0
NeverOn sheet k = (steps : List SheetStep) → SheetSeries sheet steps → Contains k (calls_of steps) → ⊥

-- one ends in it
pub record WayOnFrom (sheet : List ℕ) (k : ℕ) : Type 0 where
  pub steps : List SheetStep
  pub next : List ℕ
  pub series : SheetSeries sheet (steps ++ (record { call = release k; next = next } ∷ []))
