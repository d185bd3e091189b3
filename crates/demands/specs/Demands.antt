-- Document 00: "Three things must hold before I peel that off the exercise dial." The functions of this crate hand on what the public functions below
-- them hand back, and promise these records of it, a field a sentence: so each is about what the code does, and would fail if the code promised less.
use Rattle.std.specs.Prelude.{◌≡◌, ◌↔◌, true, Some, List, [], ◌∷◌, ℕ, ◌<◌, ◌≤◌, length, drop, take}
use Rattle.sets.specs.Set.{Has, size}
use Rattle.deadlock.specs.Ring.{RingIn}
use Rattle.answers.specs.Answers.{done, no_kind, not_sound as table_unsound, among, no_route as no_such_route, short_strip, short_buffer}
use Rattle.hall.specs.Answers.{answers_of}
use Rattle.hall.specs.Rules.{PhaserMap}
use Rattle.hall.specs.Sound.{Sound}
use Rattle.hall.specs.Table.{Shaped, fresh_table}
use Rattle.hall.specs.Waiting.{BlockedOn, ImpedesTask}
use Rattle.hall.specs.declared.calls.Called.{Called}
use Rattle.states.specs.Waiting.{Awaited}
use Rattle.hall.specs.declared.table.Table.{Table}
use Rattle.judge.specs.Verdict.{nobody, Judged}
use Rattle.judge.specs.Routes.{largest_route}
use Rattle.judge.specs.declared.verdict.Verdict.{Verdict}
use Rattle.text.specs.Text.{text_with}
use Rattle.text.specs.Verdict.{verdict_text}
use Rattle.text.specs.declared.text.Text.{Text}
use Rattle.sheet.specs.Answers.{sheet_answers}
use Rattle.fields.specs.Figures.{longest_sheet, settling_bytes}
use Rattle.sheet.specs.Reader.{hands, sheet_at}
use Rattle.sheet.specs.Written.{sheet_of}
use Rattle.writer.specs.Writer.{wrote, laid_on, write_of}
use Rattle.mollavisce.specs.Entry.{entry_answers, Entered}
use Rattle.judge.specs.OfSheet.{VerdictOf}
use Rattle.mollavisce.specs.Strip.{verdict_in}
use Rattle.demands.specs.PhaserDeadlocks.{TaskMap, StandsFor, DeadlockedWith}
use Rattle.demands.specs.Series.{StuckIn, Never, WayOn, NeverOn, WayOnFrom}
use Rattle.hall.specs.declared.calls.Call.{Call}
use Rattle.hall.specs.Calls.{kind_count, call_of}

-- the bytes are the sheet of some sound table
pub record SheetOfSound (sheet : List ℕ) : Type 0 where
  pub table : Table
  pub shaped : Shaped table
  pub sound : Sound table
  pub is : sheet ≡ sheet_of table

-- ---- 1. "Every call and every status sheet, with numbers of any size in it, is answered without a fault and without leaning on the caller's care. A
-- refusal gives its own number and a value of 0, the table stays as it stood, and not one byte of the lent answer strip moves."
-- document 01's table of calls: the kinds that use their task, their phaser, their other number
abbrev pub task_users : List ℕ
task_users = 1 ∷ 2 ∷ 4 ∷ 5 ∷ 6 ∷ 7 ∷ 8 ∷ 9 ∷ []

abbrev pub phaser_users : List ℕ
phaser_users = 3 ∷ 4 ∷ 5 ∷ 6 ∷ 7 ∷ 8 ∷ []

abbrev pub other_users : List ℕ
other_users = 4 ∷ 8 ∷ []

-- two calls of a kind with the same numbers where it uses them
pub record SameUsed (c d : Call) : Type 0 where
  pub kind : d.kind ≡ c.kind
  pub task : among c.kind task_users ≡ true → d.task ≡ c.task
  pub phaser : among c.kind phaser_users ≡ true → d.phaser ≡ c.phaser
  pub other : among c.kind other_users ≡ true → d.other ≡ c.other

-- a call c on a table t, and what was handed back
pub record CallAnswered (t : Table) (c : Call) (r : Called) : Type 0 where
  -- it is the row of document 01's table: so a series of calls (`Series`) is one of what the code hands back
  pub is : r ≡ call_of t c
  -- "its own number": 42 exactly where there is no such kind; 44 exactly where there is one and the table is not sound; else a number of the kind's row
  pub no_kind : (r.answer ≡ no_kind) ↔ (kind_count ≤ c.kind)
  pub not_sound : (r.answer ≡ table_unsound) ↔ ((c.kind < kind_count) × (Sound t → ⊥))
  pub own : c.kind < kind_count → Sound t → among r.answer (answers_of c.kind) ≡ true
  -- "and a value of 0, the table stays as it stood"
  pub refusal : 10 ≤ r.answer → (r.value ≡ 0) × (r.table ≡ t)
  -- "No call makes a sound table unsound." (document 01)
  pub sound : Sound t → Sound r.table
  -- "Numbers that a kind doesn't use are not looked at." (document 01)
  pub unused : (d : Call) → SameUsed c d → call_of t d ≡ r

-- a sheet, and the reader's answer and table
pub record SheetRead (sheet : List ℕ) (answer : ℕ) (t : Table) : Type 0 where
  -- "The first fault in byte order decides" (document 01): it is what the fields of the sheet say
  pub is : hands answer t ≡ sheet_at sheet
  -- "its own number": it accepts exactly the sheets of sound tables, and hands back that table; else one of 30 to 36
  pub accepted : (u : Table) → ((answer ≡ done) × (t ≡ u)) ↔ (Sound u × Shaped u × (sheet ≡ sheet_of u))
  pub own : among answer sheet_answers ≡ true
  -- "A sheet reader that refuses hands back a fresh table." (document 01)
  pub fresh : (answer ≡ done → ⊥) → t ≡ fresh_table
  -- "The longest sheet has 2,291 bytes. So reading 2,292 settles any input." (document 01)
  pub longest : answer ≡ done → length sheet ≤ longest_sheet
  pub settled : hands answer t ≡ sheet_at (take settling_bytes sheet)

-- a table and a buffer, and the writer's answer, its value and the buffer after it (document 02, M-100)
pub record TableWritten (t : Table) (before : List ℕ) (answer value : ℕ) (after : List ℕ) : Type 0 where
  pub is : wrote answer value after ≡ write_of t before
  -- "its own number": "44 as in 01, then 43 if the buffer is shorter than the sheet"
  pub not_sound : (answer ≡ table_unsound) ↔ (Sound t → ⊥)
  pub short : (answer ≡ short_buffer) ↔ (Sound t × (length before < length (sheet_of t)))
  pub accepted : (answer ≡ done) ↔ (Sound t × (length (sheet_of t) ≤ length before))
  -- "and a value of 0 .. and not one byte .. moves"
  pub refusal : (answer ≡ done → ⊥) → (value ≡ 0) × (after ≡ before)
  -- "any sound table as a hall sheet ..; the value is its length", "Bytes after the sheet stay as they were."
  pub sheet : answer ≡ done → (value ≡ length (sheet_of t)) × (take value after ≡ sheet_of t)
  pub rest : drop value after ≡ drop value before
  -- "Reading a written sheet gives the same table"
  pub read_back : answer ≡ done → sheet_at (take value after) ≡ hands done t
  -- "The longest sheet has 2,291 bytes" (document 01): so many are enough for any
  pub enough : longest_sheet ≤ length before → answer ≡ short_buffer → ⊥

-- a sheet that is read and its table written: "writing a table read from an accepted sheet gives the same bytes"
pub record SheetRewritten (sheet before : List ℕ) (answer value : ℕ) (after : List ℕ) : Type 0 where
  pub fault : ((sheet_at sheet).answer ≡ done → ⊥) → wrote answer value after ≡ wrote (sheet_at sheet).answer 0 before
  pub short : (sheet_at sheet).answer ≡ done → length before < length sheet → wrote answer value after ≡ wrote short_buffer 0 before
  pub same : (sheet_at sheet).answer ≡ done → length sheet ≤ length before
      → wrote answer value after ≡ wrote done (length sheet) (laid_on sheet before)

-- ---- 2. "A task is named stuck exactly when it belongs to some totally deadlocked set, as source document 000 defines that for phasers."
-- a table, and a verdict on it with answer 0
pub record NamesTheStuck (t : Table) (v : Verdict) : Type 0 where
  pub named : (k : ℕ) → Has v.named k ↔ StuckIn t k
  -- "as source document 000 defines that": in every state of the paper's that the table stands for, and it stands for one
  pub paper : (M : PhaserMap) (T : TaskMap) → StandsFor t M T → (k : ℕ) → Has v.named k ↔ DeadlockedWith M T k
  pub stands : (M : PhaserMap) × (T : TaskMap) × StandsFor t M T
  -- "The count is the number of set bits in the mask", and the ring is the named tasks' (document 01)
  pub count : v.count ≡ size v.named 32
  pub ring : RingIn (Has v.named) (ImpedesTask t) (Some (record { length = v.length; tasks = v.ring }))

-- ---- 3. "A blocked task is among them exactly when no series of accepted calls, however long and by whichever tasks, could ever contain an accepted
-- release of it."
pub record MeansNever (t : Table) (v : Verdict) : Type 0 where
  pub never : (k : ℕ) (e : Awaited) → BlockedOn t k e → Has v.named k ↔ Never t k
  -- "a task left off the list must have a way to go on"
  pub way_on : (k : ℕ) (e : Awaited) → BlockedOn t k e → (Has v.named k → ⊥) → WayOn t k

-- the same of the sheet of that table, where the calls are a C++ host's `sheet_call`s, each on the sheet that those before it left
pub record MeansNeverOn (sheet : List ℕ) (t : Table) (v : Verdict) : Type 0 where
  pub never : (k : ℕ) (e : Awaited) → BlockedOn t k e → Has v.named k ↔ NeverOn sheet k
  pub way_on : (k : ℕ) (e : Awaited) → BlockedOn t k e → (Has v.named k → ⊥) → WayOnFrom sheet k

-- "In every sound table the task-to-task route and the event-to-event route name the same tasks": as the two routes hand them back
pub record RoutesAgree (t : Table) (tasks events : ℕ) : Type 0 where
  pub same : tasks ≡ events
  pub stuck : (k : ℕ) → Has tasks k ↔ StuckIn t k

-- ---- what the three say of each verdict that is handed back
-- the judge's, of a table by a route: "A judge over a table tests 41, then 44; .. on a refusal the verdict of nobody." (document 01)
pub record TableJudged (t : Table) (route : ℕ) (v : Verdict) : Type 0 where
  pub is : Judged t route v
  pub no_route : (v.answer ≡ no_such_route) ↔ (largest_route < route)
  pub not_sound : (v.answer ≡ table_unsound) ↔ ((route ≤ largest_route) × (Sound t → ⊥))
  pub accepted : (v.answer ≡ done) ↔ ((route ≤ largest_route) × Sound t)
  pub own : among v.answer (done ∷ no_such_route ∷ table_unsound ∷ []) ≡ true
  pub refusal : (v.answer ≡ done → ⊥) → v ≡ nobody v.answer
  pub names : v.answer ≡ done → NamesTheStuck t v
  pub never : v.answer ≡ done → MeansNever t v

-- of the table whose sheet the bytes are
abbrev pub OfSheet : List ℕ → (Table → Type 0) → Type 0
OfSheet sheet P = (t : Table) → Shaped t → Sound t → sheet ≡ sheet_of t → P t

-- a sheet's, by a route: 41, then the sheet's own fault
pub record SheetVerdict (sheet : List ℕ) (route : ℕ) (v : Verdict) : Type 0 where
  pub is : VerdictOf sheet route v
  pub no_route : (v.answer ≡ no_such_route) ↔ (largest_route < route)
  pub accepted : (v.answer ≡ done) ↔ ((route ≤ largest_route) × SheetOfSound sheet)
  pub fault : route ≤ largest_route → v.answer ≡ (sheet_at sheet).answer
  pub own : among v.answer (no_such_route ∷ sheet_answers) ≡ true
  pub refusal : (v.answer ≡ done → ⊥) → v ≡ nobody v.answer
  pub names : v.answer ≡ done → OfSheet sheet (λ t. NamesTheStuck t v)
  pub never : v.answer ≡ done → OfSheet sheet (λ t. MeansNever t v)

-- the entry's, of a sheet by a route, as it stands in the strip: "Tests: 41, 40, then the sheet." (document 01)
pub record SheetAnswered (sheet : List ℕ) (route : ℕ) (before after : List ℕ) (answer : ℕ) : Type 0 where
  pub is : Entered sheet route before after answer
  pub no_route : (answer ≡ no_such_route) ↔ (largest_route < route)
  pub short : (answer ≡ short_strip) ↔ ((route ≤ largest_route) × (length before < 38))
  pub accepted : (answer ≡ done) ↔ ((route ≤ largest_route) × (38 ≤ length before) × SheetOfSound sheet)
  pub fault : route ≤ largest_route → 38 ≤ length before → answer ≡ (sheet_at sheet).answer
  pub own : among answer entry_answers ≡ true
  -- "not one byte of the lent answer strip moves"; "Longer strips keep the rest." (document 01)
  pub strip : (answer ≡ done → ⊥) → after ≡ before
  pub rest : drop 38 after ≡ drop 38 before
  pub names : answer ≡ done → OfSheet sheet (λ t. NamesTheStuck t (verdict_in after))
  pub never : answer ≡ done → OfSheet sheet (λ t. MeansNever t (verdict_in after))
  pub never_on : answer ≡ done → OfSheet sheet (λ t. MeansNeverOn sheet t (verdict_in after))

-- "`sheetverdict` reads a sheet from standard input, judges by route 0 and prints" (document 01): the lines of that verdict, whole
pub record SheetPrinted (sheet : List ℕ) (text : Text) : Type 0 where
  pub verdict : Verdict
  pub judged : SheetVerdict sheet 0 verdict
  pub is : text ≡ text_with (verdict_text verdict)
  pub whole : take text.length text.bytes ≡ verdict_text verdict
