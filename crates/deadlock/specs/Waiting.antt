-- Who can never go on, over any waiting: `Blocked t e`, task t is blocked on event e; `Impedes u e`, task u impedes it
-- (source document 000, sections 2.3, 3 and 5; document 01, 'Stuck').
use Rattle.std.specs.Prelude.{ℕ}
use Rattle.deadlock.specs.Walk.{EndlessWalk}

module _ {Event : Type 0} (Blocked Impedes : ℕ → Event → Type 0) where
  -- "an edge from blocked t to blocked u when u impedes t's event"
  pub record TaskEdge (t u : ℕ) : Type 0 where
    pub event : Event
    pub waits : Blocked t event
    pub impedes : Impedes u event
    pub other : Event
    pub blocked : Blocked u other

  -- "an edge from e to f when some task impedes e and is blocked on f"
  pub record EventEdge (e f : Event) : Type 0 where
    pub task : ℕ
    pub impedes : Impedes task e
    pub blocked : Blocked task f

  -- task route: "tasks from which an endless walk exists"
  abbrev pub TaskNamed : ℕ → Type 0
  TaskNamed t = EndlessWalk TaskEdge t

  -- event route: "tasks whose event starts an endless walk"
  pub record EventNamed (t : ℕ) : Type 0 where
    pub event : Event
    pub waits : Blocked t event
    pub walk : EndlessWalk EventEdge event

  -- t is blocked, and its event "is impeded by some task of the set"
  pub record Held (S : ℕ → Type 0) (t : ℕ) : Type 0 where
    pub event : Event
    pub waits : Blocked t event
    pub by : ℕ
    pub inside : S by
    pub impedes : Impedes by event

  -- "totally deadlocked when it is not empty, each task in it is blocked, and each one's event is impeded by some task of the set"
  pub record TotallyDeadlocked (S : ℕ → Type 0) : Type 0 where
    pub member : ℕ
    pub some : S member
    pub each : (t : ℕ) → S t → Held S t

  -- "named when some totally deadlocked set holds it"
  pub record Stuck (t : ℕ) : Type 1 where
    pub set : ℕ → Type 0
    pub deadlocked : TotallyDeadlocked set
    pub holds : set t
