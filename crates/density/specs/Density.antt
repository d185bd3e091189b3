-- Document 02, M-101: how dense a table's graphs are, and whether its awaited events are fewer than its blocked tasks.
use Rattle.std.specs.Prelude.{ℕ, ◌<◌}
use Rattle.deadlock.specs.Waiting.{TaskEdge, EventEdge}
use Rattle.states.specs.Waiting.{Awaited}
use Rattle.hall.specs.Waiting.{BlockedOn, Impedes}
use Rattle.hall.specs.declared.table.Table.{Table}
use Rattle.density.specs.HowMany.{HowMany, Pairs}
use Rattle.density.specs.declared.density.Density.{Density}

-- a blocked task; an awaited event, also where every member has reached it
abbrev pub IsBlocked : Table → ℕ → Type 0
IsBlocked t k = (e : Awaited) × BlockedOn t k e

abbrev pub IsAwaited : Table → Awaited → Type 0
IsAwaited t e = (k : ℕ) × BlockedOn t k e

-- "nodes are the awaited events; an edge from e to f when some task impedes e and is blocked on f" (document 01): pairs of events, however many tasks
-- make one an edge
pub record EventGraphEdge (t : Table) (e f : Awaited) : Type 0 where
  pub awaited : IsAwaited t e
  pub edge : EventEdge (BlockedOn t) (Impedes t) e f

-- "The task-event graph has one edge per blocked task to its event, and one from an awaited event to each blocked task that impedes it"
pub data Node : Type 0 where
  task : ℕ → Node
  event : Awaited → Node

pub data TaskEventEdge (t : Table) : Node → Node → Type 0 where
  waits : (k : ℕ) (e : Awaited) → BlockedOn t k e → TaskEventEdge t (task k) (event e)
  impeded : (e : Awaited) (u : ℕ) → IsAwaited t e → IsBlocked t u → Impedes t u e → TaskEventEdge t (event e) (task u)

-- what is counted of a table
pub record DensityOf (t : Table) (d : Density) : Type 0 where
  -- "the blocked tasks, the distinct awaited events"
  pub blocked : HowMany (IsBlocked t) d.blocked
  pub events : HowMany (IsAwaited t) d.events
  -- "the edges of the task graph, of the event graph and of the task-event graph"
  pub task_edges : Pairs (TaskEdge (BlockedOn t) (Impedes t)) d.task_edges
  pub event_edges : Pairs (EventGraphEdge t) d.event_edges
  pub task_event_edges : Pairs (TaskEventEdge t) d.task_event_edges

-- "events where they are fewer than blocked tasks"
pub record FewerEvents (t : Table) : Type 0 where
  pub tasks : ℕ
  pub events : ℕ
  pub blocked : HowMany (IsBlocked t) tasks
  pub awaited : HowMany (IsAwaited t) events
  pub fewer : events < tasks
