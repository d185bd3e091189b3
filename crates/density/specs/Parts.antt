-- What the parts of the code hand each other; nobody need believe this file.
use Rattle.std.specs.Prelude.{◌≡◌, List, ◌↔◌, ℕ, ◌≤◌, get_or}
use Rattle.sets.specs.Set.{Has, Least}
use Rattle.states.specs.Waiting.{Awaited}
use Rattle.hall.specs.Parts.{BlockedSet}
use Rattle.hall.specs.Waiting.{BlockedOn}
use Rattle.hall.specs.declared.table.Table.{Table}
use Rattle.density.specs.HowMany.{Pairs}
use Rattle.density.specs.declared.events.Events.{Events}

-- both await the same event
pub record Alike (t : Table) (k u : ℕ) : Type 0 where
  pub event : Awaited
  pub one : BlockedOn t k event
  pub other : BlockedOn t u event

-- two of some tasks await the same event
pub record AwaitedTwice (t : Table) (among : ℕ) : Type 0 where
  pub one : ℕ
  pub other : ℕ
  pub inside : Has among one
  pub inside_too : Has among other
  pub apart : one ≡ other → ⊥
  pub alike : Alike t one other

-- k is the lowest who awaits its event, and stands for it
pub record Stands (t : Table) (k : ℕ) : Type 0 where
  pub event : Awaited
  pub first : Least (λ u. BlockedOn t u event) k

-- the awaited events, each by the task that stands for it
pub record EventsOf (t : Table) (r : Events) : Type 0 where
  pub blocked : BlockedSet t r.blocked
  pub first : (k : ℕ) → Has r.first k ↔ Stands t k
  pub waiters : (k u : ℕ) → Has (get_or r.waiters k 0) u ↔ (Stands t k × Alike t k u)

-- of the events, those that some of the tasks await
pub record AwaitedBy (events : Events) (tasks r : ℕ) : Type 0 where
  pub iff : (k : ℕ) → Has r k ↔ (Has events.first k × ((u : ℕ) × Has (get_or events.waiters k 0) u × Has tasks u))

-- how many edges E has from those in the set
pub record Counts (set : ℕ) (E : ℕ → ℕ → Type 0) (n : ℕ) : Type 0 where
  pub many : Pairs (λ k u. Has set k × E k u) n
  pub small : n ≤ 1024

-- an edge between two events: some task that impedes the one awaits the other
pub record JoinedBy (events : Events) (impeders : List ℕ) (k u : ℕ) : Type 0 where
  pub awaited : Has events.first u
  pub task : ℕ
  pub waits : Has (get_or events.waiters u 0) task
  pub impedes : Has (get_or impeders k 0) task
