-- Document 01, 'Stuck': the two routes over a table; document 02, M-101: the third, which goes by one of them.
use Rattle.std.specs.Prelude.{◌↔◌, ℕ}
use Rattle.sets.specs.Set.{Has}
use Rattle.deadlock.specs.Waiting.{TaskNamed, EventNamed}
use Rattle.hall.specs.Waiting.{BlockedOn, Impedes}
use Rattle.hall.specs.declared.table.Table.{Table}
use Rattle.density.specs.Density.{FewerEvents}

-- "Refusals: 41 from now on for routes over 2." (document 02, M-101)
abbrev pub largest_route : ℕ
largest_route = 2

-- "Task route (0): an edge from blocked t to blocked u when u impedes t's event. Named: tasks from which an endless walk exists."
pub record TaskRoute (t : Table) (named : ℕ) : Type 0 where
  pub iff : (k : ℕ) → Has named k ↔ TaskNamed (BlockedOn t) (Impedes t) k

-- "Event route (1): nodes are the awaited events; an edge from e to f when some task impedes e and is blocked on f. Named: tasks whose event starts an
-- endless walk."
pub record EventRoute (t : Table) (named : ℕ) : Type 0 where
  pub iff : (k : ℕ) → Has named k ↔ EventNamed (BlockedOn t) (Impedes t) k

-- "A third route, 2, uses events where they are fewer than blocked tasks, and otherwise tasks." (document 02, M-101)
pub record FewerRoute (t : Table) (named : ℕ) : Type 0 where
  pub fewer : FewerEvents t → EventRoute t named
  pub otherwise : (FewerEvents t → ⊥) → TaskRoute t named
