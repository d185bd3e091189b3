-- What the parts of the code hand each other; nobody need believe this file.
use Rattle.std.specs.Prelude.{◌≡◌, Bool, true, false, List, ◌↔◌, ◌⊎◌, ℕ, ◌<◌, get_or}
use Rattle.sets.specs.Set.{Has, Least}
use Rattle.seating.specs.declared.seats.Seats.{Seats}
use Rattle.hall.specs.Parts.{BlockedSet, SeatsOf}
use Rattle.hall.specs.Waiting.{ImpedesTask}
use Rattle.hall.specs.declared.table.Table.{Table}
use Rattle.density.specs.Density.{FewerEvents}
use Rattle.judge.specs.Routes.{TaskRoute, EventRoute, FewerRoute}

-- seats of all the blocked tasks
pub record Seated (t : Table) (s : Seats) : Type 0 where
  pub blocked : BlockedSet t s.all
  pub seats : SeatsOf t s

-- who awaits an event of a phaser of which one of `gone` is a member
pub record Shaken (s : Seats) (gone set : ℕ) : Type 0 where
  pub iff : (k : ℕ)
      → Has set k ↔ ((p : ℕ) × (p < 16) × Has (get_or s.waiters p 0) k × ((u : ℕ) × Has (get_or s.members p 0) u × Has gone u))

-- seats of some tasks, and the named are of them
pub record NamedSeats (t : Table) (s : Seats) (named : ℕ) : Type 0 where
  pub seats : SeatsOf t s
  pub within : (k : ℕ) → Has named k → Has s.all k

-- the lowest with P; 32, which is no task, where there is none
abbrev pub LowestWith : (ℕ → Type 0) → ℕ → Type 0
LowestWith P u = Least P u ⊎ (((v : ℕ) → P v → ⊥) × (u ≡ 32))

-- for each of the named, the lowest named one that impedes its event
pub record NextsOf (t : Table) (named : ℕ) (next : List ℕ) : Type 0 where
  pub each : (k : ℕ) → Has named k → LowestWith (λ u. Has named u × ImpedesTask t k u) (get_or next k 0)

-- whether a route goes by events
pub record ByEvents (t : Table) (route : ℕ) (r : Bool) : Type 0 where
  pub tasks : route ≡ 0 → r ≡ false
  pub events : route ≡ 1 → r ≡ true
  pub fewer : route ≡ 2 → (r ≡ true) ↔ FewerEvents t

-- the named set by a route
pub record ByRoute (t : Table) (route named : ℕ) : Type 0 where
  pub tasks : route ≡ 0 → TaskRoute t named
  pub events : route ≡ 1 → EventRoute t named
  pub fewer : route ≡ 2 → FewerRoute t named
