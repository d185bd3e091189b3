-- Endless walks, along any edges; and edges between tasks that are kept as rows.
use Rattle.std.specs.Prelude.{◌≡◌, List, ◌↔◌, ℕ, suc, get_or}
use Rattle.sets.specs.Set.{Has}

-- an endless walk from a: it starts there, and each step is an edge
pub record EndlessWalk {A : Type 0} (Edge : A → A → Type 0) (a : A) : Type 0 where
  pub at : ℕ → A
  pub starts : at 0 ≡ a
  pub goes : (k : ℕ) → Edge (at k) (at (suc k))

-- edges kept as a set for each of some tasks: from t of `among` to those in row t
abbrev pub Row : ℕ → List ℕ → ℕ → ℕ → Type 0
Row among rows t u = Has among t × Has (get_or rows t 0) u

-- "Named: tasks from which an endless walk exists" (document 01, 'Stuck')
pub record NamedBy (Edge : ℕ → ℕ → Type 0) (m : ℕ) : Type 0 where
  pub iff : (t : ℕ) → Has m t ↔ EndlessWalk Edge t
