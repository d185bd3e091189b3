-- Document 02, M-101: "prints per sheet the blocked tasks, the distinct awaited events, the edges of the task graph, of the event graph and of the
-- task-event graph".
use Rattle.std.specs.Prelude.{◌≡◌, ℕ, List, ◌≢◌}
use Rattle.answers.specs.Answers.{done}
use Rattle.density.specs.Density.{DensityOf}
use Rattle.density.specs.declared.density.Density.{Density}
use Rattle.sheet.specs.Reader.{sheet_at}
use Rattle.sheet_file.specs.declared.counted.Counted.{Counted}

-- no blocked task, no awaited event, no edge
abbrev pub no_density : Density
no_density = record { blocked = 0; events = 0; task_edges = 0; event_edges = 0; task_event_edges = 0 }

-- what is counted of a sheet's bytes
pub record CountedOf (sheet : List ℕ) (c : Counted) : Type 0 where
  pub answer : c.answer ≡ (sheet_at sheet).answer
  pub density : c.answer ≡ done → DensityOf (sheet_at sheet).table c.density
  -- "A refused sheet prints its number and adds only to a total of refused ones": nothing is counted of it
  pub none : (c.answer ≢ done) → c.density ≡ no_density
