-- Document 02, M-101: "then exact totals".
use Rattle.std.specs.Prelude.{ℕ, ◌+◌, ◌%◌, ◌^◌, cond, List, [], ◌∷◌, ◌==◌}
use Rattle.answers.specs.Answers.{done}
use Rattle.density.specs.declared.density.Density.{Density}
use Rattle.sheet_file.specs.declared.counted.Counted.{Counted}
use Rattle.sheet_file.specs.declared.totals.Totals.{Totals}
use Rattle.sheet_file.specs.Counted.{no_density}

-- before the first sheet
abbrev pub no_totals : Totals
no_totals = record { sheets = 0; refused = 0; density = no_density }

-- a sum as the code has it, for any two numbers; over a file's sheets it is exact (`totals_exact`)
abbrev pub sum : ℕ → ℕ → ℕ
sum a b = (a + b) % 2 ^ 64

-- how many sheets there were
abbrev pub done_of : Totals → ℕ
done_of t = sum t.sheets t.refused

-- each of the five counts added up
abbrev pub sum_of_densities : Density → Density → Density
sum_of_densities a b = record {
  blocked = sum a.blocked b.blocked;
  events = sum a.events b.events;
  task_edges = sum a.task_edges b.task_edges;
  event_edges = sum a.event_edges b.event_edges;
  task_event_edges = sum a.task_event_edges b.task_event_edges;
}

-- with an accepted sheet more, of this density; with a refused one
abbrev pub with_accepted : Totals → Density → Totals
with_accepted t d = record { sheets = sum t.sheets 1; refused = t.refused; density = sum_of_densities t.density d }

abbrev pub with_refused : Totals → Totals
with_refused t = record { sheets = t.sheets; refused = sum t.refused 1; density = t.density }

-- "A refused sheet .. adds only to a total of refused ones."
unfoldable pub totals_with : Totals → Counted → Totals
totals_with t c = cond (c.answer == done) (with_accepted t c.density) (with_refused t)

-- a number of each sheet added up; and such a number where only an accepted sheet has it, or only a refused one
abbrev pub added_up : (Counted → ℕ) → List Counted → ℕ
added_up number [] = 0
added_up number (c ∷ l) = number c + added_up number l

abbrev pub of_accepted : (Density → ℕ) → Counted → ℕ
of_accepted number c = cond (c.answer == done) (number c.density) 0

abbrev pub of_refused : Counted → ℕ
of_refused c = cond (c.answer == done) 0 1

-- "exact totals"
unfoldable pub exact_totals : List Counted → Totals
exact_totals l = record {
  sheets = added_up (of_accepted (λ d. 1)) l;
  refused = added_up of_refused l;
  density = record {
    blocked = added_up (of_accepted (λ d. d.blocked)) l;
    events = added_up (of_accepted (λ d. d.events)) l;
    task_edges = added_up (of_accepted (λ d. d.task_edges)) l;
    event_edges = added_up (of_accepted (λ d. d.event_edges)) l;
    task_event_edges = added_up (of_accepted (λ d. d.task_event_edges)) l;
  };
}
