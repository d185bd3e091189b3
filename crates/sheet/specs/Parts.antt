-- What the parts of the code hand each other; nobody need believe this file.
use Rattle.std.specs.Prelude.{⊤, ℕ, Result, Ok, Err}
use Rattle.answers.specs.Answers.{number_of}
use Rattle.answers.specs.declared.Refusal.{Refusal}
use Rattle.fields.specs.Got.{Got, value, refused}
use Rattle.fields.specs.declared.number.Number.{Number}
use Rattle.fields.specs.declared.number.Number.TheVariants.{Value, Refused}
use Rattle.hall.specs.Table.{fresh_table}
use Rattle.hall.specs.declared.table.Table.{Table}

-- no number was read
abbrev pub IsRefused : Number → Type 0
IsRefused (Value v next) = ⊥
IsRefused (Refused r) = ⊤

-- what was laid into a table, with the next place or the refusal
abbrev pub laid : Table → Result ℕ Refusal → Got Table
laid t (Ok next) = value t next
laid t (Err r) = refused (number_of r)

-- what was laid into a table, or a fresh one in its place
abbrev pub unless_refused : {A : Type 0} → Result A Refusal → Table → Table
unless_refused (Ok a) t = t
unless_refused (Err r) t = fresh_table
