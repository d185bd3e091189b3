-- Document 01, 'The ten calls': "Kinds of call run from 0 to 9; any other kind is 42".
use Rattle.std.specs.Prelude.{◌≡◌, ◌≤◌, ℕ, Result, Ok, Err}
use Rattle.hall.specs.Calls.{kind_count}
use Rattle.answers.specs.declared.Refusal.{Refusal}
use Rattle.answers.specs.declared.Refusal.TheVariants.{NoKind}
use Rattle.hall.specs.declared.kind.Kind.{Kind}
use Rattle.hall.specs.declared.kind.Kind.TheVariants.{OpenTask, EndTask, OpenPhaser, ClosePhaser, Admit, Leave, Arrive, Wait, WaitAt, Release}

abbrev pub kind_number : Kind → ℕ
kind_number OpenTask = 0
kind_number EndTask = 1
kind_number OpenPhaser = 2
kind_number ClosePhaser = 3
kind_number Admit = 4
kind_number Leave = 5
kind_number Arrive = 6
kind_number Wait = 7
kind_number WaitAt = 8
kind_number Release = 9

-- the kind that has the number, or 42 for a number that no kind has
abbrev pub KindOf : ℕ → Result Kind Refusal → Type 0
KindOf n (Ok kind) = kind_number kind ≡ n
KindOf n (Err r) = (r ≡ NoKind) × (kind_count ≤ n)
