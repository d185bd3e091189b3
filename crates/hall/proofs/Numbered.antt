-- The kinds of call by their numbers: each has one below the number of kinds.
use Prim.Native.Nat.{◌<◌}
use native.Mathlib.Omega.{arith}
use Rattle.hall.specs.Calls.{kind_count}
use Rattle.hall.specs.Kind.{kind_number}
use Rattle.hall.specs.declared.kind.Kind.{Kind}
use Rattle.hall.specs.declared.kind.Kind.TheVariants.{OpenTask, EndTask, OpenPhaser, ClosePhaser, Admit, Leave, Arrive, Wait, WaitAt, Release}

pub kind_below : (kind : Kind) → kind_number kind < kind_count
kind_below OpenTask = omega arith
kind_below EndTask = omega arith
kind_below OpenPhaser = omega arith
kind_below ClosePhaser = omega arith
kind_below Admit = omega arith
kind_below Leave = omega arith
kind_below Arrive = omega arith
kind_below Wait = omega arith
kind_below WaitAt = omega arith
kind_below Release = omega arith
