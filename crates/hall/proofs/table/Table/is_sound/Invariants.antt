-- The tests of all entries before this one, and of all states before this one, each as one.
use mathlib.Core.Path.{◌≡◌}
use Prim.Native.Nat.{◌+◌, ◌*◌}
use Rattle.hall.specs.Every.{every}
use Rattle.hall.proofs.Places.{entry_test, state_test}
use Rattle.hall.proofs.table.Table.is_sound.Given as goal

abbrev pub invariant-loop-p : goal.invariant-loop-p
invariant-loop-p l = l.entries ≡ every (entry_test l.self) (l.k * 16 + l.p)

abbrev pub invariant-loop-k : goal.invariant-loop-k
invariant-loop-k l = (l.entries ≡ every (entry_test l.self) (l.k * 16)) × (l.states ≡ every (state_test l.self) l.k)
