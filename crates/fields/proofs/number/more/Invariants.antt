-- The groups so far stand as a value below a weight; those that may follow, carried over it, give the number.
use mathlib.Core.Path.{◌≡◌}
use Prim.Native.Nat.{◌+◌, ◌-◌}
use Rattle.fields.specs.Figures.{further}
use Rattle.fields.specs.Number.{carried, groups_at}
use Rattle.fields.proofs.Groups.{over, Below}
use Rattle.fields.proofs.number.more.Given as goal

abbrev pub invariant-loop-i : goal.invariant-loop-i
invariant-loop-i l =
    Below l.value l.weight l.i
    × (over l.value l.weight (groups_at (further - l.i) l.sheet (l.at + l.i)) ≡ carried l.low (groups_at further l.sheet l.at))
