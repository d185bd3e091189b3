-- The tasks before k are laid, 370 bytes each at most; and of task k the memberships at the phasers before p, 20 bytes each at most.
use Prim.Native.Nat.{◌+◌, ◌*◌, ◌≤◌}
use Rattle.hall.specs.Table.{member_at}
use Rattle.sheet.specs.Written.{gather, member_bytes, task_bytes, live_at}
use Rattle.writer.specs.Parts.{Laid}
use Rattle.writer.proofs.writer.put_sheet.Given as goal

abbrev pub invariant-loop-p : goal.invariant-loop-p
invariant-loop-p l =
    Laid l.initial.buffer l.initial.at (gather (member_at l.table l.k) (member_bytes l.table l.k) l.p) l.buffer l.at × (l.at ≤ 240 + 370 * l.k + 20 * l.p)

abbrev pub invariant-loop-k : goal.invariant-loop-k
invariant-loop-k l = Laid l.initial.buffer l.initial.at (gather (live_at l.table) (task_bytes l.table) l.k) l.buffer l.at × (l.at ≤ 190 + 370 * l.k)
