-- The open phasers below p are laid, ten bytes each at most.
use Prim.Native.Nat.{◌+◌, ◌*◌, ◌≤◌}
use Rattle.fields.specs.Number.{number_bytes}
use Rattle.sheet.specs.Written.{gather}
use Rattle.writer.specs.Parts.{Laid, flagged}
use Rattle.writer.proofs.head.put_head.Given as goal

abbrev pub invariant-loop-p : goal.invariant-loop-p
invariant-loop-p l =
    Laid l.initial.buffer l.initial.at (gather (flagged l.opened) number_bytes l.p) l.buffer l.at × (l.at ≤ 20 + 10 * l.p)
