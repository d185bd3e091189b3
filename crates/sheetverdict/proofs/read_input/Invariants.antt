-- So many bytes of the buffer are left.
use Rattle.std.proofs.Common.{◌-◌, ◌≤◌, length}
use Rattle.sheetverdict.proofs.read_input.Given as goal

abbrev pub invariant-loop-read : goal.invariant-loop-read
invariant-loop-read l = l.read ≤ length l.bytes

abbrev pub decreases-loop-read : goal.decreases-loop-read
decreases-loop-read l = length l.bytes - l.read
