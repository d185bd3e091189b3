use mathlib.Core.Path.{sym, ◌∙◌}
use native.Mathlib.Omega.{arith}
use Rattle.writer.proofs.Laying.{laid_none, laid_both}
use Rattle.writer.proofs.Sheet.{number_ends, state_ends}
use Rattle.writer.specs.Parts.{if_there}
use Rattle.writer.proofs.entry.put_entry.Goals as goal

pub put_state-counted-requires : goal.put_state-counted-requires
put_state-counted-requires c =
    omega (arith, number_ends _ c.put-stated.ensures, c.requires)

pub put-requires : goal.put-requires
put-requires c =
    omega (arith, number_ends _ c.put-stated.ensures, state_ends _ c.put_state-counted.ensures, c.requires)

pub returns-then-is_live : goal.returns-then-is_live
unfolding if_there
returns-then-is_live c =
    rw (sym c.is_live.ensures ∙ c.if-is_live.true)
    (laid_both c.put-stated.ensures (laid_both c.put_state-counted.ensures c.put.ensures))

pub returns-else-is_live : goal.returns-else-is_live
unfolding if_there
returns-else-is_live c = rw (sym c.is_live.ensures ∙ c.if-is_live.false) (laid_none _ _)
