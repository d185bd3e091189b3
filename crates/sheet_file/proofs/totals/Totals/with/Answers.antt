use Rattle.std.proofs.Common.{refl, arith}
use Rattle.sheet_file.proofs.Counts.{with_refused_lem, with_accepted_lem}
use Rattle.sheet_file.proofs.totals.Totals.with.Goals as goal

pub returns-then-counted-ne-DONE : goal.returns-then-counted-ne-DONE
returns-then-counted-ne-DONE c = with_refused_lem _ _ (λ e. omega (arith, c.if-counted-ne-DONE.true, e)) (omega arith) (omega arith) refl

pub returns : goal.returns
returns c =
    with_accepted_lem _ _ (omega (arith, c.if-counted-ne-DONE.false)) (omega arith) (omega arith) c.sum_of_densities.ensures
