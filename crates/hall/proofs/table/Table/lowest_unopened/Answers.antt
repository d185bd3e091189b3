use Rattle.std.proofs.Common.{rules, ◌≡◌, ap, not, true, false, ◌<◌, ◌≤◌, MatchOption}
use Rattle.std.proofs.lemmas.Iterator.{IsFirst-from_position, YieldsList-from_slice}
use borrow.Author.Tests.{tests}
use Rattle.hall.specs.Tests.{lowest_unopened}
use Rattle.hall.proofs.Lists.{lowest_first}
use Rattle.hall.proofs.Places.{open_in_lem}
use Rattle.hall.proofs.table.Table.lowest_unopened.Goals.{After-position}
use Rattle.hall.proofs.table.Table.lowest_unopened.Goals as goal

first : (c : After-position) → MatchOption c.position.result (16 ≤ lowest_unopened c.args.self) (λ p. (p < 16) × (p ≡ lowest_unopened c.args.self))
unfolding lowest_unopened
first c =
    lowest_first _ not c.args.self.opened false 16 (search rules) (λ p h. ap not (open_in_lem c.args.self p h)) _
    (IsFirst-from_position _ _ _ (λ x. not x ≡ true) (λ x. not x ≡ false) c.position.ensures.ran (YieldsList-from_slice c.args.self.opened cc)
    (λ x q k. search (rules, tests)) (λ x q k. search (rules, tests)))

pub returns : goal.returns
returns c = rw c.in_ok-p.was at (first (goal.at.returns c).After-position)

pub returns-in_err-p : goal.returns-in_err-p
returns-in_err-p c = rw c.from_residual.ensures (rw c.in_err-p.was at (first (goal.at.returns-in_err-p c).After-position))
