use Rattle.std.proofs.Common.{rules, ◌≡◌, ap, Bool, true, false, ◌<◌, ◌≤◌, MatchOption}
use Rattle.std.proofs.lemmas.Iterator.{IsFirst-from_position, YieldsList-from_slice}
use borrow.Author.Tests.{tests}
use Rattle.states.specs.State.{is_free, free_task}
use Rattle.states.specs.declared.state.Task.{Task}
use Rattle.hall.specs.Tests.{lowest_free}
use Rattle.hall.proofs.Lists.{lowest_first}
use Rattle.hall.proofs.Places.{state_in}
use Rattle.hall.proofs.table.Table.lowest_free.Goals.{After-position}
use Rattle.hall.proofs.table.Table.lowest_free.Goals as goal

abbrev free : Task → Bool
free x = is_free x.state

first : (c : After-position) → MatchOption c.position.result (32 ≤ lowest_free c.args.self) (λ k. (k < 32) × (k ≡ lowest_free c.args.self))
unfolding lowest_free
first c =
    lowest_first _ free c.args.self.tasks free_task 32 (search rules) (λ k h. ap is_free (state_in c.args.self k h)) _
    (IsFirst-from_position _ _ _ (λ x. free x ≡ true) (λ x. free x ≡ false) c.position.ensures.ran (YieldsList-from_slice c.args.self.tasks cc)
    (λ x q k. search (rules, tests)) (λ x q k. search (rules, tests)))

pub returns : goal.returns
returns c = rw c.in_ok-k.was at (first (goal.at.returns c).After-position)

pub returns-in_err-k : goal.returns-in_err-k
returns-in_err-k c = rw c.from_residual.ensures (rw c.in_err-k.was at (first (goal.at.returns-in_err-k c).After-position))
