use mathlib.Core.Bool.{true}
use mathlib.Core.Path.{◌≡◌}
use native.Mathlib.Omega.{arith}
use lib.ListN.{get_or}
use Rattle.sets.proofs.Members.{full_has, has_lt}
use Rattle.sets.proofs.Testing.{those_with, gives}
use Rattle.states.specs.State.{free_task, is_blocked}
use Rattle.seating.proofs.waiting.blocked_of.Goals as goal

pub returns : goal.returns
returns c =
    let found = those_with (λ k. is_blocked (get_or c.args.tasks k free_task).state ≡ true) (λ k b h e. gives e) c.those.ensures in
    record { iff = λ k. (λ h. let p = (found k).0 h in (has_lt 32 _ k (omega arith) p.0, p.1), λ h. (found k).1 (full_has 32 k h.0, h.1)) }
