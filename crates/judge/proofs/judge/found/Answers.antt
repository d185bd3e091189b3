-- Nobody blocked, nobody named, or what the route and the ring promise.
use mathlib.Core.Path.{subst}
use Rattle.hall.specs.Parts.{BlockedSet}
use Rattle.judge.specs.Parts.{ByRoute}
use Rattle.judge.proofs.Named.{none_blocked, found_nobody}
use Rattle.judge.proofs.judge.found.Goals as goal

pub returns-then-blocked-eq0 : goal.returns-then-blocked-eq0
returns-then-blocked-eq0 c = found_nobody _ _ _ (none_blocked _ _ (subst (BlockedSet _) c.if-blocked-eq0.true c.requires)) c.nobody.ensures

pub returns-then-named-eq0 : goal.returns-then-named-eq0
returns-then-named-eq0 c = found_nobody _ _ _ (subst (ByRoute _ _) c.if-named-eq0.true c.named_by-named.ensures) c.nobody-then-named-eq0.ensures
