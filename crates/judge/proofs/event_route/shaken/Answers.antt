use mathlib.Core.Path.{◌≡◌}
use native.Mathlib.Omega.{arith}
use Rattle.sets.proofs.Members.{none_has, some_has}
use Rattle.judge.proofs.Events.{shake_more, shake_less}
use Rattle.judge.proofs.event_route.shaken.Goals.{then-common-ne0, else-common-ne0}
use Rattle.judge.proofs.event_route.shaken.Goals as goal

pub loop-p-preserved : goal.loop-p-preserved
loop-p-preserved c =
    let both = c.common in
    elim c.if-common-ne0.branch [
      | then-common-ne0 w ↦
          let u = some_has 32 both.result both.type_inv (omega (arith, w.if-common-ne0.true)) in
          let q = (both.ensures u.0).0 u.1 in
          rw w.set-is (shake_more _ _ _ _ _ c.loop-p.invariant _ w.either-set.ensures (u.0, q.0, q.1))
      | else-common-ne0 w ↦
          let z : both.result ≡ 0 = omega (arith, w.if-common-ne0.false) in
          rw w.set-is (shake_less _ _ _ _ _ c.loop-p.invariant (λ u h i. none_has u (rw z at ((both.ensures u).1 (h, i)))))
    ]
