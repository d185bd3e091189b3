use mathlib.Core.Path.{◌≡◌, refl}
use Prim.Native.Nat.{◌<◌}
use native.Mathlib.Omega.{arith}
use Rattle.seating.proofs.Placing.{gone_start, gone_done, gone_more, going_start, going_entry, going_done, one_place}
use Rattle.seating.proofs.seats.seats_of.Goals as goal

pub loop-t-init : goal.loop-t-init
loop-t-init c =
    let all : c.into_iter-t-iterator.result.left ≡ c.args.all = cc (c.into_iter-t-iterator.ensures.into_iter_gives, c.each-t-items.ensures) in
    rw all (tt, tt, λ k h. h, gone_start _ _, gone_start _ _)

pub loop-p-init : goal.loop-p-init
loop-p-init c =
    let step = c.in-Some.ensures.steps in
    let inv = c.loop-t.invariant in
    let here = step.1.holds in
    going_start _ _ _ _ here _ (inv.2 _ here) step.2 inv.3

pub loop-p-preserved : goal.loop-p-preserved
loop-p-preserved c =
    going_entry c.args.members _ _ _ _ _ _ c.in-Some.ensures.steps.0 c.loop-p.invariant (omega arith) refl c.marked-in-loop-p.ensures

pub loop-t-preserved : goal.loop-t-preserved
loop-t-preserved c =
    let step = c.in-Some.ensures.steps in
    let inv = c.loop-t.invariant in
    let here = step.1.holds in
    let within = inv.2 _ here in
    let full : c.loop-p.p ≡ 16 = omega (arith, c.loop-p-test.false) in
    let place = c.column-place.ensures in
    let near : c.column-place.result < 16 = omega arith in
    let only = one_place c.event_of.ensures c.column-place.ensures in (
      tt,
      tt,
      λ k h. inv.2 k ((step.2 k).0 h).0,
      going_done _ _ _ _ here _ within step.2 (rw full at c.loop-p.invariant),
      gone_more _ _ _ _ here _ within step.2 _ _ step.0 inv.4 near only c.marked.ensures,
    )

pub returns-clause-seated : goal.returns-clause-seated
returns-clause-seated c =
    let inv = rw c.in-None.ensures.steps.0 at c.loop-t.invariant in
    record { members = gone_done _ _ inv.3; waiters = gone_done _ _ inv.4; long = (inv.3.long, inv.4.long) }
