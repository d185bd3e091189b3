-- Where the walk goes on for as many steps as there are named tasks it is in the ring, and goes round from its lowest task; else it stops.
use mathlib.Core.List.{[]}
use mathlib.Core.Path.{refl}
use Prim.Native.Nat.{◌≤◌, ◌<◌}
use native.Mathlib.Omega.{arith}
use Rattle.sets.proofs.Members.{none_has}
use Rattle.deadlock.specs.Ring.{nobody}
use Rattle.deadlock.proofs.Stepping.{low_le}
use Rattle.deadlock.proofs.Reached.{stops_comes, round_ring}
use Rattle.deadlock.proofs.ring.ring.Goals as goal

pub once-requires : goal.once-requires
once-requires c =
    let z : c.lowest_on.result ≤ c.far-late.result = rw c.lowest_on.ensures (low_le _ _ _ _ _) in
    omega arith

pub returns-then-late-lt32 : goal.returns-then-late-lt32
returns-then-late-lt32 c =
    let e = c.size-steps.ensures in
    let l : c.far-late.result < 32 = omega arith in
    round_ring c.args.next c.args.named c.ranges.named.fits _ c.lowest.ensures _ (omega arith) _ _ c.far-late.ensures
    l c.lowest_on.ensures _ c.once.ensures

pub returns-else-late-lt32 : goal.returns-else-late-lt32
returns-else-late-lt32 c =
    let p : 0 < c.args.named = omega (arith, c.if-named-eq0.false) in
    stops_comes c.args.next c.args.named c.ranges.named.fits _ c.lowest.ensures p _ _ c.far-late.ensures (omega arith)

pub returns-then-named-eq0 : goal.returns-then-named-eq0
returns-then-named-eq0 c =
    record { ring = []; comes = nobody (λ t h. none_has t (rw c.if-named-eq0.true at h)); long = refl; places = refl }
