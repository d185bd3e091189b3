use native.Mathlib.Omega.{arith}
use borrow.Author.Tests.{leb-true}
use Rattle.writer.proofs.Putting.{putting_start, putting_near, putting_done, number_short}
use Rattle.writer.proofs.number.put.Goals as goal

pub loop-left-init : goal.loop-left-init
loop-left-init c = putting_start _ _ _ c.ranges.number.fits

pub store-requires : goal.store-requires
store-requires c =
    λ e. omega (arith, putting_near c.loop-left.invariant, leb-true, e)

pub overflow_add-next : goal.overflow_add-next
overflow_add-next c =
    record { fits = omega (arith, putting_near c.loop-left.invariant, c.requires) }

pub store-requires-2 : goal.store-requires-2
store-requires-2 c =
    λ e. omega (arith, putting_near c.loop-left.invariant, leb-true, e)

pub overflow_add-result : goal.overflow_add-result
overflow_add-result c =
    let done = putting_done c.loop-left.invariant (omega (arith, c.loop-left-test.false)) in
    record { fits = omega (arith, done.place, number_short c.args.number, c.requires) }
