use mathlib.Core.Path.{refl}
use Prim.Native.Nat.{◌+◌, ◌*◌}
use Rattle.sets.proofs.Testing.{those_with}
use Rattle.seating.specs.Parts.{LateIn}
use Rattle.seating.proofs.Filling.{fill_start, fill_more, fill_done, late_row, late_at}
use Rattle.seating.proofs.waiting.edges_of.Goals as goal

pub loop-t-init : goal.loop-t-init
loop-t-init c = (tt, tt, fill_start _ _)

pub loop-t-preserved : goal.loop-t-preserved
loop-t-preserved c =
    let step = c.in-Some.ensures.steps in
    let place = c.column-place.ensures in
    let phases = c.args.phases in
    let late = those_with (λ u. LateIn phases u c.event_of-event.result)
    (λ u b h e. late_at phases u _ _ (u * 16 + c.column-place.result) b place refl e) c.those.ensures in
    let row = late_row c.args.seats.members phases _ _ _ _ c.event_of-event.ensures place late in
    (tt, tt, fill_more _ _ _ _ _ _ _ c.loop-t.invariant.2 step.0 step.1.holds step.2 row)

pub returns : goal.returns
returns c =
    let rows = rw (c.into_iter-t-iterator.ensures.into_iter_gives, c.each-t-items.ensures, c.in-None.ensures.steps.0) at c.loop-t.invariant.2 in
    record { iff = λ k u l. let r = fill_done _ _ rows k u l in (λ h. let q = r.0 h in (q.0, q.1.0, q.1.1), λ h. r.1 (h.0, (h.1, h.2))); long = rows.long }
