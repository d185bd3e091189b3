-- What is read behind the first bytes leaves them, and no more was read than was wanted.
use Rattle.std.proofs.Common.{arith, ◌≤◌, le_refl, length, length-append, length-take, length-drop}
use Rattle.std.proofs.lemmas.Slice.{take-put_mid_below}
use Rattle.sheet_file.specs.Parts.{largest_piece}
use Rattle.sheetdensity.proofs.Fronts.{more_wanted}
use Rattle.sheetdensity.proofs.take_in.Goals as goal

pub loop-held-preserved : goal.loop-held-preserved
loop-held-preserved g c =
    let at = c.loop-held in
    let fits : c.wanted-want.result ≤ largest_piece = c.wanted-want.ensures.fits (simp length-take (omega (arith, at.invariant.0))) in
    let within : at.held ≤ length at.piece = omega (arith, at.invariant.0, at.invariant.1) in
    let few : c.in_ok-more.more ≤ length c.read.new.buf = c.in_ok-more.ensures.bound.0 in (
      simp (length-append, length-take, length-drop) (omega arith),
      omega arith,
      more_wanted at.held _ at.piece _ (take-put_mid_below _ _ _ _ _ (le_refl _) within) (simp (length-append, length-take, length-drop) (omega arith))
          (omega (arith, c.wanted-want.ensures.is)),
    )
