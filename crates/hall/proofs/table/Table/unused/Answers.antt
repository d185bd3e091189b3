use mathlib.Core.Path.{◌≡◌, sym, ◌∙◌}
use Prim.Native.Nat.{◌<◌}
use native.Mathlib.Omega.{arith}
use Rattle.hall.specs.Tests.{unused}
use Rattle.hall.proofs.Every.{every_none, every_more, every_not}
use Rattle.hall.proofs.Places.{unused_read}
use Rattle.hall.proofs.table.Table.unused.Goals.{then-self-k-via-then-self-k, then-self-k-via-else-self-k+then-waits_at}
use Rattle.hall.proofs.table.Table.unused.Goals as goal

pub loop-k-init : goal.loop-k-init
loop-k-init c = every_none _

pub returns-then-self-k : goal.returns-then-self-k
unfolding unused
returns-then-self-k c =
    let near : c.loop-k.k < 32 = omega arith in
    sym (every_not _ 32 c.loop-k.k near (unused_read _ _ _ c.requires near ∙
    elim c.then-self-k.branch [
      | then-self-k-via-then-self-k w ↦ simp w.if-self-k.true
      | then-self-k-via-else-self-k+then-waits_at w ↦ simp (w.if-self-k.false, ← w.waits_at.ensures, w.if-waits_at.true)
    ]))

pub loop-k-preserved : goal.loop-k-preserved
loop-k-preserved c =
    let near : c.loop-k.k < 32 = omega arith in
    every_more _ _ c.loop-k.invariant
    (unused_read _ _ _ c.requires near ∙ simp (c.if-self-k.false, ← c.waits_at.ensures, c.if-waits_at.false))

pub returns : goal.returns
unfolding unused
returns c =
    let e : c.loop-k.k ≡ 32 = omega arith in
    sym (rw e at c.loop-k.invariant)
