use mathlib.Core.Path.{refl}
use Prim.Native.Nat.{ℕ}
use borrow.Author.Rules.{rules}
use mir.Syntax.{w32}
use mir.Val.{Fits}
use lib.ListN.{get_or}
use Rattle.sets.specs.Set.{Has}
use Rattle.sets.proofs.Members.{taken_lt}
use Rattle.sets.proofs.Testing.{first_none}
use Rattle.deadlock.specs.Walk.{Row}
use Rattle.deadlock.proofs.Clearing.{covers_drop, closed_named, rows_closed}
use Rattle.deadlock.proofs.Walks.{first}
use Rattle.deadlock.proofs.elimination.named.Goals as goal

pub loop-task-init : goal.loop-task-init
loop-task-init c =
    let f : Fits w32 c.args.among = search rules in
    (f.fits, λ k h. h, λ t w. (first w).0)

pub loop-task-smaller : goal.loop-task-smaller
loop-task-smaller c = taken_lt 32 _ _ _ c.take-left.type_inv c.in-Some.ensures.0 c.take-left.ensures

pub loop-task-preserved : goal.loop-task-preserved
loop-task-preserved c =
    let inv = c.loop-task.invariant in
    let none = c.in-Some.ensures.1.0 refl in (
      c.take-left.type_inv,
      λ k h. inv.1 k ((c.take-left.ensures k).0 h).0,
      covers_drop (Row c.args.among c.args.rows) _ _ _ c.take-left.ensures (λ u h e. none u e.1 h) inv.2,
    )

pub returns : goal.returns
returns c =
    let inv = c.loop-task.invariant in
    let some = first_none (λ t. (u : ℕ) → Has (get_or c.args.rows t 0) u → Has c.loop-task.left u → ⊥) (λ k b h e. e) c.in_default.ensures in
    closed_named (Row c.args.among c.args.rows) _ inv.2 (rows_closed c.args.among c.args.rows _ inv.0 inv.1 some)
