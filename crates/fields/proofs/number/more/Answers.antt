use native.Mathlib.Omega.{arith}
use mathlib.Core.Path.{◌≡◌, ◌∙◌}
use Prim.Native.Nat.{◌+◌, ◌-◌, ◌<◌}
use lib.ListN.{get_or}
use Rattle.fields.specs.Figures.{further}
use Rattle.fields.proofs.Groups.{over_last, over_turn, weight_small, product_small, below_turn}
use Rattle.fields.proofs.number.more.Goals.{After-from-group}
use Rattle.fields.proofs.number.more.Goals as goal

group_read : (c : After-from-group) → c.from-group.result ≡ get_or c.args.sheet.now (c.args.at + c.loop-i.i) 0
group_read c = c.from-group.ensures ∙ c.in-Some.ensures.lookup.3.1 0

seven : (c : After-from-group) → c.from-group.result - 128 < 128
seven c = omega (arith, group_read c, c.type_inv.sheet (c.args.at + c.loop-i.i))

pub overflow_mul-result : goal.overflow_mul-result
overflow_mul-result c = omega (arith, product_small c.loop-i.invariant.0 (omega arith) c.from-group.result c.if-group-lt128.true)

pub overflow_add-result : goal.overflow_add-result
overflow_add-result c =
    let b = c.loop-i.invariant.0 in
    omega (arith, product_small b (omega arith) c.from-group.result c.if-group-lt128.true, weight_small b (omega arith), b.low)

pub returns-then-group-lt128 : goal.returns-then-group-lt128
returns-then-group-lt128 c =
    let l = c.loop-i in
    let read = group_read (goal.at.returns-then-group-lt128 c).After-from-group in
    rw read
    (over_last l.value l.weight _ _ (further - l.i) (omega arith) c.in-Some.ensures.lookup.3.0 (λ e. omega (arith, read)) (omega (arith, read))
    ∙ l.invariant.1)

pub overflow_mul-value : goal.overflow_mul-value
overflow_mul-value c =
    omega (arith, product_small c.loop-i.invariant.0 (omega arith) _ (seven (goal.at.overflow_mul-value c).After-from-group))

pub overflow_add-value : goal.overflow_add-value
overflow_add-value c =
    let b = c.loop-i.invariant.0 in
    omega (arith, product_small b (omega arith) _ (seven (goal.at.overflow_add-value c).After-from-group), weight_small b (omega arith), b.low)

pub loop-i-preserved : goal.loop-i-preserved
loop-i-preserved c =
    let l = c.loop-i in
    let read = group_read (goal.at.loop-i-preserved c).After-from-group in (
      below_turn l.invariant.0 _ (seven (goal.at.loop-i-preserved c).After-from-group),
      rw read
          (over_turn l.value l.weight _ _ (further - l.i) _ _ (omega arith) (omega arith) c.in-Some.ensures.lookup.3.0 (omega (arith, read)) ∙ l.invariant.1),
    )
