-- 41, then 40, both with the strip as it was; then the verdict's answer, and its bytes where that is 0.
use mathlib.Core.Path.{◌≡◌, refl, sym}
use Prim.Native.Nat.{◌≤◌}
use native.Mathlib.Omega.{arith}
use borrow.Author.Rules.{rules}
use borrow.Author.Tests.{eq-eqb, ne_eqb}
use Rattle.answers.specs.Answers.{done}
use Rattle.mollavisce.specs.Strip.{strip_after}
use Rattle.mollavisce.proofs.Fits.{sheet_fits}
use Rattle.judge.specs.Routes.{largest_route}
use Rattle.judge.proofs.Routed.{route_within}
use Rattle.mollavisce.proofs.entry.sheet_verdict.Goals.{In_default}
use Rattle.mollavisce.proofs.entry.sheet_verdict.Goals as goal

-- past the first test the route is one of the judge's
within : (c : In_default) → c.args.route ≤ largest_route
within c = let l = route_within c.in_default.field-0 in omega (arith, c.in_default.ensures)

pub returns-then-answer-ne-DONE : goal.returns-then-answer-ne-DONE
unfolding strip_after
returns-then-answer-ne-DONE c =
    record {
      no_route = λ l. absurd (omega (arith, l, within (goal.at.returns-then-answer-ne-DONE c).In_default));
      short = λ _ l. absurd (omega arith);
      judged = λ _ _.
          let v = c.verdict_of-verdict in
          let refused : v.result.answer ≡ done → ⊥ = λ e. omega (arith, e, c.if-answer-ne-DONE.true) in
          (v.result, v.ensures, refl, rw (ne_eqb v.result.answer done refused) refl);
    }

pub lay-requires : goal.lay-requires
lay-requires c =
    let v = c.verdict_of-verdict in
    let fits = sheet_fits _ _ v.result v.ensures (omega (arith, c.if-answer-ne-DONE.false)) in
    (search rules, fits.count, fits.ring_length)

pub returns : goal.returns
unfolding strip_after
returns c =
    let v = c.verdict_of-verdict in
    let answered : v.result.answer ≡ done = omega (arith, c.if-answer-ne-DONE.false) in
    record {
      no_route = λ l. absurd (omega (arith, l, within (goal.at.returns c).In_default));
      short = λ _ l. absurd (omega arith);
      judged = λ _ _. (v.result, v.ensures, sym answered, rw (eq-eqb _ done answered) c.lay.ensures);
    }
