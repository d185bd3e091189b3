-- The answer's line, and on answer 0 the two others behind it.
use mathlib.Core.Path.{◌≡◌}
use Prim.Native.Nat.{ℕ, ◌^◌, ◌≤◌, ◌<◌}
use native.Mathlib.Omega.{arith}
use lib.ListN.{get_or, length}
use borrow.Author.Rules.{rules}
use mir.Syntax.{w8}
use mir.Val.{Fits}
use Rattle.text.specs.Verdict.{verdict_text}
use Rattle.text.proofs.Lines.{text_done, text_refused}
use Rattle.text.proofs.Said.{adds_both}
use Rattle.text.proofs.Whole.{text_whole}
use Rattle.text.proofs.verdict.text_of.Goals.{After-empty}
use Rattle.text.proofs.verdict.text_of.Goals as goal

-- the whole text has room
whole : (c : After-empty) → length (verdict_text c.args.verdict) ≤ 256
whole c =
    let v = c.args.verdict in
    let fits : v.answer < 2 ^ 32 = search rules in
    let places : length v.ring ≡ 32 = search rules in
    let small : (i : ℕ) → Fits w8 (get_or v.ring i 0) = λ i. search rules in
    text_whole v fits places (λ i. (small i).fits)

pub returns-then-verdict-ne0 : goal.returns-then-verdict-ne0
returns-then-verdict-ne0 c =
    let said = c.answer_line-answered.ensures.says _ c.empty.ensures in
    record {
      says = rw (text_refused c.args.verdict (λ e. omega arith)) said;
      whole = whole (goal.at.returns-then-verdict-ne0 c).After-empty;
    }

pub returns : goal.returns
returns c =
    let said = adds_both c.answer_line-answered.ensures (adds_both c.named_line.ensures c.ring_line.ensures) in
    record {
      says = rw (text_done c.args.verdict (omega arith)) (said.says _ c.empty.ensures);
      whole = whole (goal.at.returns c).After-empty;
    }
