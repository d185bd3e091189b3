-- 41 first, then the reader's refusal, then what is found in the table that was read, which is sound.
use mathlib.Core.Path.{refl}
use Prim.Native.Nat.{ℕ}
use borrow.Author.Rules.{rules}
use lib.ListN.{get_or}
use mir.Syntax.{w8}
use mir.Val.{Fits}
use Rattle.answers.specs.Answers.{done}
use Rattle.judge.proofs.OfSheets.{verdict_read}
use Rattle.judge.proofs.Routed.{route_within}
use Rattle.judge.proofs.of_sheet.verdict_of.Goals as goal

pub returns-in-Ok-read_with_blocked : goal.returns-in-Ok-read_with_blocked
returns-in-Ok-read_with_blocked c =
    let byte : (i : ℕ) → Fits w8 (get_or c.args.bytes.now i 0) = λ i. search rules in
    let route = c.in-Ok.ensures in
    let read = c.in-Ok-read_with_blocked.ensures.read in
    rw (← route) (verdict_read _ (λ i. (byte i).fits) _ done read _ _ (route_within _) (λ n. absurd (n refl)) (λ _. c.found.ensures))
