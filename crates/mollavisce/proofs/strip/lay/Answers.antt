-- The first copy lays the head, the second the ring's places behind it; what lies past 38 bytes stays.
use mathlib.Core.Path.{◌≡◌, ap, ◌∙◌}
use mathlib.Core.List.{List, ◌++◌, append-nil}
use Prim.Native.Nat.{ℕ, ◌≤◌}
use native.Mathlib.Omega.{arith}
use lib.ListN.{length, take, drop, length-take, drop_of_length-le}
use lib.Seq.{take-length}
use borrow.Author.Rules.{rules}
use Rattle.mollavisce.specs.Strip.{strip_of}
use Rattle.mollavisce.proofs.Laid.{laid}
use Rattle.mollavisce.proofs.strip.lay.Goals as goal

pub returns : goal.returns
unfolding strip_of
returns c =
    let ring = c.args.verdict.ring in
    let strip = c.args.strip.now in
    let head = c.head-head in
    let six : length head.result ≡ 6 = ap length head.ensures in
    let places : length ring ≡ 32 = search rules in
    let first = c.copy_from_slice.new.self ++ drop 6 strip in
    let one : first ≡ take (length head.result) head.result ++ drop (length head.result) strip =
    rw (take-length, six) (ap (λ (h : List ℕ). h ++ drop 6 strip) c.copy_from_slice.ensures.after) in
    let fill : length (take 32 (drop 6 first)) ≤ length ring = simp length-take (omega arith) in
    let two : c.copy_from_slice-2.new.self ≡ take (length ring) ring ++ drop (length ring) (take 32 (drop 6 first)) =
    rw (take-length, drop_of_length-le (take 32 (drop 6 first)) fill, append-nil) c.copy_from_slice-2.ensures.after in
    laid head.result ring strip first c.copy_from_slice-2.new.self six places one two
    ∙ ap (λ (h : List ℕ). (h ++ ring) ++ drop 38 strip) head.ensures
