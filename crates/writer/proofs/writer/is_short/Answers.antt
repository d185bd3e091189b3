use mathlib.Core.Path.{◌≡◌, sym}
use native.Mathlib.Omega.{arith}
use lib.ListN.{length}
use borrow.Author.Tests.{le-ltb, lt-ltb, le-leb, ltb-true, leb-true}
use Rattle.states.proofs.Truth.{same_test}
use Rattle.sheet.specs.Written.{sheet_of}
use Rattle.writer.proofs.Answered.{long_enough}
use Rattle.writer.proofs.writer.is_short.Goals as goal

pub returns-then-room-ge-LONGEST_SHEET : goal.returns-then-room-ge-LONGEST_SHEET
returns-then-room-ge-LONGEST_SHEET c =
    sym (le-ltb _ _ (long_enough c.args.table c.args.room c.requires c.shaped.ensures.lengths (omega (arith, c.if-room-ge-LONGEST_SHEET.true))))

pub returns : goal.returns
returns c =
    let long : c.put_sheet.result ≡ length (sheet_of c.args.table) = omega (arith, c.put_sheet.ensures.place) in
    same_test _ _ (λ e. omega (arith, long, ltb-true, leb-true, lt-ltb, e)) (λ e. omega (arith, long, ltb-true, lt-ltb, le-leb, e))
