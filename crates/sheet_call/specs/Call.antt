-- A call on a sheet, for a C++ host. The words are include/mollavisce.h's: "Makes one call on a sheet's table, and writes the next table's sheet".
use Rattle.std.specs.Prelude.{cond, List, ℕ, eqb, ltb}
use Rattle.answers.specs.Answers.{done, no_kind}
use Rattle.hall.specs.Calls.{kind_count, call_of}
use Rattle.hall.specs.declared.calls.Call.{Call}
use Rattle.sheet.specs.Reader.{sheet_at}
use Rattle.writer.specs.Next.{HandedOver, stays, hand_on}

-- "Tests: 42 before all else; the sheet's 30 to 36; the call's own, as above; last 43"
unfoldable pub sheet_call_of : List ℕ → Call → List ℕ → HandedOver
sheet_call_of sheet c next =
    cond (ltb c.kind kind_count)
    (cond (eqb (sheet_at sheet).answer done) (hand_on (call_of (sheet_at sheet).table c) next) (stays (sheet_at sheet).answer next))
    (stays no_kind next)
