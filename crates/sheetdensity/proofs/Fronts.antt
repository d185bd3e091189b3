-- What is wanted is never less than what is held.
use mathlib.Core.Path.{◌≡◌, sym, ap, ◌∙◌}
use mathlib.Core.List.{List, ◌++◌}
use Prim.Native.Nat.{ℕ, ◌+◌, ◌≤◌}
use native.Mathlib.Omega.{arith}
use lib.ListN.{length, take, drop, take-append-drop}
use lib.Seq.{take-take, length-take-le}
use Rattle.sheet_file.specs.Parts.{wanted_of}
use Rattle.sheet_file.proofs.Enough.{wanted_grows}

-- more was read behind the first bytes, and no more than was wanted
pub more_wanted : (held more : ℕ) (old new : List ℕ) → take held new ≡ take held old → held + more ≤ length new
    → held + more ≤ wanted_of (take held old) → held + more ≤ wanted_of (take (held + more) new)
more_wanted held more old new stays there within =
    let whole = take (held + more) new in
    let rest = drop held whole in
    let front = take-take held (held + more) new (omega arith) ∙ stays in
    let both : take held old ++ rest ≡ whole = ap (λ p. p ++ rest) (sym front) ∙ take-append-drop held whole in
    let long : length (take held old ++ rest) ≡ held + more = ap length both ∙ length-take-le (held + more) new there in
    rw (← both) (omega (arith, wanted_grows (take held old) rest (omega arith)))
