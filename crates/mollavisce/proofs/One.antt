-- The promises of `verdict_of` and of `sheet_verdict` fix the verdict, the answer and every byte of the strip.
use mathlib.Core.Path.{◌≡◌, ap, sym, ◌∙◌}
use mathlib.Core.List.{List}
use Prim.Native.Nat.{ℕ, ◌<◌}
use native.Mathlib.Decide.{dec_lt, ℕ_discrete}
use native.Mathlib.Omega.{arith}
use lib.ListN.{length}
use Rattle.answers.specs.Answers.{done}
use Rattle.judge.specs.declared.verdict.Verdict.{Verdict}
use Rattle.judge.proofs.One.{judged_one}
use Rattle.judge.specs.Routes.{largest_route}
use Rattle.mollavisce.specs.Entry.{Entered}
use Rattle.judge.specs.OfSheet.{VerdictOf}
use Rattle.sheet.specs.Reader.{sheet_at}
use Rattle.mollavisce.specs.Strip.{strip_after}

pub sheet_judged_one : (sheet : List ℕ) (route : ℕ) (v w : Verdict) → VerdictOf sheet route v → VerdictOf sheet route w → v ≡ w
sheet_judged_one sheet route v w x y = go (dec_lt largest_route route) (ℕ_discrete (sheet_at sheet).answer done)
  where
    go : Dec (largest_route < route) → Dec ((sheet_at sheet).answer ≡ done) → v ≡ w
    go (yes l) d = x.no_route l ∙ sym (y.no_route l)
    go (no l) (yes a) = judged_one (sheet_at sheet).table route v w (x.judged (omega arith) a) (y.judged (omega arith) a)
    go (no l) (no n) = x.refused (omega arith) n ∙ sym (y.refused (omega arith) n)

pub entered_one : (sheet : List ℕ) (route : ℕ) (before : List ℕ) (answer answer' : ℕ) (after after' : List ℕ) → Entered sheet route before after answer
    → Entered sheet route before after' answer' → (answer ≡ answer') × (after ≡ after')
entered_one sheet route before answer answer' after after' x y = go (dec_lt largest_route route) (dec_lt (length before) 38)
  where
    both : {n : ℕ} {l : List ℕ} → (answer ≡ n) × (after ≡ l) → (answer' ≡ n) × (after' ≡ l) → (answer ≡ answer') × (after ≡ after')
    both a b = (a.0 ∙ sym b.0, a.1 ∙ sym b.1)

    go : Dec (largest_route < route) → Dec (length before < 38) → (answer ≡ answer') × (after ≡ after')
    go (yes l) d = both (x.no_route l) (y.no_route l)
    go (no l) (yes m) = both (x.short (omega arith) m) (y.short (omega arith) m)
    go (no l) (no m) =
        let a = x.judged (omega arith) (omega arith) in
        let b = y.judged (omega arith) (omega arith) in
        let e = sheet_judged_one sheet route a.0 b.0 a.1 b.1 in
        both (a.2, a.3) (b.2 ∙ ap (λ (v : Verdict). v.answer) (sym e), b.3 ∙ ap (λ (v : Verdict). strip_after v before) (sym e))
