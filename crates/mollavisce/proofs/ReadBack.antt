-- What stands in the strip after answer 0, read back, is the verdict.
use mathlib.Core.Path.{◌≡◌, refl, sym, ap, ◌∙◌, subst}
use mathlib.Core.List.{List, ◌++◌}
use Prim.Native.Nat.{ℕ, ◌+◌, ◌*◌, ◌/◌, ◌%◌, ◌^◌, ◌<◌}
use native.Mathlib.Nat.{div-div-eq-div-mul}
use native.Mathlib.Omega.{arith}
use lib.ListN.{length, drop}
use lib.Seq.{take_at}
use borrow.Author.Tests.{eq-eqb}
use Rattle.answers.specs.Answers.{done}
use Rattle.judge.specs.declared.verdict.Verdict.{Verdict}
use Rattle.mollavisce.specs.Entry.{Entered}
use Rattle.judge.specs.OfSheet.{VerdictOf}
use Rattle.mollavisce.specs.Strip.{strip_of, strip_after, verdict_in}
use Rattle.mollavisce.proofs.Entered.{done_reached}
use Rattle.mollavisce.proofs.Fits.{sheet_fits}
use Rattle.mollavisce.proofs.One.{sheet_judged_one}

byte : (q : ℕ) → q ≡ q / 256 * 256 + q % 256
byte q = omega arith

-- a number of four bytes is what its bytes say
bytes_of : (m : ℕ) → m < 2 ^ 32 → m % 256 + m / 256 % 256 * 256 + m / 65536 % 256 * 65536 + m / 16777216 % 256 * 16777216 ≡ m
bytes_of m h =
    join m (m / 256) (m / 65536) (m / 16777216) (m % 256) (m / 256 % 256) (m / 65536 % 256) (m / 16777216 % 256) (byte m)
    (rw (div-div-eq-div-mul m 256 256) at (byte (m / 256))) (rw (div-div-eq-div-mul m 65536 256) at (byte (m / 65536))) (omega arith)
  where
    join : (m q1 q2 q3 r0 r1 r2 r3 : ℕ) → m ≡ q1 * 256 + r0 → q1 ≡ q2 * 256 + r1 → q2 ≡ q3 * 256 + r2 → q3 ≡ r3
        → r0 + r1 * 256 + r2 * 65536 + r3 * 16777216 ≡ m
    join m q1 q2 q3 r0 r1 r2 r3 a b c d = omega arith

module _ (v : Verdict) (fits : v.named < 2 ^ 32) (places : length v.ring ≡ 32) (accepted : v.answer ≡ done) where
  pub strip_read : (rest : List ℕ) → verdict_in (strip_of v ++ rest) ≡ v
  unfolding strip_of verdict_in
  strip_read rest = λ i. record {
    answer = sym accepted i;
    named = bytes_of v.named fits i;
    count = v.count;
    length = v.length;
    ring = take_at v.ring rest 32 places i;
  }

  pub read_back : (strip : List ℕ) → verdict_in (strip_after v strip) ≡ v
  unfolding strip_after
  read_back strip = rw (eq-eqb v.answer done accepted) (strip_read (drop 38 strip))

-- so what a host reads after answer 0 is the verdict of the sheet
module _ (sheet : List ℕ) (route : ℕ) (before after : List ℕ) (x : Entered sheet route before after done) where
  pub entered_judged : VerdictOf sheet route (verdict_in after)
  entered_judged =
      let r = done_reached sheet route before after done x refl in
      let v = r.verdict in
      let f = sheet_fits sheet route v r.judged (sym r.answers) in
      subst (VerdictOf sheet route) (sym (ap verdict_in r.strip ∙ read_back v f.mask f.places (sym r.answers) before)) r.judged

  pub entered_read : (v : Verdict) → VerdictOf sheet route v → verdict_in after ≡ v
  entered_read v j = sheet_judged_one sheet route (verdict_in after) v entered_judged j
