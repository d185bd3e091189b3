-- A verdict with answer 0 fits the strip.
use mathlib.Core.Path.{◌≡◌, ap, ◌∙◌, sym}
use mathlib.Core.Bool.{Bool, true}
use mathlib.Core.List.{List}
use Prim.Native.Nat.{ℕ, ◌-◌, ◌^◌, ◌≤◌, ◌<◌}
use native.Mathlib.Decide.{dec_lt, ℕ_discrete}
use native.Mathlib.Omega.{arith}
use lib.ListN.{length, replicate, length-append, length-replicate}
use Rattle.sets.specs.Set.{Has}
use Rattle.sets.proofs.Sizes.{size_le}
use Rattle.deadlock.specs.Ring.{Comes, nobody, round, stops}
use Rattle.deadlock.proofs.Rings.{ring_short}
use Rattle.answers.specs.Answers.{done}
use Rattle.hall.specs.declared.table.Table.{Table}
use Rattle.hall.proofs.Impeded.{blocked_below}
use Rattle.hall.specs.Waiting.{ImpedesTask}
use Rattle.judge.specs.declared.verdict.Verdict.{Verdict}
use Rattle.judge.proofs.Answers.{Holds, judged_holds, answer_0}
use Rattle.judge.specs.Routes.{largest_route}
use Rattle.sets.proofs.Widths.{members_fit}
use Rattle.judge.specs.OfSheet.{VerdictOf}
use Rattle.sheet.specs.Reader.{sheet_at}

-- the mask is of 32 tasks, count and ring length are bytes, the ring has 32 places
pub record Fits (v : Verdict) : Type 0 where
  pub mask : v.named < 2 ^ 32
  pub count : v.count < 256
  pub ring_length : v.length < 256
  pub places : length v.ring ≡ 32

module _ (t : Table) (v : Verdict) (h : Holds t v) where
  mask_fits : v.named < 2 ^ 32
  mask_fits =
      members_fit 32 v.named
      (λ k m.
      let x = (h.stuck k).0 m in
      let w = x.deadlocked.each k x.holds in
      blocked_below t k w.event w.waits)

  ring_fits : (b : Bool) (r : List ℕ) → Comes (Has v.named) (ImpedesTask t) b r → length r ≤ 32
  ring_fits _ _ (nobody n) = omega arith
  ring_fits _ r (round x) = omega (arith, ring_short 32 v.named mask_fits (ImpedesTask t) r x, size_le 32 v.named)
  ring_fits _ _ (stops x) = omega arith

  holds_fits : Fits v
  holds_fits =
      let x = h.ring in
      let s = ring_fits true x.ring x.comes in
      record {
        mask = mask_fits;
        count = omega (arith, h.count, size_le 32 v.named);
        ring_length = omega (arith, x.long, s);
        places =
            ap length x.places
            ∙ (length-append x.ring (replicate (32 - length x.ring) 255)
            ∙ omega (arith, s, length-replicate {A = ℕ} (32 - length x.ring) 255));
      }

pub sheet_fits : (sheet : List ℕ) (route : ℕ) (v : Verdict) → VerdictOf sheet route v → v.answer ≡ done → Fits v
sheet_fits sheet route v j e = go (dec_lt largest_route route) (ℕ_discrete (sheet_at sheet).answer done)
  where
    go : Dec (largest_route < route) → Dec ((sheet_at sheet).answer ≡ done) → Fits v
    go (yes l) d = absurd (omega (arith, e, ap (λ (w : Verdict). w.answer) (j.no_route l)))
    go (no l) (yes a) =
        let t = (sheet_at sheet).table in
        let k = j.judged (omega arith) a in
        let h = (answer_0 t route v k).0 e in
        holds_fits t v (judged_holds t route v k h.0 h.1)
    go (no l) (no a) = absurd (a (sym (ap (λ (w : Verdict). w.answer) (j.refused (omega arith) a)) ∙ e))
