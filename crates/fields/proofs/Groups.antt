-- The loop over a number's groups: those that are read stand as a value below a weight, and what follows is carried over them.
use Prim.Native.Nat.{ℕ, zero, suc, ◌+◌, ◌-◌, ◌*◌, ◌^◌, ◌≤◌, ◌<◌}
use mathlib.Core.Path.{◌≡◌, refl, sym}
use mathlib.Core.List.{List}
use mathlib.Core.Bool.{Bool, cond, true, false}
use native.Mathlib.Nat.{add-mul, mul_assoc, mul_comm, add_assoc, mul-le-mul_right}
use native.Mathlib.Omega.{arith}
use lib.Dec.{eqb}
use lib.ListN.{length, get_or}
use borrow.Author.Tests.{eqb-false, ne_eqb, lt-ltb, le-ltb, lt-leb}
use Rattle.answers.specs.Answers.{needless_group}
use Rattle.fields.specs.Got.{Got, value, refused, onward}
use Rattle.fields.specs.Figures.{further}
use Rattle.fields.specs.Number.{carried, groups_at}

abbrev pub over : ℕ → ℕ → Got ℕ → Got ℕ
over low weight g = onward g (λ high next. cond (eqb high 0) (refused needless_group) (value (low + high * weight) next))

spread : (low x w v : ℕ) → low + (x + v * 128) * w ≡ low + x * w + v * (w * 128)
spread low x w v = rw (add-mul x (v * 128) w, mul_assoc v 128 w, mul_comm 128 w, add_assoc)

over_carried : (low w x : ℕ) (g : Got ℕ) → over low w (carried x g) ≡ over (low + x * w) (w * 128) g
over_carried low w x (refused n) = refl
over_carried low w x (value v next) = go (eqb v 0) refl
  where
    go : (b : Bool) → eqb v 0 ≡ b → over low w (carried x (value v next)) ≡ over (low + x * w) (w * 128) (value v next)
    go true e = rw e
    go false e =
        let z : eqb (x + v * 128) 0 ≡ false = ne_eqb (x + v * 128) 0 (λ y. eqb-false v 0 e (omega arith)) in
        rw (e, z, spread low x w v)

module _ (low w : ℕ) (s : List ℕ) (at : ℕ) where
  pub over_last : (left : ℕ) → 0 < left → at < length s → ¬ (get_or s at 0 ≡ 0) → get_or s at 0 < 128
      → value (low + get_or s at 0 * w) (at + 1) ≡ over low w (groups_at left s at)
  over_last zero h l e b = elim h [ ]
  over_last (suc m) h l e b = rw (lt-leb (length s) at l, lt-ltb _ 128 b, ne_eqb _ 0 e)

  pub over_turn : (left less next : ℕ) → left ≡ suc less → next ≡ at + 1 → at < length s → 128 ≤ get_or s at 0
      → over (low + (get_or s at 0 - 128) * w) (w * 128) (groups_at less s next) ≡ over low w (groups_at left s at)
  over_turn left less next e f h b =
      rw (e, f, lt-leb (length s) at h, le-ltb (get_or s at 0) 128 b) (sym (over_carried low w (get_or s at 0 - 128) (groups_at less s (at + 1))))

-- ---- what is read stays far below what a word holds
pub record Below (value weight i : ℕ) : Type 0 where
  pub low : value < weight
  pub weighs : weight ≤ 128 ^ suc i

pow_rises : (i j : ℕ) → 128 ^ i ≤ 128 ^ (i + j)
pow_rises i zero = let z : i + 0 ≡ i = omega arith in rw z (omega arith)
pow_rises i (suc j) = let z : i + suc j ≡ suc (i + j) = omega arith in rw z (omega (arith, pow_rises i j))

module _ {value weight i : ℕ} (b : Below value weight i) where
  pub weight_small : i < further → weight ≤ 128 ^ further
  weight_small h =
      let z : suc i + (further - suc i) ≡ further = omega arith in
      omega (arith, b.weighs, rw z at (pow_rises (suc i) (further - suc i)))

  pub product_small : i < further → (group : ℕ) → group < 128 → group * weight ≤ 127 * 128 ^ further
  product_small h group g = let l : group ≤ 127 = omega arith in omega (arith, weight_small h, mul-le-mul_right weight l)

  pub below_turn : (group : ℕ) → group < 128 → Below (value + group * weight) (weight * 128) (i + 1)
  below_turn group h =
      let l : group ≤ 127 = omega arith in
      let z : i + 1 ≡ suc i = omega arith in
      record {
        low = omega (arith, b.low, mul-le-mul_right weight l);
        weighs = rw z (omega (arith, b.weighs));
      }
