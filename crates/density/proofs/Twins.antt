-- The counts, to compute with.
use mathlib.Core.Path.{◌≡◌, refl, sym, ap, subst}
use mathlib.Core.Bool.{Bool, true, false, ◌&&◌, not}
use mathlib.Core.Logic.{◌↔◌, ◌⊎◌, inl, inr}
use Prim.Native.Nat.{ℕ, zero, suc, ◌+◌, ◌*◌, ◌≤◌, ◌<◌}
use native.Mathlib.Decide.{dec_lt, ℕ_discrete}
use native.Mathlib.Omega.{arith}
use borrow.Author.Tests.{not-true, not-false}
use Rattle.sets.specs.Set.{Has, size}
use Rattle.sets.proofs.Masks.{mask_of, mask_has}
use Rattle.sets.proofs.Sizes.{size_le}
use Rattle.sets.proofs.Widths.{members_fit}
use Rattle.states.specs.Parts.{event_of, awaits_of}
use Rattle.states.specs.State.{is_blocked}
use Rattle.states.specs.Waiting.{Awaited}
use Rattle.states.proofs.Events.{is_blocked_lem, event_is, awaits_iff}
use Rattle.states.proofs.Truth.{and_left, and_right, clash, holds}
use Rattle.hall.specs.Every.{every}
use Rattle.hall.specs.Table.{state_at}
use Rattle.hall.specs.Waiting.{BlockedOn, impedes_of, ImpedesTask}
use Rattle.hall.specs.declared.table.Table.{Table}
use Rattle.hall.proofs.Every.{every_at, every_not}
use Rattle.hall.proofs.Impeded.{blocked_below}
use Rattle.hall.proofs.Lists.{every_find}
use Rattle.hall.proofs.Looking.{impedes_task}
use Rattle.density.specs.Density.{IsBlocked, DensityOf}
use Rattle.density.specs.HowMany.{HowMany, Pairs}
use Rattle.density.specs.Parts.{Stands}
use Rattle.density.specs.declared.density.Density.{Density}
use Rattle.density.proofs.Graphs.{count_events, count_task_edges, Joined, count_event_edges, Impeder, count_task_event_edges}
use Rattle.density.proofs.Many.{many_none, many_along, many_set, many_row}

-- ---- how many of the 32 tasks pass a test; how many pairs of a task below n and any task do
unfoldable pub count_of : (ℕ → Bool) → ℕ
count_of test = size (mask_of test 32) 32

unfoldable pub pairs_of : (ℕ → ℕ → Bool) → ℕ → ℕ
pairs_of test zero = 0
pairs_of test (suc n) = pairs_of test n + count_of (test n)

pub count_small : (test : ℕ → Bool) → count_of test ≤ 32
unfolding count_of
count_small test = size_le 32 (mask_of test 32)

pub pairs_small : (test : ℕ → ℕ → Bool) (n : ℕ) → pairs_of test n ≤ n * 32
unfolding pairs_of
pairs_small test zero = omega arith
pairs_small test (suc n) = let z = pairs_small test n in let y = count_small (test n) in omega arith

-- they are as many as there are with P, where the test tells of those below 32 whether they have P, and no other has it
pub count_many : (test : ℕ → Bool) (P : ℕ → Type 0) → ((k : ℕ) → P k → k < 32) → ((k : ℕ) → (test k ≡ true) ↔ P k)
    → HowMany P (count_of test)
unfolding count_of
count_many test P below iff = many_along told (many_set 32 (mask_of test 32) (members_fit 32 (mask_of test 32) (λ k h. below k ((told k).0 h))))
  where
    told : (k : ℕ) → Has (mask_of test 32) k ↔ P k
    told k = let m = mask_has test 32 k (omega arith) in (λ h. (iff k).0 (m.0 h).1, λ p. m.1 (below k p, (iff k).1 p))

module _ (test : ℕ → ℕ → Bool) (E : ℕ → ℕ → Type 0) (below : (k u : ℕ) → E k u → (k < 32) × (u < 32))
    (iff : (k u : ℕ) → (test k u ≡ true) ↔ E k u) where
  abbrev Before : ℕ → ℕ × ℕ → Type 0
  Before n p = (p.0 < n) × E p.0 p.1

  rows : (n : ℕ) → HowMany (Before n) (pairs_of test n)
  unfolding pairs_of
  rows zero = many_none (0, 0) (λ p x. absurd (omega (arith, x.0)))
  rows (suc n) = many_along (λ p. (into p, from p (ℕ_discrete p.0 n))) (many_row n (rows n) row (λ u x. let l = x.0 in omega arith))
    where
      row : HowMany (E n) (count_of (test n))
      row = count_many (test n) (E n) (λ u x. (below n u x).1) (iff n)

      into : (p : ℕ × ℕ) → Before n p ⊎ ((p.0 ≡ n) × E n p.1) → Before (suc n) p
      into p (inl x) = let l = x.0 in (omega arith, x.1)
      into p (inr x) = let q = x.0 in (omega arith, subst (λ k. E k p.1) (sym q) x.1)

      from : (p : ℕ × ℕ) → Dec (p.0 ≡ n) → Before (suc n) p → Before n p ⊎ ((p.0 ≡ n) × E n p.1)
      from p (yes q) x = inr (q, subst (λ k. E k p.1) q x.1)
      from p (no q) x = let l = x.0 in inl (omega arith, x.1)

  pub pairs_many : Pairs E (pairs_of test 32)
  pairs_many = many_along (λ p. (λ x. x.1, λ x. ((below p.0 p.1 x).0, x))) (rows 32)

-- ---- the tests
module _ (t : Table) where
  -- u awaits what k awaits
  abbrev alike_at : ℕ → ℕ → Bool
  alike_at k u = awaits_of (state_at t u) (event_of (state_at t k))

  unfoldable pub stands_at : ℕ → Bool
  stands_at k = is_blocked (state_at t k) && every (λ u. not (alike_at k u)) k

  unfoldable pub impedes_at : ℕ → ℕ → Bool
  impedes_at k u = is_blocked (state_at t u) && impedes_of t u (event_of (state_at t k))

  unfoldable pub joined_at : ℕ → ℕ → Bool
  joined_at k u = stands_at k && (stands_at u && not (every (λ v. not (alike_at u v && impedes_at k v)) 32))

  unfoldable pub impeder_at : ℕ → ℕ → Bool
  impeder_at k u = stands_at k && impedes_at k u

  unfoldable pub density_in : Density
  density_in = record {
    blocked = count_of (λ k. is_blocked (state_at t k));
    events = count_of stands_at;
    task_edges = pairs_of impedes_at 32;
    event_edges = pairs_of joined_at 32;
    task_event_edges = count_of (λ k. is_blocked (state_at t k)) + pairs_of impeder_at 32;
  }

  -- ---- what they tell
  blocked_iff : (k : ℕ) → (is_blocked (state_at t k) ≡ true) ↔ IsBlocked t k
  blocked_iff k = (is_blocked_lem (state_at t k), λ w. ap is_blocked w.1)

  is_below : (k : ℕ) → IsBlocked t k → k < 32
  is_below k w = blocked_below t k w.0 w.1

  stands_below : (k : ℕ) → Stands t k → k < 32
  stands_below k z = blocked_below t k z.event z.first.holds

  -- u awaits what k awaits, where that is e
  alike_iff : (k u : ℕ) (e : Awaited) → BlockedOn t k e → (alike_at k u ≡ true) ↔ BlockedOn t u e
  alike_iff k u e w = rw (event_is (state_at t k) e w) (awaits_iff (state_at t u) e)

  stands_iff : (k : ℕ) → (stands_at k ≡ true) ↔ Stands t k
  unfolding stands_at
  stands_iff k = (λ e. into (and_left b others e) (and_right b others e), from)
    where
      b : Bool
      b = is_blocked (state_at t k)

      others : Bool
      others = every (λ u. not (alike_at k u)) k

      into : b ≡ true → others ≡ true → Stands t k
      into e o =
          let w = is_blocked_lem (state_at t k) e in
          record { event = w.0; first = record { holds = w.1; lowest = λ u x. low u ((alike_iff k u w.0 w.1).1 x) (dec_lt u k) } }
        where
          low : (u : ℕ) → alike_at k u ≡ true → Dec (u < k) → k ≤ u
          low u x (yes l) = absurd (clash x (not-true (alike_at k u) (every_at (λ u. not (alike_at k u)) k u o l)))
          low u x (no l) = omega arith

      from : Stands t k → b && others ≡ true
      from z = rw (ap is_blocked z.first.holds, holds others none) refl
        where
          none : others ≡ false → ⊥
          none f =
              let u = every_find (λ u. not (alike_at k u)) k f in
              let x = (alike_iff k u.0 z.event z.first.holds).0 (not-false (alike_at k u.0) u.2) in
              let l = z.first.lowest u.0 x in
              let m = u.1 in
              omega arith

  impedes_iff : (k u : ℕ) → (impedes_at k u ≡ true) ↔ (IsBlocked t u × ImpedesTask t k u)
  unfolding impedes_at
  impedes_iff k u =
      let b = is_blocked (state_at t u) in
      let i = impedes_of t u (event_of (state_at t k)) in (
        λ e. ((blocked_iff u).0 (and_left b i e), (impedes_task t k u).0 (and_right b i e)),
        λ x. rw ((blocked_iff u).1 x.0, (impedes_task t k u).1 x.1) refl,
      )

  joined_iff : (k u : ℕ) → (joined_at k u ≡ true) ↔ Joined t k u
  unfolding joined_at
  joined_iff k u = (
    λ e. let r = and_right (stands_at k) (stands_at u && not none) e in
        into (and_left (stands_at k) (stands_at u && not none) e) (and_left (stands_at u) (not none) r) (not-true none (and_right (stands_at u) (not none) r)),
    from,
  )
    where
      apart : ℕ → Bool
      apart v = not (alike_at u v && impedes_at k v)

      none : Bool
      none = every apart 32

      into : stands_at k ≡ true → stands_at u ≡ true → none ≡ false → Joined t k u
      into x y f =
          let v = every_find apart 32 f in
          let both = not-false (alike_at u v.0 && impedes_at k v.0) v.2 in
          let a = and_left (alike_at u v.0) (impedes_at k v.0) both in
          let i = and_right (alike_at u v.0) (impedes_at k v.0) both in
          let z = (stands_iff u).0 y in
          let w = z.first.holds in (
            (stands_iff k).0 x,
            z,
            (v.0, ((impedes_iff k v.0).0 i).1, record { event = z.event; one = w; other = (alike_iff u v.0 z.event w).0 a }),
          )

      from : Joined t k u → stands_at k && (stands_at u && not none) ≡ true
      from (x, y, (v, i, a)) =
          let like = (alike_iff u v a.event a.one).1 a.other in
          let edge = (impedes_iff k v).1 ((a.event, a.other), i) in
          let met : apart v ≡ false = rw (like, edge) refl in
          rw ((stands_iff k).1 x, (stands_iff u).1 y, every_not apart 32 v (blocked_below t v a.event a.other) met) refl

  impeder_iff : (k u : ℕ) → (impeder_at k u ≡ true) ↔ Impeder t k u
  unfolding impeder_at
  impeder_iff k u = (
    λ e. let x = (impedes_iff k u).0 (and_right (stands_at k) (impedes_at k u) e) in ((stands_iff k).0 (and_left (stands_at k) (impedes_at k u) e), x.0, x.1),
    λ x. rw ((stands_iff k).1 x.0, (impedes_iff k u).1 (x.1, x.2)) refl,
  )

  -- ---- the twin has the five counts
  pub count_stands : HowMany (Stands t) (count_of stands_at)
  count_stands = count_many stands_at (Stands t) stands_below stands_iff

  pub density_in_counts : DensityOf t density_in
  unfolding density_in
  density_in_counts = record {
    blocked = blocked;
    events = count_events t count_stands;
    task_edges =
        count_task_edges t
        (pairs_many impedes_at (λ k u. IsBlocked t u × ImpedesTask t k u) (λ k u x. (is_below k (x.1.event, x.1.waits), is_below u x.0)) impedes_iff);
    event_edges = count_event_edges t (pairs_many joined_at (Joined t) (λ k u x. (stands_below k x.0, stands_below u x.1)) joined_iff);
    task_event_edges =
        count_task_event_edges t blocked (pairs_many impeder_at (Impeder t) (λ k u x. (stands_below k x.0, is_below u x.1)) impeder_iff);
  }
    where
      blocked : HowMany (IsBlocked t) (count_of (λ k. is_blocked (state_at t k)))
      blocked = count_many (λ k. is_blocked (state_at t k)) (IsBlocked t) is_below blocked_iff
