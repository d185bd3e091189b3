-- The judge, to compute with.
use mathlib.Core.Path.{◌≡◌, refl, ap, ◌∙◌}
use mathlib.Core.Bool.{Bool, true, ◌&&◌, cond}
use mathlib.Core.List.{List, [], ◌++◌}
use Prim.Native.Nat.{ℕ, ◌-◌, ◌^◌, ◌<◌}
use native.Mathlib.Decide.{dec_lt}
use native.Mathlib.Nat.{zero-add}
use native.Mathlib.Omega.{arith}
use lib.Dec.{ltb}
use lib.ListN.{get_or, length, replicate}
use borrow.Author.Tests.{lt-ltb, le-ltb}
use Rattle.std.specs.Prelude.{Option, Some}
use Rattle.sets.specs.Set.{Has}
use Rattle.sets.proofs.Members.{has_lt, none_has, full_has}
use Rattle.sets.proofs.Least.{least_along}
use Rattle.sets.proofs.Masks.{mask_of, mask_has}
use Rattle.sets.proofs.Widths.{members_fit}
use Rattle.deadlock.specs.Walk.{Row, NamedBy}
use Rattle.deadlock.specs.Ring.{Step, Ring, RingIn, Comes, nobody, round}
use Rattle.deadlock.specs.declared.ring.Round.{Round}
use Rattle.deadlock.proofs.Walks.{first}
use Rattle.deadlock.proofs.Found.{places, get_d_places}
use Rattle.deadlock.proofs.Moves.{ring_moves}
use Rattle.deadlock.proofs.Twins.{named_of, named_of_named, ring_of, nexts_of, rows_ring}
use Rattle.answers.specs.Answers.{not_sound, no_route}
use Rattle.states.specs.Parts.{event_of}
use Rattle.states.specs.State.{is_blocked}
use Rattle.states.proofs.Events.{is_blocked_lem}
use Rattle.states.proofs.Truth.{and_left, and_right}
use Rattle.hall.specs.Parts.{sound_of}
use Rattle.hall.specs.Table.{state_at}
use Rattle.hall.specs.Waiting.{impedes_of, ImpedesTask}
use Rattle.hall.specs.declared.table.Table.{Table}
use Rattle.hall.proofs.Impeded.{blocked_below}
use Rattle.hall.proofs.Looking.{impedes_task}
use Rattle.judge.specs.Routes.{largest_route, TaskRoute}
use Rattle.judge.specs.Verdict.{nobody as nobody_of, verdict_of, Judged}
use Rattle.judge.specs.declared.verdict.Verdict.{Verdict}
use Rattle.judge.proofs.Named.{found_by}
use Rattle.judge.proofs.Tasks.{Edges, rows_named}

-- all 32: who awaits nothing has no edge, so it is no matter that not only the blocked are looked at
abbrev everybody : ℕ
everybody = 2 ^ 32 - 1

-- ---- the edges of the task route, as rows
abbrev edge_of : Table → ℕ → ℕ → Bool
edge_of t k u = is_blocked (state_at t u) && impedes_of t u (event_of (state_at t k))

unfoldable pub rows_of : Table → List ℕ
rows_of t = places (λ k. mask_of (edge_of t k) 32) 0 32

module _ (t : Table) where
  row_at : (k : ℕ) → k < 32 → get_or (rows_of t) k 0 ≡ mask_of (edge_of t k) 32
  unfolding rows_of
  row_at k l = get_d_places (λ k. mask_of (edge_of t k) 32) 0 32 k l ∙ ap (λ k. mask_of (edge_of t k) 32) (zero-add k)

  row_iff : Edges t everybody (rows_of t)
  row_iff k u = (into, from)
    where
      into : Row everybody (rows_of t) k u → (is_blocked (state_at t u) ≡ true) × ImpedesTask t k u
      into r =
          let l = has_lt 32 everybody k (omega arith) r.0 in
          let h = (mask_has (edge_of t k) 32 u (omega arith)).0 (rw (row_at k l) at r.1) in
          let b = is_blocked (state_at t u) in
          let i = impedes_of t u (event_of (state_at t k)) in
          (and_left b i h.1, (impedes_task t k u).0 (and_right b i h.1))

      from : (is_blocked (state_at t u) ≡ true) × ImpedesTask t k u → Row everybody (rows_of t) k u
      from h =
          let b = is_blocked_lem (state_at t u) h.0 in
          let l = blocked_below t k h.1.event h.1.waits in
          let e : edge_of t k u ≡ true = rw (h.0, (impedes_task t k u).1 h.1) refl in
          (full_has 32 k l, rw (row_at k l) ((mask_has (edge_of t k) 32 u (omega arith)).1 (blocked_below t u b.0 b.1, e)))

-- ---- the named set
unfoldable pub named_in : Table → ℕ
named_in t = named_of (rows_of t) everybody

named_by : (t : Table) → NamedBy (Row everybody (rows_of t)) (named_in t)
unfolding named_in
named_by t = named_of_named (rows_of t) everybody (omega arith)

pub named_in_lem : (t : Table) → TaskRoute t (named_in t)
named_in_lem t = rows_named t everybody (rows_of t) (row_iff t) (named_in t) (named_by t)

pub named_fits : (t : Table) → named_in t < 2 ^ 32
named_fits t = members_fit 32 (named_in t) (λ k h. let e = first (((named_in_lem t).iff k).0 h) in blocked_below t k e.event e.waits)

-- ---- the ring
unfoldable pub ring_in : Table → List ℕ
ring_in t = ring_of (nexts_of (rows_of t) (named_in t)) (named_in t)

pub ring_in_lem : (t : Table) → 0 < named_in t → Ring (Has (named_in t)) (ImpedesTask t) (ring_in t)
unfolding ring_in
ring_in_lem t p =
    ring_moves (Has (named_in t)) (Row everybody (rows_of t)) (ImpedesTask t) steps (ring_in t)
    (rows_ring everybody (rows_of t) (named_in t) (named_fits t) (named_by t) p)
  where
    blocked : (u : ℕ) → Has (named_in t) u → is_blocked (state_at t u) ≡ true
    blocked u h = let e = first (((named_in_lem t).iff u).0 h) in ap is_blocked e.waits

    steps : (k u : ℕ) → Has (named_in t) k → Step (Has (named_in t)) (Row everybody (rows_of t)) k u → Step (Has (named_in t)) (ImpedesTask t) k u
    steps k u h = least_along (λ v q. (q.0, ((row_iff t k v).0 q.1).1)) (λ v q. (q.0, (row_iff t k v).1 (blocked v q.0, q.1)))

-- ---- the verdict
abbrev round_of : List ℕ → Round
round_of r = record { length = length r; tasks = r ++ replicate (32 - length r) 255 }

unfoldable pub round_in : Table → Option Round
round_in t = Some (round_of (cond (ltb 0 (named_in t)) (ring_in t) []))

round_in_lem : (t : Table) → RingIn (Has (named_in t)) (ImpedesTask t) (round_in t)
unfolding round_in
round_in_lem t = record { ring = cond (ltb 0 (named_in t)) (ring_in t) []; comes = go (dec_lt 0 (named_in t)); long = refl; places = refl }
  where
    go : Dec (0 < named_in t) → Comes (Has (named_in t)) (ImpedesTask t) true (cond (ltb 0 (named_in t)) (ring_in t) [])
    go (yes p) = rw (lt-ltb 0 (named_in t) p) (round (ring_in_lem t p))
    go (no p) = let z : named_in t ≡ 0 = omega arith in rw (le-ltb 0 (named_in t) (omega arith)) (nobody (λ k h. none_has k (rw z at h)))

unfoldable pub judge_of : Table → ℕ → Verdict
judge_of t route = cond (ltb largest_route route) (nobody_of no_route) (cond (sound_of t) (verdict_of (named_in t) (round_in t)) (nobody_of not_sound))

-- what it computes is what the judge hands back
pub judge_of_judged : (t : Table) (route : ℕ) → Judged t route (judge_of t route)
unfolding judge_of
judge_of_judged t route = record {
  no_route = λ l. rw (lt-ltb largest_route route l) refl;
  unsound = λ l s. rw (le-ltb largest_route route l, s) refl;
  found = λ l s. found_by t route (named_in t) _ (round_in t) (named_in_lem t) (round_in_lem t) (rw (le-ltb largest_route route l, s) refl);
}
