-- Exactly when each answer comes, and what the verdict holds where it is 0.
use mathlib.Core.Path.{◌≡◌, refl, sym, ap, subst}
use mathlib.Core.Bool.{Bool, true, false}
use mathlib.Core.List.{List}
use mathlib.Core.Logic.{◌↔◌}
use Prim.Native.Nat.{ℕ, zero, suc, ◌^◌, ◌≤◌, ◌<◌}
use native.Mathlib.Decide.{dec_lt}
use native.Mathlib.Omega.{arith}
use lib.Count.{ones}
use Rattle.std.specs.Prelude.{Option, None, Some, []}
use Rattle.states.proofs.Truth.{clash}
use Rattle.sets.specs.Set.{Has, size}
use Rattle.sets.proofs.Sizes.{ones_size}
use Rattle.sets.proofs.Widths.{members_fit}
use Rattle.deadlock.specs.Waiting.{TaskNamed, Stuck}
use Rattle.deadlock.specs.Ring.{DeadEnd, Comes, nobody, round, stops, RingIn}
use Rattle.deadlock.specs.declared.ring.Round.{Round}
use Rattle.deadlock.proofs.Walks.{first}
use Rattle.answers.specs.Answers.{done, not_sound, no_step, no_route}
use Rattle.hall.specs.Parts.{sound_of}
use Rattle.hall.specs.Waiting.{BlockedOn, Impedes, ImpedesTask}
use Rattle.hall.specs.declared.table.Table.{Table}
use Rattle.hall.proofs.Impeded.{blocked_below}
use Rattle.judge.specs.Routes.{largest_route, TaskRoute}
use Rattle.judge.specs.Verdict.{verdict_of, Found, Judged}
use Rattle.judge.specs.declared.verdict.Verdict.{Verdict}
use Rattle.judge.proofs.Named.{task_stuck, found_named, named_next}

-- ---- the ring walk always finds a task to step to
no_end : (N : ℕ → Type 0) (E : ℕ → ℕ → Type 0) → ((k : ℕ) → N k → (u : ℕ) × N u × E k u) → DeadEnd N E → ⊥
no_end N E next x = let u = next (x.walk x.after) (here x.after (omega arith)) in x.none u.0 u.1 u.2
  where
    here : (k : ℕ) → k ≤ x.after → N (x.walk k)
    here zero l = x.starts.holds
    here (suc k) l = (x.steps k (omega arith)).holds.0

never_stops : (N : ℕ → Type 0) (E : ℕ → ℕ → Type 0) → ((k : ℕ) → N k → (u : ℕ) × N u × E k u) → Comes N E false [] → ⊥
never_stops N E next x = go false [] x refl
  where
    go : (b : Bool) (l : List ℕ) → Comes N E b l → b ≡ false → ⊥
    go _ _ (nobody n) e = clash refl e
    go _ _ (round y) e = clash refl e
    go _ _ (stops y) e = no_end N E next y

module _ (t : Table) where
  pub never_ends : DeadEnd (TaskNamed (BlockedOn t) (Impedes t)) (ImpedesTask t) → ⊥
  never_ends = no_end _ _ (named_next t)

  -- ---- answer 0: the mask is of those whom some totally deadlocked set holds, the count is theirs, also as `count_ones` counts, and the ring is
  -- document 01's
  pub record Holds (v : Verdict) : Type 1 where
    pub answer : v.answer ≡ done
    pub stuck : (k : ℕ) → Has v.named k ↔ Stuck (BlockedOn t) (Impedes t) k
    pub count : v.count ≡ size v.named 32
    pub count_ones : v.count ≡ ones v.named
    pub ring : RingIn (Has v.named) (ImpedesTask t) (Some (record { length = v.length; tasks = v.ring }))

  found_holds : (route : ℕ) (v : Verdict) → route ≤ largest_route → Found t route v → Holds v
  found_holds route v l x = holds x.round x.ring x.verdict
    where
      named : TaskRoute t x.named
      named = found_named t route v l x

      next : (k : ℕ) → Has x.named k → (u : ℕ) × Has x.named u × ImpedesTask t k u
      next k h = let u = named_next t k ((named.iff k).0 h) in (u.0, (named.iff u.0).1 u.1, u.2)

      fits : x.named < 2 ^ 32
      fits = members_fit 32 x.named (λ k h. let e = first ((named.iff k).0 h) in blocked_below t k e.event e.waits)

      holds : (r : Option Round) → RingIn (Has x.named) (ImpedesTask t) r → v ≡ verdict_of x.named r → Holds v
      holds None ring e = absurd (never_stops _ _ next ring)
      holds (Some r) ring e =
          subst Holds (sym e)
          (record { answer = refl; stuck = task_stuck t x.named named; count = refl; count_ones = sym (ones_size 32 x.named fits); ring = ring })

  module _ (route : ℕ) (v : Verdict) (j : Judged t route v) where
    pub judged_holds : route ≤ largest_route → sound_of t ≡ true → Holds v
    judged_holds l s = found_holds route v l (j.found l s)

    -- ---- each answer, by the three cases
    data Case : Type 1 where
      no_such_route : largest_route < route → v.answer ≡ no_route → Case
      table_unsound : route ≤ largest_route → sound_of t ≡ false → v.answer ≡ not_sound → Case
      sound : route ≤ largest_route → sound_of t ≡ true → v.answer ≡ done → Case

    cases : Case
    cases = go (dec_lt largest_route route) (sound_of t) refl
      where
        go : Dec (largest_route < route) → (b : Bool) → sound_of t ≡ b → Case
        go (yes l) b e = no_such_route l (ap (λ w. w.answer) (j.no_route l))
        go (no l) false e = table_unsound (omega arith) e (ap (λ w. w.answer) (j.unsound (omega arith) e))
        go (no l) true e = sound (omega arith) e (judged_holds (omega arith) e).answer

    pub answer_41 : (v.answer ≡ no_route) ↔ (largest_route < route)
    answer_41 = (go cases, λ l. ap (λ w. w.answer) (j.no_route l))
      where
        go : Case → v.answer ≡ no_route → largest_route < route
        go (no_such_route l e) h = l
        go (table_unsound l s e) h = absurd (omega arith)
        go (sound l s e) h = absurd (omega arith)

    pub answer_44 : (v.answer ≡ not_sound) ↔ ((route ≤ largest_route) × (sound_of t ≡ false))
    answer_44 = (go cases, λ h. ap (λ w. w.answer) (j.unsound h.0 h.1))
      where
        go : Case → v.answer ≡ not_sound → (route ≤ largest_route) × (sound_of t ≡ false)
        go (no_such_route l e) h = absurd (omega arith)
        go (table_unsound l s e) h = (l, s)
        go (sound l s e) h = absurd (omega arith)

    pub answer_0 : (v.answer ≡ done) ↔ ((route ≤ largest_route) × (sound_of t ≡ true))
    answer_0 = (go cases, λ h. (judged_holds h.0 h.1).answer)
      where
        go : Case → v.answer ≡ done → (route ≤ largest_route) × (sound_of t ≡ true)
        go (no_such_route l e) h = absurd (omega arith)
        go (table_unsound l s e) h = absurd (omega arith)
        go (sound l s e) h = (l, s)

    -- 22 comes exactly where the walk comes to a dead end; and it never does
    pub never_22 : v.answer ≡ no_step → ⊥
    never_22 h = go cases
      where
        go : Case → ⊥
        go (no_such_route l e) = omega arith
        go (table_unsound l s e) = omega arith
        go (sound l s e) = omega arith

    pub answer_22 : (v.answer ≡ no_step)
        ↔ ((route ≤ largest_route) × (sound_of t ≡ true) × DeadEnd (TaskNamed (BlockedOn t) (Impedes t)) (ImpedesTask t))
    answer_22 = (λ h. absurd (never_22 h), λ h. absurd (never_ends h.2))
