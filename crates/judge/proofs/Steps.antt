-- The ring's steps: for each of the named, the lowest named one that impedes its event.
use mathlib.Core.Path.{◌≡◌, refl, sym, ◌∙◌, subst}
use mathlib.Core.List.{List}
use mathlib.Core.Logic.{◌↔◌, ◌⊎◌, inl, inr}
use Prim.Native.Nat.{ℕ, ◌%◌, ◌^◌, ◌<◌}
use native.Mathlib.Decide.{ℕ_discrete}
use native.Mathlib.Omega.{arith}
use lib.ListN.{get_or, length, replicate, set, length-set, get_or-replicate}
use lib.Seq.{get_or-set_same, get_or-set_other}
use Rattle.sets.specs.Set.{Has, Least}
use Rattle.sets.proofs.Members.{Taken, has_lt, none_has}
use Rattle.sets.proofs.Least.{least_along}
use Rattle.deadlock.specs.Ring.{Step}
use Rattle.states.specs.Parts.{event_of}
use Rattle.states.specs.State.{free_task}
use Rattle.states.specs.Waiting.{Awaited}
use Rattle.seating.specs.declared.seats.Seats.{Seats}
use Rattle.hall.specs.Parts.{Late}
use Rattle.hall.specs.Waiting.{Impedes, ImpedesTask}
use Rattle.hall.specs.declared.table.Table.{Table}
use Rattle.hall.proofs.Looking.{event_read, impedes_task}
use Rattle.hall.proofs.Seating.{seated_impedes}
use Rattle.judge.specs.Parts.{NamedSeats, LowestWith, NextsOf}

module _ (t : Table) (named : ℕ) where
  abbrev StepsTo : ℕ → ℕ → Type 0
  StepsTo k = LowestWith (λ u. Has named u × ImpedesTask t k u)

  -- ---- the first late one of the named members at the phaser of k's event is k's step
  module _ (s : Seats) (sits : NamedSeats t s named) (k : ℕ) (l : k < 32) (e : Awaited) (event : e ≡ event_of (get_or t.tasks k free_task).state)
      (p : ℕ) (column : p ≡ e.phaser.0 % 16) (start : ℕ) (both : (u : ℕ) → Has start u ↔ (Has (get_or s.members p 0) u × Has named u)) where
    late_impedes : (u : ℕ) → (Has start u × Late t u e) ↔ (Has named u × ImpedesTask t k u)
    late_impedes u =
        let i = seated_impedes t s sits.seats e p column u in
        let q = event_read t k l e event in
        let task = impedes_task t k u in (
          λ x. let m = (both u).0 x.0 in (m.1, task.0 (subst (Impedes t u) q (i.0 (m.0, x.1)).1)),
          λ x.
              let m = i.1 (sits.within u x.0, subst (Impedes t u) (sym q) (task.1 x.1)) in
              ((both u).1 (m.0, x.0), m.1),
        )

    pub step_found : (u : ℕ) → Least (λ v. Has start v × Late t v e) u → StepsTo k u
    step_found u low = inl (least_along (λ v. (late_impedes v).0) (λ v. (late_impedes v).1) low)

    pub none_found : ((v : ℕ) → Has start v → Late t v e → ⊥) → (v : ℕ) → Has named v × ImpedesTask t k v → ⊥
    none_found none v h = let x = (late_impedes v).1 h in none v x.0 x.1

  -- ---- those of the named who are not to come any more have their step, the others 32
  pub record Stepped (next : List ℕ) (todo : ℕ) : Type 0 where
    pub long : length next ≡ 32
    pub waits : (k : ℕ) → Has todo k → get_or next k 0 ≡ 32
    pub each : (k : ℕ) → Has named k → (Has todo k → ⊥) → StepsTo k (get_or next k 0)

  pub step_start : named < 2 ^ 32 → Stepped (replicate 32 32) named
  step_start f = record {
    long = refl;
    waits = λ k h. get_or-replicate {A = ℕ} 32 k 32 0 (has_lt 32 named k f h);
    each = λ k h n. absurd (n h);
  }

  module _ (next : List ℕ) (todo k rest : ℕ) (g : Stepped next todo) (here : Has todo k) (taken : Taken todo k rest) where
    pub step_more : (u : ℕ) → k < 32 → StepsTo k u → Stepped (set next k u) rest
    step_more u l step = record {
      long = length-set next k u ∙ g.long;
      waits = λ j h. let q = (taken j).0 h in get_or-set_other next k j u 0 q.1 ∙ g.waits j q.0;
      each = λ j h n. go j h n (ℕ_discrete j k);
    }
      where
        go : (j : ℕ) → Has named j → (Has rest j → ⊥) → Dec (j ≡ k) → StepsTo j (get_or (set next k u) j 0)
        go j h n (yes e) =
            let z = g.long in
            subst (λ i. StepsTo i (get_or (set next k u) i 0)) (sym e) (rw (get_or-set_same next k u 0 (omega arith)) step)
        go j h n (no e) = rw (get_or-set_other next k j u 0 e) (g.each j h (λ x. n ((taken j).1 (x, e))))

    pub step_none : ((v : ℕ) → Has named v × ImpedesTask t k v → ⊥) → Stepped next rest
    step_none none = record { long = g.long; waits = λ j h. g.waits j ((taken j).0 h).0; each = λ j h n. go j h n (ℕ_discrete j k) }
      where
        go : (j : ℕ) → Has named j → (Has rest j → ⊥) → Dec (j ≡ k) → StepsTo j (get_or next j 0)
        go j h n (yes e) = subst (λ i. StepsTo i (get_or next i 0)) (sym e) (inr (none, g.waits k here))
        go j h n (no e) = g.each j h (λ x. n ((taken j).1 (x, e)))

  pub step_done : (next : List ℕ) (todo : ℕ) → todo ≡ 0 → Stepped next todo → NextsOf t named next
  step_done next todo z g = record { each = λ k h. g.each k h (rw z (none_has k)) }

  -- ---- there is a step and the number is it, or there is none and the number is no named task's
  abbrev StepsBy : ℕ → ℕ → Type 0
  StepsBy k u = Step (Has named) (ImpedesTask t) k u ⊎ (((v : ℕ) → Has named v → ImpedesTask t k v → ⊥) × (Has named u → ⊥))

  pub nexts_step : named < 2 ^ 32 → (next : List ℕ) → NextsOf t named next → (k : ℕ) → Has named k → StepsBy k (get_or next k 0)
  nexts_step f next n k h = go (get_or next k 0) (n.each k h)
    where
      go : (u : ℕ) → StepsTo k u → StepsBy k u
      go u (inl x) = inl x
      go u (inr x) = inr (λ v a b. x.0 v (a, b), λ q. let l = has_lt 32 named u f q in let e = x.1 in omega arith)
