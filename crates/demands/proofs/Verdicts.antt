-- What a verdict on a table says: demands 2 and 3, of what the judge promises.
use mathlib.Core.Path.{◌≡◌, refl, ap, sym, ◌∙◌}
use mathlib.Core.Logic.Iff
use mathlib.Core.Logic.{⊎_elim, ◌↔◌}
use mathlib.Core.Bool.{Bool, true, false}
use mathlib.Core.List.{[], ◌∷◌}
use Prim.Native.Nat.{ℕ, ◌<◌, ◌≤◌}
use native.Mathlib.Decide.{dec_lt}
use native.Mathlib.Omega.{arith}
use Rattle.sets.specs.Set.{Has}
use Rattle.answers.specs.Answers.{done, not_sound, among, no_route}
use Rattle.hall.specs.Rules.{phasers_of}
use Rattle.hall.specs.Sound.{Sound}
use Rattle.hall.specs.Parts.{sound_of}
use Rattle.hall.specs.Table.{Shaped}
use Rattle.hall.specs.declared.table.Table.{Table}
use Rattle.states.proofs.Truth.{clash, decide}
use Rattle.hall.proofs.Soundness.{sound_iff}
use Rattle.judge.specs.Verdict.{nobody, Judged}
use Rattle.judge.specs.Routes.{largest_route, TaskRoute, EventRoute}
use Rattle.judge.specs.declared.verdict.Verdict.{Verdict}
use Rattle.judge.proofs.Answers.{Holds, judged_holds, answer_0, answer_41, answer_44}
use Rattle.judge.proofs.Named.{task_stuck, task_one, event_task}
use Rattle.demands.specs.Demands.{NamesTheStuck, MeansNever, RoutesAgree, TableJudged}
use Rattle.demands.specs.Series.{StuckIn, WayOn}
use Rattle.demands.proofs.Paper.{stuck_iff_deadlocked, stands}
use Rattle.demands.proofs.Stuck.{StuckAt, stuck_iff}
use Rattle.demands.proofs.WayOn.{stuck_or_way_on, stuck_iff_never}

-- ---- of a sound table
module _ (t : Table) (z : Shaped t) (s : Sound t) (v : Verdict) (h : Holds t v) where
  stuck_in : (k : ℕ) → Has v.named k ↔ StuckIn t k
  stuck_in k = (λ n. (stuck_iff t k).1 ((h.stuck k).0 n), λ x. (h.stuck k).1 ((stuck_iff t k).0 x))

  pub names_the_stuck : NamesTheStuck t v
  names_the_stuck = record {
    named = stuck_in;
    paper = λ M T f k. Iff.trans (stuck_in k) (stuck_iff_deadlocked t s M T f k);
    stands = (phasers_of t, _, stands t s);
    count = h.count;
    ring = h.ring;
  }

  pub means_never : MeansNever t v
  means_never = record {
    never = λ k e b. (λ n. (stuck_iff_never t z s k e b).0 ((h.stuck k).0 n), λ n. (h.stuck k).1 ((stuck_iff_never t z s k e b).1 n));
    way_on = λ k e b n. ⊎_elim (λ (x : StuckAt t k). absurd (n ((h.stuck k).1 x))) (λ (w : WayOn t k). w) (stuck_or_way_on t z s k e b);
  }

-- ---- of any table, by any route
module _ (t : Table) (z : Shaped t) (route : ℕ) (v : Verdict) (j : Judged t route v) where
  judged_sound : v.answer ≡ done → (route ≤ largest_route) × (sound_of t ≡ true)
  judged_sound = (answer_0 t route v j).0

  holds : v.answer ≡ done → Holds t v
  holds e = let x = judged_sound e in judged_holds t route v j x.0 x.1

  -- no route, or a table that is not sound; the verdict of nobody
  refusals : (among v.answer (done ∷ no_route ∷ not_sound ∷ []) ≡ true) × ((v.answer ≡ done → ⊥) → v ≡ nobody v.answer)
  refusals = go (dec_lt largest_route route) (sound_of t) refl
    where
      refused : (n : ℕ) → v ≡ nobody n → among n (done ∷ no_route ∷ not_sound ∷ []) ≡ true
          → (among v.answer (done ∷ no_route ∷ not_sound ∷ []) ≡ true) × ((v.answer ≡ done → ⊥) → v ≡ nobody v.answer)
      refused n e a = (rw e a, λ x. e ∙ ap nobody (sym (ap (λ (w : Verdict). w.answer) e)))

      go : Dec (largest_route < route) → (b : Bool) → sound_of t ≡ b
          → (among v.answer (done ∷ no_route ∷ not_sound ∷ []) ≡ true) × ((v.answer ≡ done → ⊥) → v ≡ nobody v.answer)
      go (yes l) b s = refused no_route (j.no_route l) refl
      go (no l) false s = refused not_sound (j.unsound (omega arith) s) refl
      go (no l) true s = let d = (answer_0 t route v j).1 (omega arith, s) in (rw d refl, λ n. absurd (n d))

  pub table_judged : TableJudged t route v
  table_judged = record {
    is = j;
    no_route = answer_41 t route v j;
    not_sound =
        let i = answer_44 t route v j in (
          λ e. let x = i.0 e in (x.0, λ s. clash ((sound_iff t).1 s) x.1),
          λ x. i.1 (x.0, ⊎_elim (λ (q : sound_of t ≡ true). absurd (x.1 ((sound_iff t).0 q))) (λ q. q) (decide (sound_of t))),
        );
    accepted =
        let i = answer_0 t route v j in
        (λ e. let x = i.0 e in (x.0, (sound_iff t).0 x.1), λ x. i.1 (x.0, (sound_iff t).1 x.1));
    own = refusals.0;
    refusal = refusals.1;
    names = λ e. names_the_stuck t z ((sound_iff t).0 (judged_sound e).1) v (holds e);
    never = λ e. means_never t z ((sound_iff t).0 (judged_sound e).1) v (holds e);
  }

-- ---- the sets that the two routes hand back
module _ (t : Table) (tasks events : ℕ) (x : TaskRoute t tasks) (y : EventRoute t events) where
  agree : RoutesAgree t tasks events
  agree = record {
    same = task_one t tasks events x (event_task t events y);
    stuck = λ k. let i = task_stuck t tasks x k in (λ h. (stuck_iff t k).1 (i.0 h), λ s. i.1 ((stuck_iff t k).0 s));
  }

  pub sets_agree : (m n : ℕ) → m ≡ tasks → n ≡ events → RoutesAgree t m n
  sets_agree m n p q = rw (p, q) agree
