-- The graphs of a table, each event by the lowest task that awaits it: pairs of tasks are counted, and are as many as the edges.
use mathlib.Core.Path.{◌≡◌, refl, sym, ap, ◌∙◌, subst}
use mathlib.Core.Bool.{Bool, true, false}
use mathlib.Core.Logic.{◌↔◌, ◌⊎◌, inl, inr}
use Prim.Native.Nat.{ℕ, ◌+◌, ◌≤◌, ◌<◌}
use native.Mathlib.Nat.{le_antisymm}
use native.Mathlib.Decide.{dec_lt}
use native.Mathlib.Omega.{arith}
use Rattle.deadlock.specs.Waiting.{TaskEdge}
use Rattle.states.specs.Parts.{event_of, awaits_of}
use Rattle.states.specs.Waiting.{Awaited}
use Rattle.states.proofs.Events.{event_is, awaits_iff}
use Rattle.states.proofs.Truth.{clash}
use Rattle.hall.specs.Every.{lowest_from}
use Rattle.hall.specs.Table.{state_at}
use Rattle.hall.specs.Waiting.{BlockedOn, Impedes, ImpedesTask}
use Rattle.hall.specs.declared.table.Table.{Table}
use Rattle.hall.proofs.Impeded.{blocked_below}
use Rattle.hall.proofs.Lists.{lowest_holds, lowest_lower}
use Rattle.density.specs.Density.{IsBlocked, IsAwaited, EventGraphEdge, Node, task, event, TaskEventEdge, waits, impeded}
use Rattle.density.specs.HowMany.{HowMany, Pairs}
use Rattle.density.specs.Parts.{Alike, Stands}
use Rattle.density.proofs.Many.{many_along, many_both, many_image}

-- which of the two a node is, and a task's number
abbrev is_task : Node → Bool
is_task (task k) = true
is_task (event e) = false

abbrev number_of : Node → ℕ
number_of (task k) = k
number_of (event e) = 0

abbrev awaited_of : Awaited → Node → Awaited
awaited_of d (task k) = d
awaited_of d (event e) = e

module _ (t : Table) where
  abbrev Waits : ℕ → Awaited → Type 0
  Waits = BlockedOn t

  -- what a task awaits
  abbrev pub its : ℕ → Awaited
  its k = event_of (state_at t k)

  its_is : (k : ℕ) (e : Awaited) → Waits k e → its k ≡ e
  its_is k e w = event_is (state_at t k) e w

  pub waits_its : (k : ℕ) → IsBlocked t k → Waits k (its k)
  waits_its k w = subst (Waits k) (sym (its_is k w.0 w.1)) w.1

  -- ---- each awaited event has one task that stands for it
  pub first : (k : ℕ) (e : Awaited) → Waits k e → (u : ℕ) × Stands t u × Waits u e
  first k e w = (u, record { event = e; first = record { holds = here; lowest = lowest } }, here)
    where
      test : ℕ → Bool
      test j = awaits_of (state_at t j) e

      u : ℕ
      u = lowest_from test 0 32

      lowest : (v : ℕ) → Waits v e → u ≤ v
      lowest v x = go (dec_lt v u)
        where
          go : Dec (v < u) → u ≤ v
          go (yes l) = absurd (clash ((awaits_iff (state_at t v) e).1 x) (lowest_lower test 0 32 v (omega arith) l))
          go (no l) = omega arith

      here : Waits u e
      here = (awaits_iff (state_at t u) e).0 (lowest_holds test 0 32 (let l = lowest k w in omega (arith, blocked_below t k e w)))

  stands_at_lem : (k : ℕ) → Stands t k → Waits k (its k)
  stands_at_lem k z = waits_its k (z.event, z.first.holds)

  stands_one : (a b : ℕ) → Stands t a → Stands t b → its a ≡ its b → a ≡ b
  stands_one a b x y e =
      let p = its_is a x.event x.first.holds in
      let q = its_is b y.event y.first.holds in
      let same = sym p ∙ e ∙ q in
      le_antisymm (x.first.lowest b (subst (Waits b) (sym same) y.first.holds)) (y.first.lowest a (subst (Waits a) same x.first.holds))

  pub count_events : {n : ℕ} → HowMany (Stands t) n → HowMany (IsAwaited t) n
  count_events x = many_along iff (many_image its stands_one x)
    where
      iff : (e : Awaited) → ((k : ℕ) × Stands t k × (its k ≡ e)) ↔ IsAwaited t e
      iff e = (
        λ p. (p.0, subst (Waits p.0) p.2 (stands_at_lem p.0 p.1)),
        λ p. let u = first p.0 e p.1 in (u.0, u.1, its_is u.0 e u.2),
      )

  -- ---- the task graph
  pub count_task_edges : {n : ℕ} → Pairs (λ k u. IsBlocked t u × ImpedesTask t k u) n → Pairs (TaskEdge (BlockedOn t) (Impedes t)) n
  count_task_edges = many_along λ p. (
    λ x. record { event = x.1.event; waits = x.1.waits; impedes = x.1.impedes; other = x.0.0; blocked = x.0.1 },
    λ x. ((x.other, x.blocked), record { event = x.event; waits = x.waits; impedes = x.impedes }),
  )

  -- ---- the event graph: some task that impedes what k awaits awaits what u awaits
  abbrev pub Joined : ℕ → ℕ → Type 0
  Joined k u = Stands t k × Stands t u × ((v : ℕ) × ImpedesTask t k v × Alike t u v)

  pub count_event_edges : {n : ℕ} → Pairs Joined n → Pairs (EventGraphEdge t) n
  count_event_edges x = many_along (λ q. (into q, from q)) (many_image pair pair_one x)
    where
      pair : ℕ × ℕ → Awaited × Awaited
      pair p = (its p.0, its p.1)

      pair_one : (p q : ℕ × ℕ) → Joined p.0 p.1 → Joined q.0 q.1 → pair p ≡ pair q → p ≡ q
      pair_one p q x y e =
          let a = stands_one p.0 q.0 x.0 y.0 (ap (λ (z : Awaited × Awaited). z.0) e) in
          let b = stands_one p.1 q.1 x.1 y.1 (ap (λ (z : Awaited × Awaited). z.1) e) in
          λ i. (a i, b i)

      edge : (k u : ℕ) → Joined k u → EventGraphEdge t (its k) (its u)
      edge k u j =
          let i = j.2.1 in
          let a = j.2.2 in
          let v = j.2.0 in
          record {
            awaited = (k, stands_at_lem k j.0);
            edge = record {
              task = v;
              impedes = subst (Impedes t v) (sym (its_is k i.event i.waits)) i.impedes;
              blocked = subst (Waits v) (sym (its_is u a.event a.one)) a.other;
            };
          }

      into : (q : Awaited × Awaited) → (p : ℕ × ℕ) × Joined p.0 p.1 × (pair p ≡ q) → EventGraphEdge t q.0 q.1
      into q p = subst (λ (z : Awaited × Awaited). EventGraphEdge t z.0 z.1) p.2 (edge p.0.0 p.0.1 p.1)

      from : (q : Awaited × Awaited) → EventGraphEdge t q.0 q.1 → (p : ℕ × ℕ) × Joined p.0 p.1 × (pair p ≡ q)
      from q g =
          let k = first g.awaited.0 q.0 g.awaited.1 in
          let u = first g.edge.task q.1 g.edge.blocked in (
            (k.0, u.0),
            (
              k.1,
              u.1,
              (
                g.edge.task,
                record { event = q.0; waits = k.2; impedes = g.edge.impedes },
                record { event = q.1; one = u.2; other = g.edge.blocked },
              ),
            ),
            λ i. (its_is k.0 q.0 k.2 i, its_is u.0 q.1 u.2 i),
          )

  -- ---- the task-event graph: tasks to their events, then events to those who impede them
  abbrev pub Impeder : ℕ → ℕ → Type 0
  Impeder k u = Stands t k × IsBlocked t u × ImpedesTask t k u

  abbrev there : ℕ → Node × Node
  there k = (task k, event (its k))

  abbrev back : ℕ × ℕ → Node × Node
  back p = (event (its p.0), task p.1)

  abbrev There : Node × Node → Type 0
  There q = (k : ℕ) × IsBlocked t k × (there k ≡ q)

  abbrev Back : Node × Node → Type 0
  Back q = (p : ℕ × ℕ) × Impeder p.0 p.1 × (back p ≡ q)

  abbrev Edge : Node × Node → Type 0
  Edge q = TaskEventEdge t q.0 q.1

  pub count_task_event_edges : {m n : ℕ} → HowMany (IsBlocked t) m → Pairs Impeder n → Pairs (TaskEventEdge t) (m + n)
  count_task_event_edges x y = many_along (λ q. (into q, from q.0 q.1)) (many_both (many_image there there_one x) (many_image back back_one y) apart)
    where
      there_one : (a b : ℕ) → IsBlocked t a → IsBlocked t b → there a ≡ there b → a ≡ b
      there_one a b x y e = ap (λ (z : Node × Node). number_of z.0) e

      back_one : (p q : ℕ × ℕ) → Impeder p.0 p.1 → Impeder q.0 q.1 → back p ≡ back q → p ≡ q
      back_one p q x y e =
          let a = stands_one p.0 q.0 x.0 y.0 (ap (λ (z : Node × Node). awaited_of (its 0) z.0) e) in
          let b = ap (λ (z : Node × Node). number_of z.1) e in
          λ i. (a i, b i)

      apart : (q : Node × Node) → There q → Back q → ⊥
      apart q a b = clash refl (ap (λ (z : Node × Node). is_task z.0) (a.2 ∙ sym b.2))

      into : (q : Node × Node) → There q ⊎ Back q → Edge q
      into q (inl (k, w, e)) = subst Edge e (waits k (its k) (waits_its k w))
      into q (inr (p, (z, w, i), e)) =
          subst Edge e
          (impeded (its p.0) p.1 (p.0, stands_at_lem p.0 z) w (subst (Impedes t p.1) (sym (its_is p.0 i.event i.waits)) i.impedes))

      from : (x y : Node) → TaskEventEdge t x y → There (x, y) ⊎ Back (x, y)
      from _ _ (waits k e w) = inl (k, (e, w), λ i. (task k, event (its_is k e w i)))
      from _ _ (impeded e u a w i) =
          let k = first a.0 e a.1 in
          inr ((k.0, u), (k.1, w, record { event = e; waits = k.2; impedes = i }), λ j. (event (its_is k.0 e k.2 j), task u))
