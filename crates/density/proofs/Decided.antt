-- What the counts decide: each is one number, none is large, and the events are fewer just where two blocked tasks await the same.
use mathlib.Core.Path.{◌≡◌, sym, ap, subst}
use mathlib.Core.Logic.{◌↔◌, ◌⊎◌, inl, inr}
use Prim.Native.Nat.{ℕ, ◌≤◌, ◌<◌}
use native.Mathlib.Decide.{dec_lt}
use native.Mathlib.Omega.{arith}
use Rattle.sets.specs.Set.{Has}
use Rattle.states.specs.State.{is_blocked}
use Rattle.states.proofs.Events.{one_awaited}
use Rattle.hall.specs.Parts.{BlockedSet}
use Rattle.hall.specs.Table.{state_at}
use Rattle.hall.specs.Waiting.{BlockedOn}
use Rattle.hall.specs.declared.table.Table.{Table}
use Rattle.density.specs.Density.{IsBlocked, DensityOf, FewerEvents}
use Rattle.density.specs.Parts.{Alike, AwaitedTwice, Stands}
use Rattle.density.specs.declared.density.Density.{Density}
use Rattle.density.proofs.Graphs.{its, waits_its}
use Rattle.density.proofs.Many.{many_one, many_both, many_twice, many_le, many_same}
use Rattle.density.proofs.Twice.{alike_back}
use Rattle.density.proofs.Twins.{count_small, pairs_small, impeder_at, density_in, count_stands, density_in_counts}

-- 32 tasks, and so 32 events; 32 times 32 pairs
pub record Small (d : Density) : Type 0 where
  pub blocked : d.blocked ≤ 32
  pub events : d.events ≤ 32
  pub task_edges : d.task_edges ≤ 1024
  pub event_edges : d.event_edges ≤ 1024
  pub task_event_edges : d.task_event_edges ≤ 1056

module _ (t : Table) where
  pub density_one : (d e : Density) → DensityOf t d → DensityOf t e → d ≡ e
  density_one d e x y =
      let blocked = many_same x.blocked y.blocked in
      let events = many_same x.events y.events in
      let task_edges = many_same x.task_edges y.task_edges in
      let event_edges = many_same x.event_edges y.event_edges in
      let task_event_edges = many_same x.task_event_edges y.task_event_edges in
      λ i. record {
        blocked = blocked i;
        events = events i;
        task_edges = task_edges i;
        event_edges = event_edges i;
        task_event_edges = task_event_edges i;
      }

  pub density_small : (d : Density) → DensityOf t d → Small d
  unfolding density_in
  density_small d x = rw (density_one d (density_in t) x (density_in_counts t)) (record {
    blocked = count_small _;
    events = count_small _;
    task_edges = pairs_small _ 32;
    event_edges = pairs_small _ 32;
    task_event_edges = omega (arith, count_small (λ k. is_blocked (state_at t k)), pairs_small (impeder_at t) 32);
  })

  -- the twin's counts tell whether the events are fewer
  fewer_counted : (density_in t).events < (density_in t).blocked → FewerEvents t
  fewer_counted l =
      let c = density_in_counts t in
      record { tasks = (density_in t).blocked; events = (density_in t).events; blocked = c.blocked; awaited = c.events; fewer = l }

  pub fewer_decided : Dec (FewerEvents t)
  fewer_decided = go (dec_lt (density_in t).events (density_in t).blocked)
    where
      go : Dec ((density_in t).events < (density_in t).blocked) → Dec (FewerEvents t)
      go (yes l) = yes (fewer_counted l)
      go (no l) = no λ x.
          let c = density_in_counts t in
          let p = many_same c.blocked x.blocked in
          let q = many_same c.events x.awaited in
          let z = x.fewer in
          l (omega arith)

  -- the higher of two that await the same event stands for none: so it is one more than those who stand
  one_more : (k u : ℕ) → k < u → Alike t k u → FewerEvents t
  unfolding density_in
  one_more k u l a =
      let more = many_le blocked (many_both (count_stands t) (many_one u) other) (density_in_counts t).blocked in
      fewer_counted (omega (arith, more))
    where
      blocked : (v : ℕ) → Stands t v ⊎ (u ≡ v) → IsBlocked t v
      blocked v (inl z) = (z.event, z.first.holds)
      blocked v (inr e) = subst (IsBlocked t) e (a.event, a.other)

      other : (v : ℕ) → Stands t v → u ≡ v → ⊥
      other v z e =
          let w = subst (λ v. BlockedOn t v z.event) (sym e) z.first.holds in
          let q = one_awaited (state_at t u) a.event z.event a.other w in
          let low = z.first.lowest k (subst (BlockedOn t k) q a.one) in
          omega arith

  -- they are fewer exactly where two of the blocked await the same event
  pub fewer_twice : (m : ℕ) → BlockedSet t m → FewerEvents t ↔ AwaitedTwice t m
  fewer_twice m b = (into, from)
    where
      inside : (k : ℕ) → IsBlocked t k → Has m k
      inside k w = (b.iff k).1 (ap is_blocked w.1)

      into : FewerEvents t → AwaitedTwice t m
      into f =
          let (k, u, p, q, apart, same) = many_twice (its t) (λ k w. (k, waits_its t k w)) f.blocked f.awaited f.fewer in
          record {
            one = k;
            other = u;
            inside = inside k p;
            inside_too = inside u q;
            apart = apart;
            alike = record { event = its t k; one = waits_its t k p; other = subst (BlockedOn t u) (sym same) (waits_its t u q) };
          }

      from : AwaitedTwice t m → FewerEvents t
      from d = go (dec_lt d.one d.other)
        where
          go : Dec (d.one < d.other) → FewerEvents t
          go (yes l) = one_more d.one d.other l d.alike
          go (no l) = let n = d.apart in one_more d.other d.one (omega arith) (alike_back d.alike)
