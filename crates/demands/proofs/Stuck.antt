-- Whether sets of tasks are numbers or any predicates, the same tasks are in a totally deadlocked one: those that the routes name are such a set themselves.
use mathlib.Core.Logic.{◌↔◌}
use Prim.Native.Nat.{ℕ}
use Rattle.sets.specs.Set.{Has}
use Rattle.deadlock.specs.Waiting.{Stuck}
use Rattle.hall.specs.Waiting.{BlockedOn, Impedes}
use Rattle.hall.specs.declared.table.Table.{Table}
use Rattle.judge.proofs.Named.{task_stuck}
use Rattle.judge.proofs.Twins.{named_in, named_in_lem}
use Rattle.demands.specs.Series.{StuckIn}

-- some totally deadlocked set holds task k, and a set is any predicate
abbrev pub StuckAt : Table → ℕ → Type 1
StuckAt t k = Stuck (BlockedOn t) (Impedes t) k

module _ (t : Table) where
  -- a number that has exactly these tasks
  pub named_at : (k : ℕ) → Has (named_in t) k ↔ StuckAt t k
  named_at = task_stuck t (named_in t) (named_in_lem t)

  pub stuck_iff : (k : ℕ) → StuckIn t k ↔ StuckAt t k
  stuck_iff k = (
    λ x. record { set = Has x.set; deadlocked = x.deadlocked; holds = x.holds },
    λ x. record {
      set = named_in t;
      deadlocked = record {
        member = k;
        some = (named_at k).1 x;
        each = λ j n.
            let y = (named_at j).0 n in
            let h = y.deadlocked.each j y.holds in
            record {
              event = h.event;
              waits = h.waits;
              by = h.by;
              inside = (named_at h.by).1 (record { set = y.set; deadlocked = y.deadlocked; holds = h.inside });
              impedes = h.impedes;
            };
      };
      holds = (named_at k).1 x;
    },
  )
