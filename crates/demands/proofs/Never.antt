-- A stuck task is released in no series: every call keeps it stuck, and a release is refused where the event is impeded.
use mathlib.Core.Logic.{⊎_elim}
use mathlib.Core.List.{[], ◌∷◌}
use Prim.Native.Nat.{ℕ}
use Rattle.deadlock.proofs.Theory.{frame_stuck}
use Rattle.hall.specs.Table.{Shaped}
use Rattle.hall.specs.declared.table.Table.{Table}
use Rattle.hall.proofs.Frame.{call_touches, impeded_refused}
use Rattle.hall.proofs.Kept.{call_shaped}
use Rattle.hall.specs.declared.calls.Call.{Call}
use Rattle.hall.specs.Calls.{call_of}
use Rattle.demands.specs.Series.{Accepted, Releases, Contains, Never}
use Rattle.demands.proofs.Stuck.{StuckAt}

pub stuck_refused : (t : Table) (k : ℕ) → StuckAt t k → (c : Call) → Releases k c → Accepted t c → ⊥
unfolding call_of
stuck_refused t k x c r a =
    let h = x.deadlocked.each k x.holds in
    impeded_refused t k h.by h.event h.waits h.impedes (rw (r.kind, r.task) at a)

-- ---- through a call
pub call_stuck : (t : Table) → Shaped t → (c : Call) (k : ℕ) → StuckAt t k → StuckAt (call_of t c).table k
call_stuck t z c = frame_stuck _ _ _ _ (call_touches t z c).frame

-- ---- through a series
pub stuck_never : (t : Table) → Shaped t → (k : ℕ) → StuckAt t k → Never t k
stuck_never t z k x [] s f = f
stuck_never t z k x (c ∷ calls) s f =
    ⊎_elim (λ (r : Releases k c). stuck_refused t k x c r s.0)
    (λ (g : Contains k calls). stuck_never (call_of t c).table (call_shaped t z c) k (call_stuck t z c k x) calls s.1 g) f
