-- Each promise by meaning fixes its result: two results that both meet it are equal.
use mathlib.Core.Path.{◌≡◌}
use mathlib.Core.List.{List}
use Prim.Native.Nat.{ℕ}
use Rattle.sets.proofs.Widths.{same_members}
use Rattle.seating.specs.declared.seats.Seats.{Seats}
use Rattle.seating.proofs.One.{sets_one, told_one}
use Rattle.hall.specs.Parts.{BlockedSet, SeatsOf, RowsBy}
use Rattle.hall.specs.declared.calls.Call.{Call}
use Rattle.hall.specs.declared.table.Table.{Table}

pub blocked_one : (t : Table) (m n : ℕ) → BlockedSet t m → BlockedSet t n → m ≡ n
blocked_one t m n x y = same_members _ m n x.iff y.iff

pub edges_one : (t : Table) (s : Seats) (l r : List ℕ) → RowsBy t s l → RowsBy t s r → l ≡ r
edges_one t s l r x y = sets_one 32 _ l r x.long y.long (λ k u _. x.iff k u) (λ k u _. y.iff k u)

pub seats_one : (t : Table) (all : ℕ) (l r : Seats) → (l.all ≡ all) × SeatsOf t l → (r.all ≡ all) × SeatsOf t r → l ≡ r
seats_one t all l r x y =
    told_one _ _ all l r x.0 y.0
    (x.1.members, x.1.waiters, x.1.long.0, x.1.long.1)
    (y.1.members, y.1.waiters, y.1.long.0, y.1.long.1)

-- a call is its numbers
pub same_call : (c d : Call) → d.kind ≡ c.kind → d.task ≡ c.task → d.phaser ≡ c.phaser → d.other ≡ c.other → d ≡ c
same_call c d k a p o = λ i. record { kind = k i; task = a i; phaser = p i; other = o i }
