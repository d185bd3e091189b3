-- Each promise by meaning fixes its result: two results that both meet it are equal.
use mathlib.Core.Path.{◌≡◌, sym, ◌∙◌}
use mathlib.Core.Bool.{Bool}
use mathlib.Core.List.{List}
use mathlib.Core.Logic.{◌↔◌}
use Prim.Native.Nat.{ℕ, ◌<◌}
use native.Mathlib.Omega.{arith}
use lib.ListN.{get_or, length}
use lib.Seq.{ext_get_or}
use Rattle.sets.specs.Set.{Has}
use Rattle.sets.proofs.Widths.{same_members}
use Rattle.states.specs.declared.state.Phase.{Phase}
use Rattle.states.specs.declared.state.Task.{Task}
use Rattle.seating.specs.Parts.{BlockedIn, SeatsIn, RowsIn}
use Rattle.seating.specs.declared.seats.Seats.{Seats}

pub blocked_in_one : (tasks : List Task) (m n : ℕ) → BlockedIn tasks m → BlockedIn tasks n → m ≡ n
blocked_in_one tasks m n x y = same_members _ m n x.iff y.iff

-- lists of sets, by the members of each
pub sets_one : (n : ℕ) (P : ℕ → ℕ → Type 0) (l r : List ℕ) → length l ≡ n → length r ≡ n
    → ((k u : ℕ) → k < n → Has (get_or l k 0) u ↔ P k u) → ((k u : ℕ) → k < n → Has (get_or r k 0) u ↔ P k u) → l ≡ r
sets_one n P l r p q x y =
    ext_get_or 0 l r (p ∙ sym q) (λ k h. let m : k < n = omega arith in same_members (P k) (get_or l k 0) (get_or r k 0) (λ u. x k u m) (λ u. y k u m))

pub rows_in_one : (tasks : List Task) (phases : List Phase) (s : Seats) (l r : List ℕ) → RowsIn tasks phases s l → RowsIn tasks phases s r → l ≡ r
rows_in_one tasks phases s l r x y = sets_one 32 _ l r x.long y.long x.iff y.iff

-- seats, whatever tells who is seated where
module _ (Member Waits : ℕ → ℕ → Type 0) where
  abbrev Told : Seats → Type 0
  Told s =
      ((p u : ℕ) → p < 16 → Has (get_or s.members p 0) u ↔ (Has s.all u × Member p u))
      × ((p k : ℕ) → p < 16 → Has (get_or s.waiters p 0) k ↔ (Has s.all k × Waits p k))
      × (length s.members ≡ 16) × (length s.waiters ≡ 16)

  pub told_one : (all : ℕ) (l r : Seats) → l.all ≡ all → r.all ≡ all → Told l → Told r → l ≡ r
  told_one all l r a b x y = λ i. record { all = same i; members = members i; waiters = waiters i }
    where
      same : l.all ≡ r.all
      same = a ∙ sym b

      members : l.members ≡ r.members
      members = sets_one 16 _ l.members r.members x.2 y.2 x.0 (λ p u h. rw same (y.0 p u h))

      waiters : l.waiters ≡ r.waiters
      waiters = sets_one 16 _ l.waiters r.waiters x.3 y.3 x.1 (λ p u h. rw same (y.1 p u h))

pub seats_in_one : (tasks : List Task) (entries : List Bool) (all : ℕ) (l r : Seats) → (l.all ≡ all) × SeatsIn tasks entries l
    → (r.all ≡ all) × SeatsIn tasks entries r → l ≡ r
seats_in_one tasks entries all l r x y =
    told_one _ _ all l r x.0 y.0
    (x.1.members, x.1.waiters, x.1.long.0, x.1.long.1)
    (y.1.members, y.1.waiters, y.1.long.0, y.1.long.1)
