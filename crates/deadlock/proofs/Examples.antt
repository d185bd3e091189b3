-- Worked examples, by computation: row t has, as a set, those to whom t has an edge.
use mathlib.Core.Path.{◌≡◌, refl, subst}
use mathlib.Core.Bool.{true}
use mathlib.Core.List.{List, [], ◌∷◌}
use Prim.Native.Nat.{ℕ, ◌^◌, ◌<◌}
use native.Mathlib.Omega.{arith}
use lib.Count.{count_trailing_zeros}
use Rattle.sets.specs.Set.{Has, size}
use Rattle.sets.proofs.Members.{none_has}
use Rattle.deadlock.specs.Walk.{Row, NamedBy}
use Rattle.deadlock.specs.Ring.{Ring, Comes, nobody}
use Rattle.deadlock.specs.Parts.{step_of, go_of, low_of, once_of}
use Rattle.deadlock.proofs.Found.{places}
use Rattle.deadlock.proofs.Reached.{ring_from}
use Rattle.deadlock.proofs.Twins.{clear, named_of, named_of_named, ring_of, nexts_of, rows_ring}

-- what the twins compute is so
named_by : (among : ℕ) (rows : List ℕ) (m : ℕ) → among < 2 ^ 32 → named_of rows among ≡ m → NamedBy (Row among rows) m
named_by among rows m f e = subst (NamedBy (Row among rows)) e (named_of_named rows among f)

ring_by : (among : ℕ) (rows : List ℕ) (m : ℕ) (r : List ℕ) → NamedBy (Row among rows) m → m < 2 ^ 32 → 0 < m → ring_of (nexts_of rows m) m ≡ r
    → Ring (Has m) (Row among rows) r
ring_by among rows m r n f p e = subst (Ring (Has m) (Row among rows)) e (rows_ring among rows m f n p)

-- ---- a self-loop: 0 waits for itself
pub self_named : NamedBy (Row 1 (1 ∷ [])) 1
unfolding named_of clear
self_named = named_by 1 (1 ∷ []) 1 (omega arith) refl

pub self_ring : Ring (Has 1) (Row 1 (1 ∷ [])) (0 ∷ [])
unfolding ring_of nexts_of ring_from places step_of go_of low_of once_of count_trailing_zeros size
self_ring = ring_by 1 (1 ∷ []) 1 (0 ∷ []) self_named (omega arith) (omega arith) refl

-- ---- a two-ring with a tail that hangs on it: 0 and 1 wait for each other, 2 for 0. All three are named, the ring is the two
abbrev tail : List ℕ
tail = 2 ∷ 1 ∷ 1 ∷ []

pub tail_named : NamedBy (Row 7 tail) 7
unfolding named_of clear
tail_named = named_by 7 tail 7 (omega arith) refl

pub tail_ring : Ring (Has 7) (Row 7 tail) (0 ∷ 1 ∷ [])
unfolding ring_of nexts_of ring_from places step_of go_of low_of once_of count_trailing_zeros size
tail_ring = ring_by 7 tail 7 (0 ∷ 1 ∷ []) tail_named (omega arith) (omega arith) refl

-- ---- a chain that ends at a runner: 0 waits for 1, 1 for 2, who waits for nobody. Nobody is named
abbrev chain : List ℕ
chain = 2 ∷ 4 ∷ 0 ∷ []

pub chain_named : NamedBy (Row 7 chain) 0
unfolding named_of clear
chain_named = named_by 7 chain 0 (omega arith) refl

pub chain_ring : Comes (Has 0) (Row 7 chain) true []
chain_ring = nobody none_has

-- ---- two rings, 0 with 3 and 1 with 2: the one of the lowest named task, its lowest first
abbrev two : List ℕ
two = 8 ∷ 4 ∷ 2 ∷ 1 ∷ []

pub two_named : NamedBy (Row 15 two) 15
unfolding named_of clear
two_named = named_by 15 two 15 (omega arith) refl

pub two_ring : Ring (Has 15) (Row 15 two) (0 ∷ 3 ∷ [])
unfolding ring_of nexts_of ring_from places step_of go_of low_of once_of count_trailing_zeros size
two_ring = ring_by 15 two 15 (0 ∷ 3 ∷ []) two_named (omega arith) (omega arith) refl

-- ---- the same rows, where 3 is not among those who have edges: 0 waits for one who goes on, and the other ring is left
pub part_named : NamedBy (Row 7 two) 6
unfolding named_of clear
part_named = named_by 7 two 6 (omega arith) refl

pub part_ring : Ring (Has 6) (Row 7 two) (1 ∷ 2 ∷ [])
unfolding ring_of nexts_of ring_from places step_of go_of low_of once_of count_trailing_zeros size
part_ring = ring_by 7 two 6 (1 ∷ 2 ∷ []) part_named (omega arith) (omega arith) refl

-- ---- the ring turned: 0 waits for 2, 2 for 1, 1 for 2. The walk meets 2 first, the ring begins with 1
abbrev turned : List ℕ
turned = 4 ∷ 4 ∷ 2 ∷ []

pub turned_named : NamedBy (Row 7 turned) 7
unfolding named_of clear
turned_named = named_by 7 turned 7 (omega arith) refl

pub turned_ring : Ring (Has 7) (Row 7 turned) (1 ∷ 2 ∷ [])
unfolding ring_of nexts_of ring_from places step_of go_of low_of once_of count_trailing_zeros size
turned_ring = ring_by 7 turned 7 (1 ∷ 2 ∷ []) turned_named (omega arith) (omega arith) refl
