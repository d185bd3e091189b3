-- The code's loops, each at its i-th turn.
use mathlib.Core.Path.{◌≡◌, refl, sym, ap, ◌∙◌}
use mathlib.Core.List.{List, [], ◌∷◌, ◌++◌, append-nil}
use Prim.Native.Nat.{ℕ, suc, ◌+◌, ◌-◌, ◌≤◌, ◌<◌, min}
use native.Mathlib.Omega.{arith}
use lib.ListN.{length, replicate, set, length-append}
use lib.Seq.{set_at, append_snoc}
use borrow.Author.Tests.{eq-eqb, ne_eqb}
use Rattle.deadlock.specs.Parts.{step_of, go_of, low_of, once_of, Filled}

module _ (next : List ℕ) (m : ℕ) where
  left : (n i : ℕ) → i < n → n - i ≡ suc (n - (i + 1))
  left n i l = omega arith

  pub go_turn : (n t i r : ℕ) → i < n → r ≡ step_of next m t → go_of next m t (n - i) ≡ go_of next m r (n - (i + 1))
  unfolding go_of
  go_turn n t i r l e = rw (left n i l, e) refl

  pub low_turn : (n t low i r low' : ℕ) → i < n → r ≡ step_of next m t → low' ≡ min r low
      → low_of next m t low (n - i) ≡ low_of next m r low' (n - (i + 1))
  unfolding low_of
  low_turn n t low i r low' l e q = rw (left n i l, q, e) refl

  done : (n i : ℕ) → n ≤ i → n - i ≡ 0
  done n i h = omega arith

  pub go_end : (n t i : ℕ) → n ≤ i → go_of next m t (n - i) ≡ t
  unfolding go_of
  go_end n t i h = rw (done n i h) refl

  pub low_end : (n t low i : ℕ) → n ≤ i → low_of next m t low (n - i) ≡ low
  unfolding low_of
  low_end n t low i h = rw (done n i h) refl

  -- `front` is in its places; what follows from `task` on is still to come
  pub record Turning (low : ℕ) (tasks : List ℕ) (task i : ℕ) : Type 0 where
    pub small : task ≤ 32
    pub front : List ℕ
    pub count : length front ≡ i
    pub all : once_of next m low low 32 ≡ front ++ once_of next m task low (32 - i)
    pub places : tasks ≡ front ++ replicate (32 - i) 255

  pub turn_start : (low : ℕ) → low ≤ 32 → Turning low (replicate 32 255) low 0
  turn_start low l = record { small = l; front = []; count = refl; all = refl; places = refl }

  filled : (ring tasks : List ℕ) (n : ℕ) → length ring ≡ n → tasks ≡ ring ++ replicate (32 - n) 255
      → Filled ring (record { length = n; tasks = tasks })
  filled ring tasks n e p = record { long = sym e; places = rw e p }

  module _ (low : ℕ) (tasks : List ℕ) (task i : ℕ) (g : Turning low tasks task i) (l : i < 32) (r : ℕ) (e : r ≡ step_of next m task) where
    written : set tasks i task ≡ g.front ++ (task ∷ []) ++ replicate (32 - (i + 1)) 255
    written =
        let rest = replicate {A = ℕ} (32 - (i + 1)) 255 in
        let p : tasks ≡ g.front ++ 255 ∷ rest = rw (left 32 i l) at g.places in
        ap (λ x. set x i task) p ∙ set_at g.front 255 rest task i g.count ∙ sym (append_snoc g.front task rest)

    longer : length (g.front ++ (task ∷ [])) ≡ i + 1
    longer = let c = g.count in simp length-append (omega arith)

    pub turn_more : (r ≡ low → ⊥) → r ≤ 32 → Turning low (set tasks i task) r (i + 1)
    unfolding once_of
    turn_more n s = record {
      small = s;
      front = g.front ++ (task ∷ []);
      count = longer;
      all =
          (let q : once_of next m task low (32 - i) ≡ task ∷ once_of next m r low (32 - (i + 1)) = rw (left 32 i l, ← e, ne_eqb r low n) refl in
          g.all ∙ ap (λ x. g.front ++ x) q ∙ sym (append_snoc g.front task (once_of next m r low (32 - (i + 1)))));
      places = written;
    }

    pub turn_back : r ≡ low → Filled (once_of next m low low 32) (record { length = i + 1; tasks = set tasks i task })
    unfolding once_of
    turn_back b =
        let q : once_of next m task low (32 - i) ≡ task ∷ [] = rw (left 32 i l, ← e, eq-eqb r low b) refl in
        rw (g.all, q) (filled (g.front ++ (task ∷ [])) (set tasks i task) (i + 1) longer written)

  pub turn_all : (low : ℕ) (tasks : List ℕ) (task : ℕ) → Turning low tasks task 32
      → Filled (once_of next m low low 32) (record { length = 32; tasks = tasks })
  unfolding once_of
  turn_all low tasks task g =
      let q : once_of next m low low 32 ≡ g.front = g.all ∙ append-nil g.front in
      rw q (filled g.front tasks 32 g.count g.places)
