-- Laws of endless walks, along any edges.
use mathlib.Core.Path.{refl, subst}
use Prim.Native.Nat.{ℕ, zero, suc}
use Rattle.deadlock.specs.Walk.{EndlessWalk}

pub first : {A : Type 0} {Edge : A → A → Type 0} {a : A} (w : EndlessWalk Edge a) → Edge a (w.at 1)
first {Edge} w = subst (λ x. Edge x (w.at 1)) w.starts (w.goes 0)

-- the walk from its second place on
pub rest : {A : Type 0} {Edge : A → A → Type 0} {a : A} (w : EndlessWalk Edge a) → EndlessWalk Edge (w.at 1)
rest w = record { at = λ k. w.at (suc k); starts = refl; goes = λ k. w.goes (suc k) }

-- where each with P has an edge to one with P, each with P has an endless walk
module _ {A : Type 0} (Edge : A → A → Type 0) (P : A → Type 0) (next : (a : A) → P a → (b : A) × P b × Edge a b) where
  go : (a : A) → P a → ℕ → (b : A) × P b
  go a p zero = (a, p)
  go a p (suc k) = let r = go a p k in let n = next r.0 r.1 in (n.0, n.1)

  pub follow : (a : A) → P a → EndlessWalk Edge a
  unfolding go
  follow a p = record { at = λ k. (go a p k).0; starts = refl; goes = λ k. (next (go a p k).0 (go a p k).1).2 }

pub along : {A : Type 0} {Edge Edge' : A → A → Type 0} {a : A} → ((x y : A) → Edge x y → Edge' x y) → EndlessWalk Edge a → EndlessWalk Edge' a
along f w = record { at = w.at; starts = w.starts; goes = λ k. f (w.at k) (w.at (suc k)) (w.goes k) }
