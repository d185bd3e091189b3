-- The rows of edges, filled one by one, along any edges of some tasks; and the row of who is late for an event.
use mathlib.Core.Path.{◌≡◌, refl, sym, ap, ◌∙◌, subst}
use mathlib.Core.Bool.{Bool, true}
use mathlib.Core.List.{List}
use mathlib.Core.Logic.{◌↔◌}
use Prim.Native.Nat.{ℕ, ◌+◌, ◌*◌, ◌%◌, ◌<◌}
use native.Mathlib.Decide.{ℕ_discrete}
use native.Mathlib.Nat.{mod-eq_of_lt}
use native.Mathlib.Omega.{arith}
use lib.Dec.{ltb}
use lib.ListN.{replicate, get_or, length, set, length-set, get_or-replicate}
use lib.Seq.{get_or-set_same, get_or-set_other}
use borrow.Author.Tests.{ltb-true, lt-ltb}
use Rattle.sets.specs.Set.{Has}
use Rattle.sets.proofs.Members.{Taken, Within, none_has}
use Rattle.states.specs.Parts.{impedes_at}
use Rattle.states.specs.State.{phase0}
use Rattle.states.specs.Waiting.{Awaited}
use Rattle.states.specs.declared.state.Phase.{Phase}
use Rattle.states.proofs.Truth.{and_left, and_right}
use Rattle.seating.specs.Parts.{LateIn}

module _ (all : ℕ) (Edge : ℕ → ℕ → Type 0) where
  -- row k: of those of `all` that are not in `todo`, their edges; of any other, none
  abbrev RowAt : ℕ → List ℕ → ℕ → Type 0
  RowAt todo rows k = (u : ℕ) → Has (get_or rows k 0) u ↔ ((Has all k × (Has todo k → ⊥)) × Edge k u)

  pub record Filled (todo : ℕ) (rows : List ℕ) : Type 0 where
    pub long : length rows ≡ 32
    pub within : Within todo all
    pub iff : (k : ℕ) → k < 32 → RowAt todo rows k

  pub fill_start : Filled all (replicate 32 0)
  fill_start = record {
    long = refl;
    within = λ k h. h;
    iff = λ k l u. (λ h. absurd (none_has u (rw (get_or-replicate {A = ℕ} 32 k 0 0 l) at h)), λ h. absurd (h.0.1 h.0.0));
  }

  -- the row of k is `by`
  module _ (todo k rest by : ℕ) (rows : List ℕ) (g : Filled todo rows) (l : k < 32) (h : Has todo k) (taken : Taken todo k rest)
      (row : (u : ℕ) → Has by u ↔ Edge k u) where
    here : get_or (set rows k by) k 0 ≡ by
    here = let z = g.long in get_or-set_same rows k by 0 (omega arith)

    mine : RowAt rest (set rows k by) k
    mine u = rw here (λ p. ((g.within k h, λ r. ((taken k).0 r).1 refl), (row u).0 p), λ p. (row u).1 p.1)

    other : (j : ℕ) → j < 32 → (j ≡ k → ⊥) → RowAt rest (set rows k by) j
    other j m n u = rw (get_or-set_other rows k j by 0 n) (
      λ p. let q = (g.iff j m u).0 p in ((q.0.0, λ r. q.0.1 ((taken j).0 r).0), q.1),
      λ p. (g.iff j m u).1 ((p.0.0, λ r. p.0.1 ((taken j).1 (r, n))), p.1),
    )

    each : (j : ℕ) → j < 32 → Dec (j ≡ k) → RowAt rest (set rows k by) j
    each j m (yes q) = subst (RowAt rest (set rows k by)) (sym q) mine
    each j m (no n) = other j m n

    pub fill_more : Filled rest (set rows k by)
    fill_more = record {
      long = length-set rows k by ∙ g.long;
      within = λ j p. g.within j ((taken j).0 p).0;
      iff = λ j m. each j m (ℕ_discrete j k);
    }

  pub fill_done : {rows : List ℕ} → Filled 0 rows → (k u : ℕ) → k < 32 → Has (get_or rows k 0) u ↔ (Has all k × Edge k u)
  fill_done g k u l = (λ h. let q = (g.iff k l u).0 h in (q.0.0, q.1), λ h. (g.iff k l u).1 ((h.0, none_has k), h.1))

-- ---- the row that the code makes: `by` is those of the event's column that are late for it
pub late_row : (members : List ℕ) (phases : List Phase) (by place : ℕ) (e f : Awaited) → e ≡ f → place ≡ e.phaser.0 % 16
    → ((u : ℕ) → Has by u ↔ (Has (get_or members place 0) u × LateIn phases u e))
    → (u : ℕ) → Has by u ↔ (Has (get_or members (f.phaser.0 % 16) 0) u × LateIn phases u f)
late_row members phases by place e f is column row =
    subst
    (λ (f : Awaited). (u : ℕ) → Has by u ↔ (Has (get_or members (f.phaser.0 % 16) 0) u × LateIn phases u f))
    is
    (subst (λ p. (u : ℕ) → Has by u ↔ (Has (get_or members p 0) u × LateIn phases u e)) column row)

-- whether u's kept phase, read at e's column, is less than e's: the phase in e's column is that at e's phaser
pub late_at : (phases : List Phase) (u : ℕ) (e : Awaited) (p i : ℕ) (b : Bool) → p ≡ e.phaser.0 % 16 → i ≡ u * 16 + p
    → b ≡ impedes_at true (get_or phases i phase0) e → (b ≡ true) ↔ LateIn phases u e
unfolding impedes_at
late_at phases u e p i b column place h = (λ y. into (sym h ∙ y), λ y. h ∙ from y)
  where
    n : ℕ
    n = (get_or phases i phase0).0

    same : e.phaser.0 < 16 → n ≡ (get_or phases (u * 16 + e.phaser.0) phase0).0
    same m = ap (λ j. (get_or phases j phase0).0) (place ∙ ap (λ q. u * 16 + q) (column ∙ mod-eq_of_lt m))

    into : impedes_at true (get_or phases i phase0) e ≡ true → LateIn phases u e
    into y =
        let m = ltb-true _ 16 (and_left (ltb e.phaser.0 16) (ltb n e.phase.0) y) in
        (m, rw (sym (same m)) (ltb-true n e.phase.0 (and_right (ltb e.phaser.0 16) (ltb n e.phase.0) y)))

    from : LateIn phases u e → impedes_at true (get_or phases i phase0) e ≡ true
    from y = simp (lt-ltb _ 16 y.0, lt-ltb n e.phase.0 (rw (sym (same y.0)) at y.1))
