-- Elimination: a task with no edge into what is left is taken out. Everybody with an endless walk stays in, and in the end each has an edge into
-- what is left, so it is exactly those with an endless walk.
use mathlib.Core.Path.{◌≡◌, subst}
use mathlib.Core.Logic.{◌↔◌}
use mathlib.Core.List.{List}
use Prim.Native.Nat.{ℕ, ◌+◌, ◌^◌, ◌≤◌, ◌<◌}
use native.Mathlib.Decide.{ℕ_discrete}
use native.Mathlib.Omega.{arith}
use lib.Bits.{bit_and, and_le_r}
use lib.ListN.{get_or}
use borrow.Author.Count.{below_more}
use Rattle.sets.specs.Set.{Has}
use Rattle.sets.proofs.Members.{Within, Taken, has_lt, none_has, some_has, and_iff}
use Rattle.deadlock.specs.Walk.{EndlessWalk, Row, NamedBy}
use Rattle.deadlock.proofs.Walks.{first, rest, follow}

module _ (Edge : ℕ → ℕ → Type 0) where
  -- everybody with an endless walk is in the set
  abbrev pub Covers : ℕ → Type 0
  Covers m = (t : ℕ) → EndlessWalk Edge t → Has m t

  -- everybody in the set has an edge into it
  abbrev pub Closed : ℕ → Type 0
  Closed m = (t : ℕ) → Has m t → (u : ℕ) × Has m u × Edge t u

  pub covers_drop : (m t r : ℕ) → Taken m t r → ((u : ℕ) → Has m u → Edge t u → ⊥) → Covers m → Covers r
  covers_drop m t r taken none c s w =
      (taken s).1 (c s w, λ e. none (w.at 1) (c (w.at 1) (rest w)) (subst (λ x. Edge x (w.at 1)) e (first w)))

  pub closed_named : (m : ℕ) → Covers m → Closed m → NamedBy Edge m
  closed_named m c d = record { iff = λ t. (follow Edge (Has m) d t, c t) }

  pub named_closed : (m : ℕ) → NamedBy Edge m → Closed m
  named_closed m n t h = let w = (n.iff t).0 h in (w.at 1, (n.iff (w.at 1)).1 (rest w), first w)

-- ---- where only those of `among` have edges
module _ (among : ℕ) (Edge : ℕ → ℕ → Type 0) where
  -- what the loop knows at task t: those who are left are of `among`, and all of them below t have an edge into what is left
  pub record Clearing (m t : ℕ) : Type 0 where
    pub fits : m < 2 ^ 32
    pub near : t ≤ 32
    pub within : Within m among
    pub covers : Covers Edge m
    pub passed : (j : ℕ) → j < t → Has m j → (u : ℕ) × Has m u × Edge j u

  pub clear_start : among < 2 ^ 32 → ((t u : ℕ) → Edge t u → Has among t) → Clearing among 0
  clear_start f inside = record {
    fits = f;
    near = omega arith;
    within = λ t h. h;
    covers = λ t w. inside t (w.at 1) (first w);
    passed = λ j l h. absurd (omega arith);
  }

  module _ (m t : ℕ) (g : Clearing m t) (l : t < 32) where
    pub clear_drop : (r : ℕ) → r < 2 ^ 32 → Taken m t r → ((u : ℕ) → Has m u → Edge t u → ⊥) → Clearing r 0
    clear_drop r f taken none = record {
      fits = f;
      near = omega arith;
      within = λ k h. g.within k ((taken k).0 h).0;
      covers = covers_drop Edge m t r taken none g.covers;
      passed = λ j i h. absurd (omega arith);
    }

    pub clear_pass : (Has m t → (u : ℕ) × Has m u × Edge t u) → Clearing m (t + 1)
    clear_pass n = record {
      fits = g.fits;
      near = omega arith;
      within = g.within;
      covers = g.covers;
      passed = below_more (λ j. Has m j → (u : ℕ) × Has m u × Edge j u) t g.passed n;
    }

  pub clear_done : (m : ℕ) → Clearing m 32 → NamedBy Edge m
  clear_done m g = closed_named Edge m g.covers (λ t h. g.passed t (has_lt 32 m t g.fits h) h)

-- ---- the edges are rows, and both = those of row t that are left
module _ (among : ℕ) (rows : List ℕ) where
  abbrev pub RowClearing : ℕ → ℕ → Type 0
  RowClearing = Clearing among (Row among rows)

  pub rows_start : among < 2 ^ 32 → (m : ℕ) → m ≡ among → RowClearing m 0
  rows_start f m e = rw e (clear_start among (Row among rows) f (λ t u e. e.0))

  module _ (m t both : ℕ) (g : RowClearing m t) (l : t < 32) (common : (k : ℕ) → Has both k ↔ (Has (get_or rows t 0) k × Has m k)) where
    pub rows_drop : both ≡ 0 → (r : ℕ) → r < 2 ^ 32 → Taken m t r → RowClearing r 0
    rows_drop z r f taken = clear_drop among (Row among rows) m t g l r f taken (λ u h e. none_has u (subst (λ x. Has x u) z ((common u).1 (e.1, h))))

    pub rows_keep : both < 2 ^ 32 → (both ≡ 0 → ⊥) → RowClearing m (t + 1)
    rows_keep f n =
        let r = some_has 32 both f (omega arith) in
        let b = (common r.0).0 r.1 in
        clear_pass among (Row among rows) m t g l (λ h. (r.0, b.1, (g.within t h, b.0)))

  -- where nobody who is left is without an edge into what is left, each has one
  pub rows_closed : (m : ℕ) → m < 2 ^ 32 → Within m among
      → ((t : ℕ) → Has m t → ((u : ℕ) → Has (get_or rows t 0) u → Has m u → ⊥) → ⊥) → Closed (Row among rows) m
  rows_closed m f within some t h = go (ℕ_discrete (bit_and (get_or rows t 0) m) 0)
    where
      go : Dec (bit_and (get_or rows t 0) m ≡ 0) → (u : ℕ) × Has m u × Row among rows t u
      go (yes z) = absurd (some t h (λ u a b. none_has u (subst (λ x. Has x u) z ((and_iff (get_or rows t 0) m u).1 (a, b)))))
      go (no n) =
          let le = and_le_r (get_or rows t 0) m in
          let r = some_has 32 (bit_and (get_or rows t 0) m) (omega arith) (omega arith) in
          let b = (and_iff (get_or rows t 0) m r.0).0 r.1 in
          (r.0, b.1, (within t h, b.0))
