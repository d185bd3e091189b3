-- Edges counted row by row: those of the tasks that are not left are counted, and each row has 32 at most.
use mathlib.Core.Path.{◌≡◌, refl, sym, subst}
use mathlib.Core.List.{List}
use mathlib.Core.Logic.{◌↔◌, ◌⊎◌, inl, inr}
use Prim.Native.Nat.{ℕ, ◌+◌, ◌*◌, ◌^◌, ◌≤◌, ◌<◌}
use native.Mathlib.Decide.{ℕ_discrete}
use native.Mathlib.Omega.{arith}
use lib.ListN.{get_or}
use Rattle.sets.specs.Set.{Has, size}
use Rattle.sets.proofs.Members.{Taken, Within, none_has}
use Rattle.sets.proofs.Sizes.{size_le, size_pos, size_taken}
use Rattle.density.specs.HowMany.{Pairs}
use Rattle.density.specs.Parts.{AwaitedBy, Counts, JoinedBy}
use Rattle.density.specs.declared.events.Events.{Events}
use Rattle.density.proofs.Many.{many_none, many_along, many_set, many_row}

-- the events that the impeders of k's event await
pub joined : (events : Events) (impeders : List ℕ) (k row : ℕ) → AwaitedBy events (get_or impeders k 0) row
    → (u : ℕ) → Has row u ↔ JoinedBy events impeders k u
joined events impeders k row a u = (
  λ h. let q = (a.iff u).0 h in record { awaited = q.0; task = q.1.0; waits = q.1.1; impedes = q.1.2 },
  λ j. (a.iff u).1 (j.awaited, (j.task, j.waits, j.impedes)),
)

module _ (set : ℕ) (E : ℕ → ℕ → Type 0) where
  abbrev Gone : ℕ → ℕ → ℕ → Type 0
  Gone left k u = Has set k × (Has left k → ⊥) × E k u

  pub record Tallied (left edges : ℕ) : Type 0 where
    pub within : Within left set
    pub room : edges + 32 * size left 32 ≤ 1024
    pub many : Pairs (Gone left) edges

  pub tally_start : Tallied set 0
  tally_start = record { within = λ k h. h; room = omega (arith, size_le 32 set); many = many_none (0, 0) (λ p h. h.1 h.0) }

  -- one of those who are left: there is room for its row, and then it is counted
  module _ (left edges k : ℕ) (g : Tallied left edges) (near : k < 32) (here : Has left k) where
    pub tally_room : (row n : ℕ) → n ≡ size row 32 → edges + n ≤ 1024
    tally_room row n e = let z = g.room in omega (arith, size_le 32 row, size_pos 32 left k near here)

    module _ (rest : ℕ) (taken : Taken left k rest) where
      pub tally_more : (row m n more : ℕ) → n ≡ size m 32 → m ≡ row → more ≡ edges + n → row < 2 ^ 32 → ((u : ℕ) → Has row u ↔ E k u)
          → Tallied rest more
      tally_more row m n more e same s fits iff = rw s (record {
        within = λ j r. g.within j ((taken j).0 r).0;
        room = let z = g.room in omega (arith, size_taken left k rest taken 32 near here, size_le 32 m);
        many =
            many_along (λ p. (into p, from p (ℕ_discrete p.0 k)))
            (many_row k g.many (many_along iff (rw (e, same) (many_set 32 row fits))) (λ u x. x.1 here));
      })
        where
          into : (p : ℕ × ℕ) → Gone left p.0 p.1 ⊎ ((p.0 ≡ k) × E k p.1) → Gone rest p.0 p.1
          into p (inl s) = (s.0, λ r. s.1 ((taken p.0).0 r).0, s.2)
          into p (inr s) = subst (λ j. Gone rest j p.1) (sym s.0) (g.within k here, λ r. ((taken k).0 r).1 refl, s.1)

          from : (p : ℕ × ℕ) → Dec (p.0 ≡ k) → Gone rest p.0 p.1 → Gone left p.0 p.1 ⊎ ((p.0 ≡ k) × E k p.1)
          from p (yes q) s = inr (q, subst (λ j. E j p.1) q s.2)
          from p (no n) s = inl (s.0, λ r. s.1 ((taken p.0).1 (r, n)), s.2)

  pub tally_done : (edges : ℕ) → Tallied 0 edges → Counts set E edges
  tally_done edges g = record {
    many = many_along (λ p. (λ s. (s.0, s.2), λ s. (s.0, none_has p.0, s.1))) g.many;
    small = let z = g.room in omega arith;
  }
