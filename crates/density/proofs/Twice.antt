-- Two tasks that await the same event: what the two loops that look for them know, a step of each, and what is found.
use mathlib.Core.Path.{◌≡◌, sym, ◌∙◌, subst}
use mathlib.Core.Bool.{Bool, true}
use mathlib.Core.List.{List}
use mathlib.Core.Logic.{◌↔◌, ⊎_elim}
use Prim.Native.Nat.{ℕ, ◌^◌, ◌<◌}
use lib.ListN.{get_or}
use Rattle.sets.specs.Set.{Has}
use Rattle.sets.proofs.Members.{Taken, Within, has_dec, taken_out}
use Rattle.states.specs.Parts.{event_of, awaits_of}
use Rattle.states.specs.State.{free_task}
use Rattle.states.specs.Waiting.{Awaited}
use Rattle.states.specs.declared.state.Task.{Task}
use Rattle.states.proofs.Events.{event_is}
use Rattle.hall.specs.Table.{state_at}
use Rattle.hall.specs.Waiting.{BlockedOn}
use Rattle.hall.specs.declared.table.Table.{Table}
use Rattle.hall.proofs.Looking.{event_read, awaits_read}
use Rattle.density.specs.Parts.{Alike, AwaitedTwice}

pub alike_back : {t : Table} {k u : ℕ} → Alike t k u → Alike t u k
alike_back a = record { event = a.event; one = a.other; other = a.one }

-- in every table with these states, those of `among` who are not `left` to look at have P
module _ (tasks : List Task) (P : Table → ℕ → Type 0) where
  pub record Looked (among left : ℕ) : Type 0 where
    pub fits : left < 2 ^ 32
    pub within : Within left among
    pub seen : (t : Table) → t.tasks ≡ tasks → (k : ℕ) → Has among k → (Has left k → ⊥) → P t k

  pub look_start : (among : ℕ) → among < 2 ^ 32 → Looked among among
  look_start among f = record { fits = f; within = λ k h. h; seen = λ t e k h n. absurd (n h) }

  pub look_more : {among left k rest : ℕ} → Looked among left → Taken left k rest → rest < 2 ^ 32 → ((t : Table) → t.tasks ≡ tasks → P t k)
      → Looked among rest
  look_more {among} {left} {k} {rest} g taken f p = record {
    fits = f;
    within = λ u h. g.within u ((taken u).0 h).0;
    seen = λ t e u h n. ⊎_elim (λ q. subst (P t) (sym q) (p t e)) (g.seen t e u h) (taken_out left k rest u taken n);
  }

-- who was looked at awaits its event alone
abbrev pub Alone : ℕ → Table → ℕ → Type 0
Alone among t k = (u : ℕ) → Has among u → Alike t k u → k ≡ u

-- the two that are looked at are asked whether they await the event of the one
pub alike_read : (t : Table) (tasks : List Task) → t.tasks ≡ tasks → (k u : ℕ) → k < 32 → u < 32 → (e : Awaited)
    → e ≡ event_of (get_or tasks k free_task).state → (a b : Bool) → a ≡ awaits_of (get_or tasks k free_task).state e
    → b ≡ awaits_of (get_or tasks u free_task).state e → ((a ≡ true) × (b ≡ true)) ↔ Alike t k u
alike_read t tasks q k u l m e is a b x y =
    let mine = awaits_read t k l e a (rw q x) in
    let theirs = awaits_read t u m e b (rw q y) in (
      λ h. record { event = e; one = mine.0 h.0; other = theirs.0 h.1 },
      λ p. let same = sym (event_is (state_at t k) p.event p.one) ∙ sym (event_read t k l e (rw q is)) in
          (mine.1 (subst (BlockedOn t k) same p.one), theirs.1 (subst (BlockedOn t u) same p.other)),
    )

module _ {tasks : List Task} {among todo k : ℕ} (rest : ℕ) (g : Looked tasks (Alone among) among todo) (here : Has todo k) (taken : Taken todo k rest) where
  module _ (t : Table) (e : t.tasks ≡ tasks) where
    -- nobody who is left awaits what k awaits, nor did anybody before
    pub alone : ((u : ℕ) → Has rest u → Alike t k u → ⊥) → Alone among t k
    alone none u h a = go (has_dec rest u)
      where
        go : Dec (Has rest u) → k ≡ u
        go (yes r) = absurd (none u r a)
        go (no n) = sym (⊎_elim (λ q. q) (λ out. g.seen t e u h out k (g.within k here) (alike_back a)) (taken_out todo k rest u taken n))

    pub found : {u : ℕ} → Has rest u → Alike t k u → AwaitedTwice t among
    found {u} h a =
        let r = (taken u).0 h in
        record { one = k; other = u; inside = g.within k here; inside_too = g.within u r.0; apart = λ q. r.1 (sym q); alike = a }

-- where all were looked at, there are no such two
pub none_twice : {tasks : List Task} {among left : ℕ} (t : Table) → t.tasks ≡ tasks → ((k : ℕ) → Has left k → ⊥) → Looked tasks (Alone among) among left
    → AwaitedTwice t among → ⊥
none_twice t e none g d = d.apart (g.seen t e d.one d.inside (none d.one) d.other d.inside_too d.alike)
