-- Which numbers each kind of call answers.
use mathlib.Core.Path.{◌≡◌, refl, ap, sym, ◌∙◌, subst}
use mathlib.Core.Logic.{◌↔◌}
use mathlib.Core.Bool.{Bool, true, false, not}
use mathlib.Core.List.{List, ◌∷◌}
use Prim.Native.Nat.{ℕ, ◌<◌, ◌≤◌}
use native.Mathlib.Omega.{arith}
use lib.Dec.{leb}
use borrow.Author.Tests.{leb-true, leb-false, not-true}
use Rattle.answers.specs.Answers.{no_kind, not_sound, among}
use Rattle.states.specs.Tests.{Test, refusal_of}
use Rattle.states.proofs.Refusals.{refuses, tail, each_test, each_told}
use Rattle.states.proofs.Truth.{clash, and_right}
use Rattle.hall.specs.Answers.{answers_of}
use Rattle.hall.specs.Calls.{refused, ruled, kind_count, call_of}
use Rattle.hall.specs.Every.{every}
use Rattle.hall.specs.Parts.{sound_of}
use Rattle.hall.specs.Tests.{sound}
use Rattle.hall.specs.declared.calls.Call.{Call}
use Rattle.hall.specs.declared.calls.Called.{Called}
use Rattle.hall.specs.declared.table.Table.{Table}
use Rattle.hall.proofs.ByEffect.{call_ruled, no_kind_refused}
use Rattle.hall.proofs.Every.{every_at}
use Rattle.hall.proofs.Rows.{Row}
use Rattle.hall.proofs.Ruled.{ruled_cases}

-- ---- 44 comes next
module _ (t : Table) (rest : List Test) (effect : Called) where
  later : sound_of t ≡ true → ruled t (sound t ∷ rest) effect ≡ ruled t rest effect
  unfolding ruled refusal_of
  later s = rw s

  unsound : sound_of t ≡ false → ruled t (sound t ∷ rest) effect ≡ refused t not_sound
  unfolding ruled refusal_of
  unsound s = rw s

module _ {t : Table} {call : Called} {tests : List Test} {effect : Called} {Told : Type 0} (r : Row t call tests effect Told) where
  row_answers : (l : List ℕ) → each_test (λ n. among n l) (tail tests) ≡ true → among effect.answer l ≡ true → sound_of t ≡ true
      → among call.answer l ≡ true
  unfolding refuses
  row_answers l e d s =
      let q = r.is ∙ (ap (λ (x : List Test). ruled t x effect) r.first ∙ later t (tail tests) effect s) in
      subst (λ (c : Called). among c.answer l ≡ true) (sym q)
      (ruled_cases t (tail tests) effect (λ c. among c.answer l ≡ true) (and_right true (refuses (tail tests)) (ap refuses (sym r.first) ∙ r.high))
      (each_told (λ n. among n l) (tail tests) e) (λ p. d))

  row_unsound : sound_of t ≡ false → call ≡ refused t not_sound
  row_unsound s = r.is ∙ (ap (λ (x : List Test). ruled t x effect) r.first ∙ unsound t (tail tests) effect s)

-- a number that is no kind's own: a test over all of them, which computes
pub apart : (n : ℕ) → every (λ k. not (among n (answers_of k))) kind_count ≡ true → (kind : ℕ) → kind < kind_count
    → among n (answers_of kind) ≡ false
apart n e kind h = not-true (among n (answers_of kind)) (every_at (λ k. not (among n (answers_of k))) kind_count kind e h)

module _ (t : Table) (c : Call) where
  -- over a sound table every answer of a kind is one of its own numbers
  pub sound_answers : c.kind < kind_count → sound_of t ≡ true → among (call_of t c).answer (answers_of c.kind) ≡ true
  sound_answers l s = let r = call_ruled t c l in row_answers r.row (answers_of c.kind) r.own r.answers s

  -- over any other it is 44
  pub unsound_refused : c.kind < kind_count → sound_of t ≡ false → call_of t c ≡ refused t not_sound
  unsound_refused l s = row_unsound (call_ruled t c l).row s

  abbrev answered : ℕ → Type 0
  answered n = (call_of t c).answer ≡ n

  -- a number that is not the kind's own, and is answered, is 44 over a table that is not sound
  other : c.kind < kind_count → (n : ℕ) → among n (answers_of c.kind) ≡ false → answered n → (sound_of t ≡ false) × (n ≡ not_sound)
  other h n m e = go (sound_of t) refl
    where
      go : (b : Bool) → sound_of t ≡ b → (sound_of t ≡ false) × (n ≡ not_sound)
      go true s = absurd (clash (ap (λ (x : ℕ). among x (answers_of c.kind)) (sym e) ∙ sound_answers h s) m)
      go false s = (s, sym e ∙ ap (λ (d : Called). d.answer) (unsound_refused h s))

  -- 42 is answered exactly where there is no such kind, 44 exactly where there is and the table is not sound
  pub no_kind_iff : ((call_of t c).answer ≡ no_kind) ↔ (kind_count ≤ c.kind)
  unfolding every
  no_kind_iff = (λ e. go (leb kind_count c.kind) refl e, λ h. ap (λ (d : Called). d.answer) (no_kind_refused t c h))
    where
      go : (b : Bool) → leb kind_count c.kind ≡ b → answered no_kind → kind_count ≤ c.kind
      go true q e = leb-true kind_count c.kind q
      go false q e =
          let h = leb-false kind_count c.kind q in
          absurd (omega (arith, (other h no_kind (apart no_kind refl c.kind h) e).1))

  pub unsound_iff : ((call_of t c).answer ≡ not_sound) ↔ ((c.kind < kind_count) × (sound_of t ≡ false))
  unfolding every
  unsound_iff = (λ e. go (leb kind_count c.kind) refl e, λ x. ap (λ (d : Called). d.answer) (unsound_refused x.0 x.1))
    where
      go : (b : Bool) → leb kind_count c.kind ≡ b → answered not_sound → (c.kind < kind_count) × (sound_of t ≡ false)
      go true q e = absurd (omega (arith, e, ap (λ (d : Called). d.answer) (no_kind_refused t c (leb-true kind_count c.kind q))))
      go false q e = let h = leb-false kind_count c.kind q in (h, (other h not_sound (apart not_sound refl c.kind h) e).0)
