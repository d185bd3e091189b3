-- What `sheet_call` hands over, test by test: 42, the sheet's own refusal, else the call on its table.
use mathlib.Core.Path.{◌≡◌, refl}
use mathlib.Core.List.{List}
use Prim.Native.Nat.{ℕ, ◌≤◌, ◌<◌}
use borrow.Author.Tests.{eq-eqb, ne_eqb, lt-ltb, le-ltb}
use Rattle.answers.specs.Answers.{done, no_kind}
use Rattle.hall.specs.Calls.{kind_count, call_of}
use Rattle.hall.specs.declared.calls.Call.{Call}
use Rattle.sheet.specs.Reader.{sheet_at}
use Rattle.writer.specs.Next.{stays, hand_on}
use Rattle.sheet_call.specs.Call.{sheet_call_of}

module _ (sheet : List ℕ) (c : Call) (next : List ℕ) where
  pub no_kind_handed : kind_count ≤ c.kind → sheet_call_of sheet c next ≡ stays no_kind next
  unfolding sheet_call_of
  no_kind_handed l = rw (le-ltb c.kind kind_count l) refl

  pub fault_handed : c.kind < kind_count → ((sheet_at sheet).answer ≡ done → ⊥) → sheet_call_of sheet c next ≡ stays (sheet_at sheet).answer next
  unfolding sheet_call_of
  fault_handed l n = rw (lt-ltb c.kind kind_count l, ne_eqb (sheet_at sheet).answer done n) refl

  pub call_handed : c.kind < kind_count → (sheet_at sheet).answer ≡ done
      → sheet_call_of sheet c next ≡ hand_on (call_of (sheet_at sheet).table c) next
  unfolding sheet_call_of
  call_handed l e = rw (lt-ltb c.kind kind_count l, eq-eqb (sheet_at sheet).answer done e) refl
