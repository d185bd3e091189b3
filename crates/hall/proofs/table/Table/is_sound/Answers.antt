use mathlib.Core.Path.{◌≡◌, refl, sym, ◌∙◌}
use Prim.Native.Nat.{◌+◌, ◌*◌}
use native.Mathlib.Omega.{arith}
use borrow.Author.Rules.{rules}
use Rattle.hall.specs.Parts.{entries_sound, states_sound, sound_of}
use Rattle.hall.proofs.Every.{every_none, every_next}
use Rattle.hall.proofs.Places.{entry_test, entry_read, state_test, state_read}
use Rattle.hall.proofs.table.Table.is_sound.Goals as goal

pub loop-k-init : goal.loop-k-init
loop-k-init c = (sym (every_none _), sym (every_none _))

pub loop-p-preserved : goal.loop-p-preserved
loop-p-preserved c =
    every_next (entry_test _) _ _ (omega arith) c.loop-p.invariant (entry_read _ _ _ (search rules) (search rules) ∙ sym c.entry_sound-entries.ensures)

pub loop-k-preserved : goal.loop-k-preserved
loop-k-preserved c =
    let e : (c.loop-k.k + 1) * 16 ≡ c.loop-k.k * 16 + c.loop-p.p = omega arith in (
      rw e c.loop-p.invariant,
      every_next (state_test _) _ _ (omega arith) c.loop-k.invariant.1 (state_read _ _ (search rules) ∙ sym c.state_sound-states.ensures),
    )

pub returns : goal.returns
unfolding sound_of entries_sound states_sound
returns c =
    let e : c.loop-k.k ≡ 32 = omega arith in
    rw (c.loop-k.invariant.0, c.loop-k.invariant.1, e) refl
