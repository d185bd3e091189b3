-- What is handed back, answer by answer: 44, then 43, then the sheet.
use mathlib.Core.Path.{◌≡◌}
use mathlib.Core.Bool.{true, false}
use mathlib.Core.List.{List}
use Prim.Native.Nat.{ℕ, ◌≤◌, ◌<◌}
use native.Mathlib.Omega.{arith}
use lib.ListN.{length}
use borrow.Author.Tests.{lt-ltb, le-ltb}
use Rattle.answers.specs.Answers.{done, short_buffer, not_sound}
use Rattle.hall.specs.Parts.{sound_of}
use Rattle.hall.specs.Table.{Shaped}
use Rattle.hall.specs.declared.table.Table.{Table}
use Rattle.hall.proofs.Soundness.{sound_iff}
use Rattle.fields.specs.Figures.{longest_sheet}
use Rattle.sheet.specs.Written.{sheet_of}
use Rattle.sheet.proofs.Theorems.{written_no_longer}
use Rattle.writer.specs.Parts.{Laid}
use Rattle.writer.specs.Writer.{wrote, write_of}
use Rattle.writer.proofs.Laying.{laid_whole}

module _ (t : Table) where
  -- so many bytes as the longest sheet has are not too few for any
  pub long_enough : (room : ℕ) → sound_of t ≡ true → Shaped t → longest_sheet ≤ room → length (sheet_of t) ≤ room
  long_enough room e s h = omega (arith, h, written_no_longer t ((sound_iff t).0 e) s)

module _ (t : Table) (b : List ℕ) where
  pub unsound_written : sound_of t ≡ false → wrote not_sound 0 b ≡ write_of t b
  unfolding write_of
  unsound_written e = rw e

  module _ (e : sound_of t ≡ true) where
    pub short_written : length b < length (sheet_of t) → wrote short_buffer 0 b ≡ write_of t b
    unfolding write_of
    short_written h = rw (e, lt-ltb _ _ h)

    pub sheet_written : {n : ℕ} {b' : List ℕ} → length (sheet_of t) ≤ length b → Laid b 0 (sheet_of t) b' n → wrote done n b' ≡ write_of t b
    unfolding write_of
    sheet_written {n} h g =
        let long : n ≡ length (sheet_of t) = omega (arith, g.place) in
        rw (e, le-ltb _ _ h, long, g.buffer, laid_whole b (sheet_of t) h)
