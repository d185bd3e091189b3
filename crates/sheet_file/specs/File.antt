-- Document 02, M-101: "a file of up to 1,000 sheets, each after its length as a house number", cut into its sheets.
use Rattle.std.specs.Prelude.{◌≡◌, ℕ, ◌+◌, List, [], ◌∷◌, take, drop}
use Rattle.sheet_file.specs.Piece.{piece_of}
use Rattle.sheet_file.specs.declared.piece.Piece.TheVariants.{Sheet, Stopped, Ended}

-- the bytes from one place to another
abbrev pub bytes_from : List ℕ → ℕ → ℕ → List ℕ
bytes_from bytes from to = drop from (take to bytes)

-- how a run ends: with the totals, or with "that number in place of the totals"
pub data Ending : Type 0 where
  whole : Ending
  stopped_by : ℕ → Ending

-- a file from here on, after so many sheets: the bytes of each sheet, and how it ends
pub data CutInto : List ℕ → ℕ → List (List ℕ) → Ending → Type 0 where
  ends : {bytes : List ℕ} {done : ℕ} → piece_of bytes done ≡ Ended → CutInto bytes done [] whole
  stops : {bytes : List ℕ} {done : ℕ} (n : ℕ) → piece_of bytes done ≡ Stopped n → CutInto bytes done [] (stopped_by n)
  goes_on : {bytes : List ℕ} {done : ℕ} (from to : ℕ) {sheets : List (List ℕ)} {e : Ending} → piece_of bytes done ≡ Sheet from to
      → CutInto (drop to bytes) (done + 1) sheets e → CutInto bytes done (bytes_from bytes from to ∷ sheets) e
