-- What is true of the writer's answers, for every table and every buffer.
use mathlib.Core.Path.{◌≡◌, refl, ap, ap₂}
use mathlib.Core.Bool.{Bool, true, false, cond}
use mathlib.Core.List.{List}
use mathlib.Core.Logic.{◌↔◌}
use Prim.Native.Nat.{ℕ, ◌≤◌, ◌<◌}
use native.Mathlib.Omega.{arith}
use lib.Dec.{ltb}
use lib.ListN.{length, take, drop}
use lib.Seq.{take-append_seam, drop-append_seam}
use borrow.Author.Tests.{ltb-true, ltb-false}
use Rattle.std.specs.Prelude.{Result, Ok, Err}
use Rattle.answers.specs.Answers.{done, short_buffer, not_sound, answer_of}
use Rattle.answers.specs.declared.Refusal.{Refusal}
use Rattle.answers.proofs.Numbers.{number_high, number_one}
use Rattle.states.proofs.Truth.{clash}
use Rattle.hall.specs.Parts.{sound_of}
use Rattle.hall.specs.Sound.{Sound}
use Rattle.hall.specs.Table.{Shaped}
use Rattle.hall.specs.declared.table.Table.{Table}
use Rattle.hall.proofs.Soundness.{sound_iff}
use Rattle.fields.specs.Figures.{longest_sheet}
use Rattle.sheet.specs.Reader.{hands, sheet_at}
use Rattle.sheet.specs.Written.{sheet_of}
use Rattle.sheet.proofs.Numbers.{Bytes}
use Rattle.sheet.proofs.Bytes.{sheet_bytes}
use Rattle.sheet.proofs.Theorems.{accepts}
use Rattle.writer.proofs.Answered.{long_enough}
use Rattle.writer.specs.Writer.{Wrote, wrote, value_of, laid_on, write_of}

-- ---- which answer there is: by the two tests, and with each what else is handed back
pub data Way (t : Table) (b : List ℕ) : Wrote → Type 0 where
  unsound : sound_of t ≡ false → Way t b (wrote not_sound 0 b)
  short : sound_of t ≡ true → length b < length (sheet_of t) → Way t b (wrote short_buffer 0 b)
  whole : sound_of t ≡ true → length (sheet_of t) ≤ length b → Way t b (wrote done (length (sheet_of t)) (laid_on (sheet_of t) b))

pub way : (t : Table) (b : List ℕ) → Way t b (write_of t b)
unfolding write_of
way t b = go (sound_of t) refl (ltb (length b) (length (sheet_of t))) refl
  where
    go : (s : Bool) → sound_of t ≡ s → (l : Bool) → ltb (length b) (length (sheet_of t)) ≡ l
        → Way t b (cond s (cond l (wrote short_buffer 0 b) (wrote done (length (sheet_of t)) (laid_on (sheet_of t) b))) (wrote not_sound 0 b))
    go false s l h = unsound s
    go true s true h = short s (ltb-true _ _ h)
    go true s false h = whole s (ltb-false _ _ h)

module _ (t : Table) (b : List ℕ) where
  not_unsound : sound_of t ≡ false → Sound t → ⊥
  not_unsound e s = clash ((sound_iff t).1 s) e

  pub not_sound_answer : ((write_of t b).answer ≡ not_sound) ↔ (Sound t → ⊥)
  not_sound_answer = (to (way t b), from (way t b))
    where
      to : {w : Wrote} → Way t b w → w.answer ≡ not_sound → Sound t → ⊥
      to (unsound e) q = not_unsound e
      to (short e h) q = absurd (omega (arith, q))
      to (whole e h) q = absurd (omega (arith, q))

      from : {w : Wrote} → Way t b w → (Sound t → ⊥) → w.answer ≡ not_sound
      from (unsound e) n = refl
      from (short e h) n = absurd (n ((sound_iff t).0 e))
      from (whole e h) n = absurd (n ((sound_iff t).0 e))

  pub short_answer : ((write_of t b).answer ≡ short_buffer) ↔ (Sound t × (length b < length (sheet_of t)))
  short_answer = (to (way t b), from (way t b))
    where
      to : {w : Wrote} → Way t b w → w.answer ≡ short_buffer → Sound t × (length b < length (sheet_of t))
      to (unsound e) q = absurd (omega (arith, q))
      to (short e h) q = ((sound_iff t).0 e, h)
      to (whole e h) q = absurd (omega (arith, q))

      from : {w : Wrote} → Way t b w → Sound t × (length b < length (sheet_of t)) → w.answer ≡ short_buffer
      from (unsound e) n = absurd (not_unsound e n.0)
      from (short e h) n = refl
      from (whole e h) n = absurd (omega (arith, h, n.1))

  pub done_answer : ((write_of t b).answer ≡ done) ↔ (Sound t × (length (sheet_of t) ≤ length b))
  done_answer = (to (way t b), from (way t b))
    where
      to : {w : Wrote} → Way t b w → w.answer ≡ done → Sound t × (length (sheet_of t) ≤ length b)
      to (unsound e) q = absurd (omega (arith, q))
      to (short e h) q = absurd (omega (arith, q))
      to (whole e h) q = ((sound_iff t).0 e, h)

      from : {w : Wrote} → Way t b w → Sound t × (length (sheet_of t) ≤ length b) → w.answer ≡ done
      from (unsound e) n = absurd (not_unsound e n.0)
      from (short e h) n = absurd (omega (arith, h, n.1))
      from (whole e h) n = refl

  -- a refusal: value 0, and no byte moves
  pub refusal_kept : ((write_of t b).answer ≡ done → ⊥) → ((write_of t b).value ≡ 0) × ((write_of t b).buffer ≡ b)
  refusal_kept = go (way t b)
    where
      go : {w : Wrote} → Way t b w → (w.answer ≡ done → ⊥) → (w.value ≡ 0) × (w.buffer ≡ b)
      go (unsound e) n = (refl, refl)
      go (short e h) n = (refl, refl)
      go (whole e h) n = absurd (n refl)

  -- answer 0: the sheet, its length, and "Bytes after the sheet stay as they were"
  pub sheet_laid : (write_of t b).answer ≡ done
      → ((write_of t b).value ≡ length (sheet_of t)) × ((write_of t b).buffer ≡ laid_on (sheet_of t) b)
  sheet_laid = go (way t b)
    where
      go : {w : Wrote} → Way t b w → w.answer ≡ done → (w.value ≡ length (sheet_of t)) × (w.buffer ≡ laid_on (sheet_of t) b)
      go (unsound e) q = absurd (omega (arith, q))
      go (short e h) q = absurd (omega (arith, q))
      go (whole e h) q = (refl, refl)

  pub sheet_taken : (write_of t b).answer ≡ done → take (write_of t b).value (write_of t b).buffer ≡ sheet_of t
  sheet_taken q = rw ((sheet_laid q).0, (sheet_laid q).1) (take-append_seam (sheet_of t) _)

  pub rest_kept : (write_of t b).answer ≡ done → drop (write_of t b).value (write_of t b).buffer ≡ drop (write_of t b).value b
  rest_kept q = rw ((sheet_laid q).0, (sheet_laid q).1) (drop-append_seam (sheet_of t) _)

  -- "Reading a written sheet gives the same table"
  pub write_read : Shaped t → (write_of t b).answer ≡ done → sheet_at (take (write_of t b).value (write_of t b).buffer) ≡ hands done t
  write_read s q =
      let a = (accepts (sheet_of t) (sheet_bytes t) t).1 ((done_answer.0 q).0, s, refl) in
      rw (sheet_taken q) (ap₂ hands a.0 a.1)

  -- a buffer of the longest sheet's length is long enough for any
  pub longest_enough : Shaped t → longest_sheet ≤ length b → (write_of t b).answer ≡ short_buffer → ⊥
  longest_enough s h q =
      let n = short_answer.0 q in
      omega (arith, n.1, long_enough t (length b) ((sound_iff t).1 n.0) s h)

-- "writing a table read from an accepted sheet gives the same bytes", or 43
module _ (s : List ℕ) (eight : Bytes s) (t : Table) (b : List ℕ) (e : sheet_at s ≡ hands done t) where
  its_sheet : Sound t × (s ≡ sheet_of t)
  its_sheet = let a = (accepts s eight t).0 (rw e (refl, refl)) in (a.0, a.2)

  pub read_write : length s ≤ length b → write_of t b ≡ wrote done (length s) (laid_on s b)
  read_write h = go (way t b)
    where
      go : {w : Wrote} → Way t b w → w ≡ wrote done (length s) (laid_on s b)
      go (unsound x) = absurd (not_unsound t b x its_sheet.0)
      go (short x l) = absurd (omega (arith, rw its_sheet.1 at h, l))
      go (whole x l) = rw its_sheet.1 refl

  pub read_short : length b < length s → write_of t b ≡ wrote short_buffer 0 b
  read_short h = go (way t b)
    where
      go : {w : Wrote} → Way t b w → w ≡ wrote short_buffer 0 b
      go (unsound x) = absurd (not_unsound t b x its_sheet.0)
      go (short x l) = refl
      go (whole x l) = absurd (omega (arith, rw its_sheet.1 at h, l))

-- the promise allows one answer, one value and one content of the buffer
pub written_one : (r r' : Result ℕ Refusal) {b b' : List ℕ} → wrote (answer_of r) (value_of r) b ≡ wrote (answer_of r') (value_of r') b'
    → (r ≡ r') × (b ≡ b')
written_one r r' e = (one r r' (ap (λ (w : Wrote). w.answer) e) (ap (λ (w : Wrote). w.value) e), ap (λ (w : Wrote). w.buffer) e)
  where
    one : (r r' : Result ℕ Refusal) → answer_of r ≡ answer_of r' → value_of r ≡ value_of r' → r ≡ r'
    one (Ok n) (Ok n') a v = ap Ok v
    one (Ok n) (Err x) a v = absurd (omega (arith, a, number_high x))
    one (Err x) (Ok n) a v = absurd (omega (arith, a, number_high x))
    one (Err x) (Err x') a v = ap Err (number_one x x' a)
