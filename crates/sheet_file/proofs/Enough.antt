-- How many bytes are wanted of what comes next: by what was read of its length, never more than the largest piece has, and never less than are there. A part
-- of the file with so many tells what comes next.
use Rattle.std.proofs.Common.{◌≡◌, ℕ, ◌+◌, ◌<◌, ◌≤◌, Bool, true, false, cond, eqb, ◌⊎◌, List, ◌++◌, length, sym, refl, ap, ◌∙◌, inl, inr, arith}
use Rattle.std.proofs.Common.{length-append, ne_eqb, eqb-true, le-leb}
use native.Mathlib.Decide.{dec_lt}
use Rattle.answers.specs.Answers.{ends_inside}
use Rattle.fields.specs.Got.{Got, value, refused}
use Rattle.fields.specs.Number.{plain_at, number_at}
use Rattle.sheet.proofs.Numbers.{Bytes}
use Rattle.sheet_file.specs.Piece.{largest_length, after_length, piece_of}
use Rattle.sheet_file.specs.Parts.{largest_piece, wanted_after, wanted_of}
use Rattle.sheet_file.proofs.OfParts.{number_part, number_there, number_end}
use Rattle.sheet_file.proofs.Pieces.{length_read}

-- how many are wanted, by what was read
module _ (bytes : List ℕ) where
  pub wanted_value : (n at to : ℕ) → number_at bytes largest_length 0 ≡ value n at → to ≡ at + n → to ≡ wanted_of bytes
  unfolding wanted_of
  wanted_value n at to e q = rw (q, e) refl

  pub wanted_more : (n to : ℕ) → number_at bytes largest_length 0 ≡ refused n → n ≡ ends_inside → to ≡ length bytes + 1 → to ≡ wanted_of bytes
  unfolding wanted_of
  wanted_more n to e i q = rw (q, e, i) refl

  pub wanted_all : (n to : ℕ) → number_at bytes largest_length 0 ≡ refused n → (n ≡ ends_inside → ⊥) → to ≡ length bytes
      → to ≡ wanted_of bytes
  unfolding wanted_of
  wanted_all n to e i q = rw (q, e, ne_eqb n ends_inside i) refl

  -- no piece has more than so many
  wanted_fits : Bytes bytes → length bytes ≤ largest_piece → wanted_of bytes ≤ largest_piece
  unfolding wanted_of
  wanted_fits eight h = go (number_at bytes largest_length 0) refl
    where
      go : (g : Got ℕ) → number_at bytes largest_length 0 ≡ g → wanted_after bytes g ≤ largest_piece
      go (value n at) e = let r = length_read bytes eight largest_length 0 e in omega arith
      go (refused n) e = inside (eqb n ends_inside) refl
        where
          inside : (b : Bool) → eqb n ends_inside ≡ b → cond b (length bytes + 1) (length bytes) ≤ largest_piece
          inside false q = h
          inside true q = short (dec_lt 2 (length bytes))
            where
              short : Dec (2 < length bytes) → length bytes + 1 ≤ largest_piece
              short (yes l) = absurd (number_there bytes largest_length (omega arith) (e ∙ ap refused (eqb-true n ends_inside q)))
              short (no l) = omega arith

  pub wanted_told : Bytes bytes → (n : ℕ) → n ≡ wanted_of bytes → (n ≡ wanted_of bytes) × (length bytes ≤ largest_piece → n ≤ largest_piece)
  wanted_told eight n e = (e, λ h. rw e (wanted_fits eight h))

-- a part with as many bytes as are wanted, and any bytes behind it
module _ (part rest : List ℕ) (done : ℕ) (enough : wanted_of part ≤ length part) where
  goes_on : number_at part largest_length 0 ≡ refused ends_inside → ⊥
  goes_on e = let z = wanted_more part ends_inside (length part + 1) e refl refl in omega arith

  some : 0 < length part
  unfolding number_at plain_at
  some = go (dec_lt 0 (length part))
    where
      go : Dec (0 < length part) → 0 < length part
      go (yes l) = l
      go (no l) = absurd (goes_on (rw (le-leb (length part) 0 (omega arith)) refl))

  same_after : (g : Got ℕ) → number_at part largest_length 0 ≡ g → after_length part g ≡ after_length (part ++ rest) g
  same_after (refused n) e = refl
  same_after (value n at) e =
      let z = wanted_value part n at (at + n) e refl in
      rw (le-leb (at + n) (length part) (omega arith), le-leb (at + n) (length (part ++ rest)) (omega (arith, length-append part rest))) refl

  pub piece_settled : piece_of part done ≡ piece_of (part ++ rest) done
  unfolding piece_of
  piece_settled = go (number_part part rest largest_length)
    where
      none : (l : List ℕ) → 0 < length l → eqb (length l) 0 ≡ false
      none l h = ne_eqb (length l) 0 (λ z. omega arith)

      go : (number_at part largest_length 0 ≡ refused ends_inside) ⊎ (number_at (part ++ rest) largest_length 0 ≡ number_at part largest_length 0)
          → piece_of part done ≡ piece_of (part ++ rest) done
      go (inl e) = absurd (goes_on e)
      go (inr e) =
          rw (none part some, none (part ++ rest) (omega (arith, length-append part rest, some)), e, same_after (number_at part largest_length 0) refl) refl

-- what is wanted is never less than what is there, if what was there before wanted as much
module _ (part rest : List ℕ) (within : length (part ++ rest) ≤ wanted_of part) where
  pub wanted_grows : length (part ++ rest) ≤ wanted_of (part ++ rest)
  unfolding wanted_of
  wanted_grows = go (number_at (part ++ rest) largest_length 0) refl (number_part part rest largest_length)
    where
      more : (b : Bool) → length (part ++ rest) ≤ cond b (length (part ++ rest) + 1) (length (part ++ rest))
      more true = omega arith
      more false = omega arith

      go : (g : Got ℕ) → number_at (part ++ rest) largest_length 0 ≡ g
          → (number_at part largest_length 0 ≡ refused ends_inside) ⊎ (number_at (part ++ rest) largest_length 0 ≡ number_at part largest_length 0)
          → length (part ++ rest) ≤ wanted_after (part ++ rest) g
      go (refused n) e d = more (eqb n ends_inside)
      go (value n at) e (inl p) =
          let one = wanted_more part ends_inside (length part + 1) p refl refl in
          let past = number_end part rest largest_length n at p e in
          omega arith
      go (value n at) e (inr q) = let same = wanted_value part n at (at + n) (sym q ∙ e) refl in omega arith
