-- What comes next, case by case.
use Rattle.std.proofs.Common.{◌≡◌, ℕ, suc, ◌+◌, ◌<◌, ◌≤◌, Bool, true, false, cond, eqb, leb, List, length, sym, refl, ◌∙◌, arith, eq-eqb, ne_eqb}
use Rattle.std.proofs.Common.{le-leb, leb-false, leb-true}
use borrow.Author.Tests.{lt-leb}
use Rattle.answers.specs.Answers.{ends_inside, bytes_after}
use Rattle.fields.specs.Figures.{further}
use Rattle.fields.specs.Got.{Got, value, refused}
use Rattle.fields.specs.Number.{number_at}
use Rattle.sheet.proofs.Same.{same_holds}
use Rattle.sheet.proofs.Numbers.{Bytes, number_ok}
use Rattle.sheet_file.specs.Parts.{wanted_of}
use Rattle.sheet_file.specs.Piece.{most_sheets, largest_length, after_length, piece_of}
use Rattle.sheet_file.specs.declared.piece.Piece.TheVariants.{Sheet, Stopped, Ended}

-- a length that was read, and its bytes
pub length_read : (s : List ℕ) → Bytes s → (m at : ℕ) {n next : ℕ} → number_at s m at ≡ value n next → (n ≤ m) × (next ≤ at + suc further)
length_read s b m at e = let r = same_holds (number_ok s b m at) e in (r.most, omega (arith, r.place, r.short))

module _ (bytes : List ℕ) (done : ℕ) where
  pub piece_ended : length bytes ≡ 0 → Ended ≡ piece_of bytes done
  unfolding piece_of
  piece_ended e = rw (eq-eqb (length bytes) 0 e) refl

  module _ (some : 0 < length bytes) where
    pub piece_over : (n : ℕ) → n ≡ bytes_after → most_sheets ≤ done → Stopped n ≡ piece_of bytes done
    unfolding piece_of
    piece_over n e h = rw (ne_eqb (length bytes) 0 (λ z. omega arith), le-leb most_sheets done h, e) refl

    module _ (h : done < most_sheets) where
      -- after the length
      on : {g : Got ℕ} → number_at bytes largest_length 0 ≡ g → piece_of bytes done ≡ after_length bytes g
      unfolding piece_of
      on e = rw (ne_eqb (length bytes) 0 (λ z. omega arith), lt-leb most_sheets done h, e) refl

      pub piece_refused : {n : ℕ} → number_at bytes largest_length 0 ≡ refused n → Stopped n ≡ piece_of bytes done
      piece_refused e = sym (on e)

      module _ {n at : ℕ} (e : number_at bytes largest_length 0 ≡ value n at) where
        pub piece_sheet : (to : ℕ) → to ≡ at + n → at + n ≤ length bytes → Sheet at to ≡ piece_of bytes done
        piece_sheet to q f = rw q (sym (on e ∙ rw (le-leb (at + n) (length bytes) f) refl))

        pub piece_past : (m : ℕ) → m ≡ ends_inside → length bytes < at + n → Stopped m ≡ piece_of bytes done
        piece_past m q f = rw q (sym (on e ∙ rw (lt-leb (at + n) (length bytes) f) refl))

-- a sheet that comes next is one of the thousand, stands in the file, and has as many bytes, with its length, as are wanted
pub record Within (bytes : List ℕ) (done from to : ℕ) : Type 0 where
  pub rises : from ≤ to
  pub ends : to ≤ length bytes
  pub few : done < most_sheets
  pub wanted : to ≡ wanted_of bytes

pub sheet_within : (bytes : List ℕ) (done : ℕ) {from to : ℕ} → piece_of bytes done ≡ Sheet from to → Within bytes done from to
unfolding piece_of wanted_of
sheet_within bytes done {from} {to} e = none (eqb (length bytes) 0) e
  where
    after : (g : Got ℕ) → number_at bytes largest_length 0 ≡ g → done < most_sheets → after_length bytes g ≡ Sheet from to
        → Within bytes done from to
    after (refused n) r few e = absurd (let z : ◌≡◌ {A = ℕ} 0 1 = cc in omega arith)
    after (value n at) r few e = inside (leb (at + n) (length bytes)) refl e
      where
        inside : (b : Bool) → leb (at + n) (length bytes) ≡ b → cond b (Sheet at (at + n)) (Stopped ends_inside) ≡ Sheet from to
            → Within bytes done from to
        inside true h e =
            let x : at ≡ from = cc in
            let y : at + n ≡ to = cc in
            record { rises = omega arith; ends = omega (arith, leb-true (at + n) (length bytes) h); few = few; wanted = rw r (sym y) }
        inside false h e = absurd (let z : ◌≡◌ {A = ℕ} 0 1 = cc in omega arith)

    over : (b : Bool) → leb most_sheets done ≡ b → cond b (Stopped bytes_after) (after_length bytes (number_at bytes largest_length 0)) ≡ Sheet from to
        → Within bytes done from to
    over true h e = absurd (let z : ◌≡◌ {A = ℕ} 0 1 = cc in omega arith)
    over false h e = after (number_at bytes largest_length 0) refl (leb-false most_sheets done h) e

    none : (b : Bool) → cond b Ended (cond (leb most_sheets done) (Stopped bytes_after) (after_length bytes (number_at bytes largest_length 0))) ≡ Sheet
        from to
        → Within bytes done from to
    none true e = absurd (let z : ◌≡◌ {A = ℕ} 0 1 = cc in omega arith)
    none false e = over (leb most_sheets done) refl e
