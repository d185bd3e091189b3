-- Bytes laid from a place on: one part after the other, and all of a sheet.
use mathlib.Core.Path.{◌≡◌, refl, ◌∙◌}
use mathlib.Core.List.{List, [], ◌∷◌, ◌++◌}
use Prim.Native.Nat.{ℕ, suc, ◌+◌, ◌≤◌}
use native.Mathlib.Omega.{arith}
use lib.ListN.{length, set, length-append}
use lib.Seq.{sets, sets-eq}
use Rattle.writer.specs.Parts.{Laid}
use Rattle.writer.specs.Writer.{laid_on}

sets_append : (b : List ℕ) (at : ℕ) (p q : List ℕ) → sets (sets b at p) (at + length p) q ≡ sets b at (p ++ q)
sets_append b at [] q = let z : at + 0 ≡ at = omega arith in rw z
sets_append b at (x ∷ p) q =
    let z : at + suc (length p) ≡ suc at + length p = omega arith in
    rw z (sets_append (set b at x) (suc at) p q)

-- ---- parts
pub laid_none : (b : List ℕ) (at : ℕ) → Laid b at [] b at
laid_none b at = record { place = omega arith; buffer = refl }

pub laid_both : {b b' b'' : List ℕ} {at m n : ℕ} {p q : List ℕ} → Laid b at p b' m → Laid b' m q b'' n → Laid b at (p ++ q) b'' n
laid_both {b} {b'} {b''} {at} {m} {n} {p} {q} g h = record {
  place = h.place ∙ rw (length-append p q) (omega (arith, g.place));
  buffer = h.buffer ∙ rw (g.place, g.buffer) (sets_append b at p q);
}

-- the same bytes under another name
pub laid_same : {b b' : List ℕ} {at m : ℕ} {p q : List ℕ} → Laid b at p b' m → p ≡ q → Laid b at q b' m
laid_same g e = rw (← e) g

-- room for all
pub laid_whole : (b p : List ℕ) → length p ≤ length b → sets b 0 p ≡ laid_on p b
laid_whole b p h =
    let z : 0 + length p ≡ length p = omega arith in rw z at (sets-eq p b 0 (omega arith))
