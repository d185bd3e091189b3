-- What a text says, and what it says after one byte more.
use mathlib.Core.Path.{◌≡◌, refl, sym, ◌∙◌}
use mathlib.Core.List.{List, [], ◌∷◌, ◌++◌, append_assoc, append-nil}
use Prim.Native.Nat.{ℕ, suc, ◌+◌, ◌-◌, ◌≤◌, ◌<◌}
use native.Mathlib.Omega.{arith}
use lib.ListN.{length, replicate, set, take, length-append, length-take}
use lib.Seq.{set_at, take_all, take_at, take-append-le, append_snoc}
use Rattle.text.specs.Parts.{Adds}
use Rattle.text.specs.Text.{text_with}
use Rattle.text.specs.declared.text.Text.{Text}

-- one byte more after l, and past it 0 still
filled_more : (l : List ℕ) (b : ℕ) → length l < 256
    → set (l ++ replicate (256 - length l) 0) (length l) b ≡ (l ++ (b ∷ [])) ++ replicate (256 - length (l ++ (b ∷ []))) 0
filled_more l b h =
    let n : ℕ = 255 - length l in
    let p : 256 - length l ≡ suc n = omega arith in
    let q : 256 - length (l ++ (b ∷ [])) ≡ n = simp length-append (omega arith) in
    rw (p, q, append_snoc) (set_at l 0 (replicate n 0) b (length l) refl)

same : {a b : List ℕ} {m n : ℕ} → a ≡ b → m ≡ n → ◌≡◌ {A = Text} (record { bytes = a; length = m }) (record { bytes = b; length = n })
same p q = λ i. record { bytes = p i; length = q i }

-- so that a caller can lend the part that is said
pub within : (l : List ℕ) → (text_with l).length ≤ length (text_with l).bytes
unfolding text_with
within l = rw length-append (omega arith)

-- what is said is all of l, where l has room
pub said_whole : (t : Text) (l : List ℕ) → t ≡ text_with l → length l ≤ 256 → take t.length t.bytes ≡ l
unfolding text_with
said_whole t l e h =
    let w = take_all 256 l h in
    rw (e, w) (take_at l (replicate (256 - length l) 0) (length l) refl)

module _ (t : Text) where
  -- a text with one byte more, where there is room
  pub added : (b : ℕ) → t.length < 256 → Adds t (b ∷ []) (record { bytes = set t.bytes t.length b; length = t.length + 1 })
  unfolding text_with
  added b h = record { says = go }
    where
      go : (l : List ℕ) → t ≡ text_with l
          → ◌≡◌ {A = Text} (record { bytes = set t.bytes t.length b; length = t.length + 1 }) (text_with (l ++ (b ∷ [])))
      go l says =
          let k = rw (says, length-take) at h in
          let j : length l < 256 = omega arith in
          let e = length-append l (b ∷ []) in
          let w = take_all 256 l (omega arith) in
          let x = take_all 256 (l ++ (b ∷ [])) (omega arith) in
          rw (says, w, x) (same (filled_more l b j) (sym e))

  -- a full text says no more
  pub full : (m : List ℕ) → 256 ≤ t.length → Adds t m t
  unfolding text_with
  full m h = record { says = go }
    where
      go : (l : List ℕ) → t ≡ text_with l → t ≡ text_with (l ++ m)
      go l says =
          let k = rw (says, length-take) at h in
          let j : 256 ≤ length l = omega arith in
          let e = length-append l m in
          let z : 256 - length (l ++ m) ≡ 256 - length l = omega arith in
          says ∙ rw (take-append-le, z) refl

  pub adds_none : Adds t [] t
  adds_none = record { says = λ l says. rw append-nil says }

pub adds_both : {t u w : Text} {a b : List ℕ} → Adds t a u → Adds u b w → Adds t (a ++ b) w
adds_both p q = record { says = λ l e. rw (← append_assoc) (q.says _ (p.says l e)) }
