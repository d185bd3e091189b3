-- What is true of the reader's answers, for all bytes.
use Prim.Native.Nat.{ℕ, ◌≤◌}
use mathlib.Core.Path.{◌≡◌, refl, sym, ap, ◌∙◌}
use mathlib.Core.Logic.{◌↔◌}
use mathlib.Core.Bool.{Bool, true, false, ◌&&◌, ◌||◌}
use mathlib.Core.List.{List, [], ◌∷◌}
use native.Mathlib.Omega.{arith}
use lib.Dec.{T, eqb, leb}
use lib.ListN.{length, take}
use borrow.Author.Tests.{eqb-true, leb-true, ne_eqb}
use Rattle.answers.specs.Answers.{among, number_of}
use Rattle.answers.proofs.Numbers.{number_one}
use Rattle.states.proofs.Truth.{and_left, and_right}
use Rattle.hall.specs.Table.{Shaped, fresh_table}
use Rattle.hall.specs.Sound.{Sound}
use Rattle.hall.specs.declared.table.Table.{Table}
use Rattle.fields.specs.declared.number.Number.{Number}
use Rattle.fields.specs.declared.number.Number.TheVariants.{Value, Refused}
use Rattle.sheet.specs.Answers.{sheet_refusals, sheet_answers}
use Rattle.fields.specs.Figures.{longest_sheet, settling_bytes}
use Rattle.fields.specs.Got.{Got, value, refused}
use Rattle.fields.specs.Number.{outcome}
use Rattle.sheet.specs.Reader.{table_at, handed, sheet_at}
use Rattle.sheet.specs.Written.{sheet_of}
use Rattle.sheet.proofs.Same.{Agree, Same, fine, none, same_holds}
use Rattle.sheet.proofs.Numbers.{Bytes}
use Rattle.sheet.proofs.Accepted.{accepted}
use Rattle.sheet.proofs.Written.{written}
use Rattle.sheet.proofs.Bytes.{sheet_bytes}
use Rattle.sheet.proofs.Settled.{longest, settles}
use Rattle.sheet.proofs.Fewest.{fewest, enough}
use Rattle.sheet.proofs.Longest.{full_table, full_sound, full_shaped, full_long}

-- the answer is 0 and the table t
abbrev pub Accepts : List ℕ → Table → Type 0
Accepts s t = ((sheet_at s).answer ≡ 0) × ((sheet_at s).table ≡ t)

-- answer 0 is given to nothing that is refused
got_table : {Q : Table → ℕ → Type 0} {g h : Got Table} {t : Table} → Same Q g h → (handed g).answer ≡ 0 → (handed g).table ≡ t → (at : ℕ) × (g ≡ value t at)
got_table (fine {at = at} q) a e = (at, rw e)
got_table (none {n} r) a e = absurd (rw a at r)

table_of : (s : List ℕ) → Bytes s → (t : Table) → Accepts s t → (at : ℕ) × (table_at s ≡ value t at)
unfolding sheet_at
table_of s b t h = got_table (accepted s b) h.0 h.1

-- THE READER ACCEPTS EXACTLY THE SHEETS OF SOUND TABLES
pub accepts : (s : List ℕ) → Bytes s → (t : Table) → Accepts s t ↔ (Sound t × Shaped t × (s ≡ sheet_of t))
unfolding sheet_at
accepts s b t = (to, from)
  where
    to : Accepts s t → Sound t × Shaped t × (s ≡ sheet_of t)
    to h = let a = same_holds (accepted s b) (table_of s b t h).1 in (a.sound, a.shaped, a.sheet)

    from : Sound t × Shaped t × (s ≡ sheet_of t) → Accepts s t
    from h = rw (h.2, written t h.0 h.1) (refl, refl)

-- two accepted sheets of one table are the same bytes
pub one_sheet : (s s' : List ℕ) → Bytes s → Bytes s' → (t : Table) → Accepts s t → Accepts s' t → s ≡ s'
one_sheet s s' b b' t h h' = ((accepts s b t).0 h).2 ∙ sym ((accepts s' b' t).0 h').2

-- "The longest sheet has 2,291 bytes"
pub no_longer : (s : List ℕ) → Bytes s → (t : Table) → Accepts s t → length s ≤ longest_sheet
no_longer s b t h = longest s b (table_of s b t h).1

-- nor has any sound table a longer one
pub written_no_longer : (t : Table) → Sound t → Shaped t → length (sheet_of t) ≤ longest_sheet
written_no_longer t h sh = no_longer (sheet_of t) (sheet_bytes t) t ((accepts (sheet_of t) (sheet_bytes t) t).1 (h, sh, refl))

-- and one has as many
pub longest_accepted : (s : List ℕ) × Bytes s × ((t : Table) × Accepts s t) × (length s ≡ longest_sheet)
longest_accepted =
    let t = full_table in
    (sheet_of t, sheet_bytes t, (t, (accepts (sheet_of t) (sheet_bytes t) t).1 (full_sound, full_shaped, refl)), full_long)

-- "So reading 2,292 settles any input"
pub settled : (s : List ℕ) → Bytes s → sheet_at s ≡ sheet_at (take settling_bytes s)
unfolding sheet_at
settled s b = ap handed (settles s b)

-- every answer is 0 or one of 30 to 36
pub answers : (s : List ℕ) → Bytes s → T (among (sheet_at s).answer sheet_answers)
unfolding sheet_at
answers s b = go (accepted s b)
  where
    go : {Q : Table → ℕ → Type 0} {g h : Got Table} → Same Q g h → T (among (handed g).answer sheet_answers)
    go (fine q) = tt
    go (none {n} r) = rw (ne_eqb n 0 (λ e. absurd (rw e at r))) r

-- so its refusals are 10 or more, as all are
high : List ℕ → Bool
high [] = true
high (x ∷ l) = leb 10 x && high l

among_high : (n : ℕ) (l : List ℕ) → high l ≡ true → T (among n l) → 10 ≤ n
unfolding high
among_high n [] e h = elim h [ ]
among_high n (x ∷ l) e h = go (eqb n x) refl h (among_high n l (and_right (leb 10 x) (high l) e))
  where
    go : (b : Bool) → eqb n x ≡ b → T (b || among n l) → (T (among n l) → 10 ≤ n) → 10 ≤ n
    go true q m more = omega (arith, eqb-true n x q, leb-true 10 x (and_left (leb 10 x) (high l) e))
    go false q m more = more m

pub refusal_high : (s : List ℕ) → Bytes s → ¬ ((sheet_at s).answer ≡ 0) → 10 ≤ (sheet_at s).answer
unfolding high
refusal_high s b h = among_high (sheet_at s).answer sheet_refusals refl (rw (ne_eqb (sheet_at s).answer 0 h) at (answers s b))

-- no sheet is shorter than the fewest bytes that get its answer; that so few do get it is `refusals` of Examples, and for 0 `empty`
pub none_shorter : (s : List ℕ) → fewest (sheet_at s).answer ≤ length s
unfolding sheet_at
none_shorter s = go (enough s)
  where
    go : {g h : Got Table} → Agree (λ n. fewest n ≤ length s) (λ t at. 3 ≤ length s) g h → fewest (handed g).answer ≤ length s
    go (fine q) = q
    go (none r) = r

-- "A sheet reader that refuses hands back a fresh table"
pub refused_fresh : (s : List ℕ) → ¬ ((sheet_at s).answer ≡ 0) → (sheet_at s).table ≡ fresh_table
unfolding sheet_at
refused_fresh s h = go (table_at s) h
  where
    go : (g : Got Table) → ¬ ((handed g).answer ≡ 0) → (handed g).table ≡ fresh_table
    go (value t at) e = absurd (e refl)
    go (refused n) e = refl

-- the promise of a number allows one answer
pub one_number : (a b : Number) → outcome a ≡ outcome b → a ≡ b
one_number (Value v next) (Value w after) e = let x : v ≡ w = cc in let y : next ≡ after = cc in rw (x, y)
one_number (Value v next) (Refused n) e = absurd (let z : ◌≡◌ {A = ℕ} 0 1 = cc in omega arith)
one_number (Refused n) (Value v next) e = absurd (let z : ◌≡◌ {A = ℕ} 0 1 = cc in omega arith)
one_number (Refused n) (Refused m) e = let x : number_of n ≡ number_of m = cc in rw (number_one n m x)
