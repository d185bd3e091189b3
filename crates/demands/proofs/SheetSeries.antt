-- A series of `sheet_call`s is a series of calls: the sheet that a host keeps is that of the table which the calls leave.
use mathlib.Core.Path.{◌≡◌, refl, sym, ap, ◌∙◌, subst}
use mathlib.Core.Logic.Iff
use mathlib.Core.Logic.{◌↔◌}
use mathlib.Core.Bool.{cond}
use mathlib.Core.List.{List, [], ◌∷◌, ◌++◌}
use Prim.Native.Nat.{ℕ, ◌<◌, ◌≤◌}
use native.Mathlib.Omega.{arith}
use lib.Dec.{ltb}
use lib.ListN.{length, replicate, length-replicate}
use borrow.Author.Tests.{lt-ltb, le-ltb}
use Rattle.hall.specs.Calls.{call_of}
use Rattle.hall.specs.Sound.{Sound}
use Rattle.hall.specs.Table.{Shaped, fresh_table}
use Rattle.hall.specs.declared.calls.Call.{Call}
use Rattle.hall.specs.declared.calls.Called.{Called}
use Rattle.hall.specs.declared.table.Table.{Table}
use Rattle.hall.proofs.Kept.{call_refused, call_shaped}
use Rattle.hall.proofs.Soundness.{sound_iff, fresh_sound, fresh_shaped}
use Rattle.judge.specs.declared.verdict.Verdict.{Verdict}
use Rattle.fields.specs.Figures.{longest_sheet}
use Rattle.sheet.specs.Written.{sheet_of}
use Rattle.sheet.proofs.Examples.{empty}
use Rattle.sheet.proofs.Theorems.{written_no_longer}
use Rattle.writer.specs.Next.{HandedOver}
use Rattle.sheet_call.proofs.Theorems.{HandedOn, refused, short, whole, handed_on, handed_sheet, call_sheet}
use Rattle.demands.specs.Demands.{MeansNever, MeansNeverOn}
use Rattle.demands.specs.Series.{Accepted, Series, after, Contains, Never, release, WayOn}
use Rattle.demands.specs.Series.{SheetStep, handed_by, sheet_left, SheetSeries, calls_of, NeverOn, WayOnFrom}
use Rattle.demands.proofs.Answers.{call_answered}

-- ---- one step, on the sheet of a sound table
module _ (t : Table) (s : Sound t) (z : Shaped t) (c : Call) where
  pub next_sound : Sound (call_of t c).table
  next_sound = (call_answered t z c).sound s

  pub step_handed : (b : List ℕ) → HandedOn (call_of t c) b (handed_by (sheet_of t) (record { call = c; next = b }))
  step_handed b = subst (HandedOn (call_of t c) b) (sym (call_sheet t s z c b)) (handed_on (call_of t c) b)

  -- accepted is the call too, and the sheet that is kept is its next table's
  pub step_kept : (b : List ℕ) → let h = handed_by (sheet_of t) (record { call = c; next = b }) in h.answer < 10
      → Accepted t c × (sheet_left h ≡ sheet_of (call_of t c).table)
  step_kept b l = let x = handed_sheet (step_handed b) l in (rw (sym x.0) l, x.2)

  pub too_short : (b : List ℕ) → longest_sheet ≤ length b → length b < length (sheet_of (call_of t c).table) → ⊥
  too_short b room l = omega (arith, room, l, written_no_longer _ next_sound (call_shaped t z c))

  -- into a buffer with room for any sheet the answer is the call's
  pub roomy_answer : (b : List ℕ) → longest_sheet ≤ length b → (handed_by (sheet_of t) (record { call = c; next = b })).answer ≡ (call_of t c).answer
  roomy_answer b room = go (step_handed b)
    where
      go : {h : HandedOver} → HandedOn (call_of t c) b h → h.answer ≡ (call_of t c).answer
      go (refused l) = refl
      go (short a l) = absurd (too_short b room l)
      go (whole a l) = refl

  -- accepted or refused, a host goes on with the sheet of the table that the call leaves
  pub step_after : (b : List ℕ) → longest_sheet ≤ length b → let h = handed_by (sheet_of t) (record { call = c; next = b }) in
      cond (ltb h.answer 10) (sheet_left h) (sheet_of t) ≡ sheet_of (call_of t c).table
  step_after b room = go (step_handed b)
    where
      go : {h : HandedOver} → HandedOn (call_of t c) b h → cond (ltb h.answer 10) (sheet_left h) (sheet_of t) ≡ sheet_of (call_of t c).table
      go (refused l) = rw (le-ltb (call_of t c).answer 10 l) (ap (λ (r : Called). sheet_of r.table) (sym (call_refused t c l)))
      go (short a l) = absurd (too_short b room l)
      go (whole a l) = rw (lt-ltb (call_of t c).answer 10 a) (handed_sheet {r = call_of t c} {b = b} (whole a l) a).2

-- ---- a series
pub series_called : (t : Table) → Sound t → Shaped t → (steps : List SheetStep) → SheetSeries (sheet_of t) steps → Series t (calls_of steps)
series_called t s z [] x = tt
series_called t s z (p ∷ steps) x =
    let k = step_kept t s z p.call p.next x.0 in
    let u = (call_of t p.call).table in
    (k.0, series_called u (next_sound t s z p.call) (call_shaped t z p.call) steps (subst (λ (b : List ℕ). SheetSeries b steps) k.1 x.1))

-- the calls, each into a buffer with room for any sheet
abbrev roomy : Call → SheetStep
roomy c = record { call = c; next = replicate longest_sheet 0 }

abbrev roomies : List Call → List SheetStep
roomies [] = []
roomies (c ∷ calls) = roomy c ∷ roomies calls

pub series_made : (t : Table) → Sound t → Shaped t → (calls : List Call) → Series t calls → SheetSeries (sheet_of t) (roomies calls)
series_made t s z [] x = tt
series_made t s z (c ∷ calls) x =
    let b = (roomy c).next in
    let same = roomy_answer t s z c b (omega (arith, length-replicate {A = ℕ} longest_sheet 0)) in
    let l : (handed_by (sheet_of t) (roomy c)).answer < 10 = rw same x.0 in
    let rest = series_made (call_of t c).table (next_sound t s z c) (call_shaped t z c) calls x.1 in
    (l, subst (λ (k : List ℕ). SheetSeries k (roomies calls)) (sym (step_kept t s z c b l).1) rest)

-- ---- accepted or refused
-- the sheet that steps leave: after a refusal a host goes on with the one that it has
abbrev pub sheet_after : List ℕ → List SheetStep → List ℕ
sheet_after sheet [] = sheet
sheet_after sheet (s ∷ steps) = sheet_after (cond (ltb (handed_by sheet s).answer 10) (sheet_left (handed_by sheet s)) sheet) steps

-- with room for any sheet each time
abbrev pub Roomy : List SheetStep → Type 0
Roomy [] = Unit {0}
Roomy (p ∷ steps) = (longest_sheet ≤ length p.next) × Roomy steps

pub sheet_after_lem : (t : Table) → Sound t → Shaped t → (steps : List SheetStep) → Roomy steps
    → sheet_after (sheet_of t) steps ≡ sheet_of (after t (calls_of steps))
sheet_after_lem t s z [] room = refl
sheet_after_lem t s z (p ∷ steps) room =
    ap (λ (b : List ℕ). sheet_after b steps) (step_after t s z p.call p.next room.0)
    ∙ sheet_after_lem (call_of t p.call).table (next_sound t s z p.call) (call_shaped t z p.call) steps room.1

-- so a host that begins with the fresh table's sheet keeps the sheet of the table that its calls leave
pub fresh_after : (steps : List SheetStep) → Roomy steps → sheet_after (1 ∷ 0 ∷ 0 ∷ []) steps ≡ sheet_of (after fresh_table (calls_of steps))
fresh_after steps room =
    ap (λ (b : List ℕ). sheet_after b steps) (sym empty.1) ∙ sheet_after_lem fresh_table ((sound_iff fresh_table).0 fresh_sound) fresh_shaped steps room

-- ---- never, and a way on
same_calls : (calls : List Call) → calls_of (roomies calls) ≡ calls
same_calls [] = refl
same_calls (c ∷ calls) = ap (λ (l : List Call). c ∷ l) (same_calls calls)

roomies_end : (calls : List Call) (c : Call) → roomies (calls ++ (c ∷ [])) ≡ roomies calls ++ (roomy c ∷ [])
roomies_end [] c = refl
roomies_end (d ∷ calls) c = ap (λ (l : List SheetStep). roomy d ∷ l) (roomies_end calls c)

module _ (t : Table) (s : Sound t) (z : Shaped t) (k : ℕ) where
  pub never_on : Never t k ↔ NeverOn (sheet_of t) k
  never_on = (
    λ n steps x. n (calls_of steps) (series_called t s z steps x),
    λ n calls x has. n (roomies calls) (series_made t s z calls x) (subst (Contains k) (sym (same_calls calls)) has),
  )

  pub way_on_from : WayOn t k → WayOnFrom (sheet_of t) k
  way_on_from w = record {
    steps = roomies w.calls;
    next = (roomy (release k)).next;
    series = subst (SheetSeries (sheet_of t)) (roomies_end w.calls (release k)) (series_made t s z (w.calls ++ (release k ∷ [])) w.series);
  }

-- what a verdict means by calls it means by `sheet_call`s on the sheet of its table
pub by_sheets : (t : Table) → Shaped t → Sound t → (v : Verdict) → MeansNever t v → MeansNeverOn (sheet_of t) t v
by_sheets t z s v m = record {
  never = λ k e b. Iff.trans (m.never k e b) (never_on t s z k);
  way_on = λ k e b n. way_on_from t s z k (m.way_on k e b n);
}
