-- The demands of a step over a file of sheets, by what comes next.
use mathlib.Core.Path.{◌≡◌, refl, sym, ap, subst, ◌∙◌}
use mathlib.Core.Logic.{◌↔◌}
use mathlib.Core.Bool.{true, false, true≢false}
use mathlib.Core.List.{List, ◌++◌}
use Prim.Native.Nat.{ℕ, ◌+◌, ◌-◌, ◌≤◌, ◌<◌}
use native.Mathlib.Omega.{arith}
use lib.ListN.{length, take, drop}
use lib.Seq.{take-add, take-append-le, drop_at, length-take-le}
use Rattle.sheet_file.specs.Counted.{CountedOf}
use Rattle.sheet_file.specs.File.{bytes_from}
use Rattle.sheet_file.specs.Piece.{most_sheets, piece_of}
use Rattle.sheet_file.specs.Parts.{wanted_of}
use Rattle.sheet_file.specs.Totals.{done_of, totals_with}
use Rattle.sheet_file.specs.declared.counted.Counted.{Counted}
use Rattle.sheet_file.specs.declared.piece.Piece.{Piece}
use Rattle.sheet_file.specs.declared.piece.Piece.TheVariants.{Sheet, Stopped, Ended}
use Rattle.sheet_file.proofs.Counts.{one_done}
use Rattle.sheet_file.proofs.Enough.{piece_settled}
use Rattle.sheet_file.proofs.Pieces.{sheet_within}
use Rattle.sheet_file.specs.declared.totals.Totals.{Totals}
use Rattle.text.specs.Density.{sheet_line, stopped_line}
use Rattle.text.specs.Text.{text_with}
use Rattle.text.specs.declared.text.Text.{Text}
use Rattle.text.proofs.Said.{within, said_whole}
use Rattle.demands.specs.Densities.{LinePrinted, LastStep, SheetStep, StepBy, StepTaken}
use Rattle.demands.specs.declared.densities.Step.{Step}

printed : (line : List ℕ) (text : Text) → text ≡ text_with line → length line ≤ 256 → LinePrinted line text
printed line text is short = record { is = is; whole = said_whole text line is short }

-- a part of a list, as it is lent and as it is said
pub lent_part : (bytes : List ℕ) (from to : ℕ) → from ≤ to → to ≤ length bytes → take (to - from) (drop from bytes) ≡ bytes_from bytes from to
lent_part bytes from to h l =
    let e : to ≡ from + (to - from) = omega arith in
    sym
    (ap (λ n. drop from (take n bytes)) e
    ∙ ap (drop from) (take-add from (to - from) bytes)
    ∙ drop_at (take from bytes) (take (to - from) (drop from bytes)) from (length-take-le from bytes (omega arith)))

-- what a step takes stands in the file
inside : (bytes : List ℕ) (before : Totals) (s : Step) (p : Piece) → p ≡ piece_of bytes (done_of before) → StepBy bytes before s p
    → s.taken ≤ length bytes
inside bytes before s Ended e h = rw h.taken (omega arith)
inside bytes before s (Stopped n) e h = rw h.taken (omega arith)
inside bytes before s (Sheet from to) e h = rw h.taken (sheet_within bytes (done_of before) (sym e)).ends

pub step_by : (bytes : List ℕ) (before : Totals) (s : Step) (p : Piece) → p ≡ piece_of bytes (done_of before) → StepBy bytes before s p
    → StepTaken bytes before s
step_by bytes before s p e h =
    record { is = subst (StepBy bytes before s) e h; within = inside bytes before s p e h }

pub last_step : (line : List ℕ) (before : Totals) (text : Text) {taken : ℕ} → text ≡ text_with line → length line ≤ 256 → taken ≡ 0
    → LastStep line before (record { text = text; totals = before; taken = taken; ended = true })
last_step line before text is short none = record { prints = printed line text is short; totals = refl; taken = none; ended = refl }

-- stopped by m, which is n
pub stopped_step : (before : Totals) (text : Text) (m n : ℕ) {taken : ℕ} → (text ≡ text_with (stopped_line m)) × (length (stopped_line m) ≤ 256)
    → m ≡ n → taken ≡ 0 → LastStep (stopped_line n) before (record { text = text; totals = before; taken = taken; ended = true })
stopped_step before text m n h e none = rw (← e) (last_step (stopped_line m) before text h.0 h.1 none)

module _ (bytes : List ℕ) (before : Totals) (c : Counted) {from to nth taken : ℕ} {text : Text} {totals : Totals} where
  pub sheet_step : CountedOf (take (to - from) (drop from bytes)) c → from ≤ to → to ≤ length bytes → text ≡ text_with (sheet_line nth c)
      → length (sheet_line nth c) ≤ 256 → nth ≡ done_of before + 1 → totals ≡ totals_with before c → taken ≡ to
      → SheetStep (bytes_from bytes from to) before to (record { text = text; totals = totals; taken = taken; ended = false })
  sheet_step counts h l is short next sums all = record {
    counted = c;
    counts = rw (← lent_part bytes from to h l) counts;
    prints = rw (← next) (printed (sheet_line nth c) text is short);
    totals = sums;
    taken = all;
    ended = refl;
  }

-- what a step prints has room in its text, so that a caller can lend it
printed_within : {line : List ℕ} {text : Text} → LinePrinted line text → text.length ≤ length text.bytes
printed_within {line} p = rw p.is (within line)

pub text_within : (bytes : List ℕ) (before : Totals) (s : Step) → StepTaken bytes before s → s.text.length ≤ length s.text.bytes
text_within bytes before s h = go (piece_of bytes (done_of before)) h.is
  where
    go : (p : Piece) → StepBy bytes before s p → s.text.length ≤ length s.text.bytes
    go Ended l = printed_within l.prints
    go (Stopped n) l = printed_within l.prints
    go (Sheet from to) l = printed_within l.prints

-- a step that is not the last is over one sheet more, of the thousand: so a run ends
pub record OneMore (before after : Totals) : Type 0 where
  pub few : done_of before < most_sheets
  pub more : done_of after ≡ done_of before + 1

pub fewer_left : {before after : Totals} → OneMore before after → most_sheets - done_of after < most_sheets - done_of before
fewer_left h = omega (arith, h.few, h.more)

pub step_on : (bytes : List ℕ) (before : Totals) (s : Step) → StepTaken bytes before s → s.ended ≡ false → OneMore before s.totals
step_on bytes before s h on = go (piece_of bytes (done_of before)) refl h.is
  where
    go : (p : Piece) → piece_of bytes (done_of before) ≡ p → StepBy bytes before s p → OneMore before s.totals
    go Ended e l = absurd (true≢false (sym l.ended ∙ on))
    go (Stopped n) e l = absurd (true≢false (sym l.ended ∙ on))
    go (Sheet from to) e l =
        let few = (sheet_within bytes (done_of before) e).few in
        record { few = few; more = ap done_of l.totals ∙ one_done before l.counted ∙ omega arith }

-- ---- a part of the file, with as many bytes as are wanted, is as good as all of it
same_by : (a b : List ℕ) (before : Totals) (s : Step) (p : Piece)
    → ((from to : ℕ) → p ≡ Sheet from to → bytes_from a from to ≡ bytes_from b from to) → StepBy a before s p → StepBy b before s p
same_by a b before s Ended same h = h
same_by a b before s (Stopped n) same h = h
same_by a b before s (Sheet from to) same h = subst (λ sheet. SheetStep sheet before to s) (same from to refl) h

module _ (before : Totals) (s : Step) where
  -- what comes next is the same in both, and so are its bytes
  same_step : (a b : List ℕ) → piece_of a (done_of before) ≡ piece_of b (done_of before)
      → ((from to : ℕ) → piece_of a (done_of before) ≡ Sheet from to → bytes_from a from to ≡ bytes_from b from to)
      → StepTaken a before s → StepTaken b before s
  same_step a b e same h = step_by b before s _ e (same_by a b before s (piece_of a (done_of before)) same h.is)

  module _ (part rest : List ℕ) (enough : wanted_of part ≤ length part) where
    same_bytes : (from to : ℕ) → piece_of part (done_of before) ≡ Sheet from to → bytes_from part from to ≡ bytes_from (part ++ rest) from to
    same_bytes from to e = ap (drop from) (sym (take-append-le to part rest (sheet_within part (done_of before) e).ends))

    pub step_settled : StepTaken part before s ↔ StepTaken (part ++ rest) before s
    step_settled =
        let settled = piece_settled part rest (done_of before) enough in (
          same_step part (part ++ rest) settled same_bytes,
          same_step (part ++ rest) part (sym settled) (λ from to e. sym (same_bytes from to (settled ∙ e))),
        )

-- where as many bytes are there as are wanted, a step that is not the last takes them all
pub step_whole : (part : List ℕ) (before : Totals) (s : Step) → length part ≡ wanted_of part → StepTaken part before s → s.ended ≡ false
    → s.taken ≡ length part
step_whole part before s all h on = go (piece_of part (done_of before)) refl h.is
  where
    go : (p : Piece) → piece_of part (done_of before) ≡ p → StepBy part before s p → s.taken ≡ length part
    go Ended e l = absurd (true≢false (sym l.ended ∙ on))
    go (Stopped n) e l = absurd (true≢false (sym l.ended ∙ on))
    go (Sheet from to) e l = l.taken ∙ (sheet_within part (done_of before) e).wanted ∙ sym all
