-- A run over a whole file prints a line for each sheet, and exact totals.
use mathlib.Core.Path.{◌≡◌, refl, sym, ap, subst, ◌∙◌}
use mathlib.Core.Bool.{true, false, true≢false}
use mathlib.Core.List.{List, [], ◌∷◌, ◌++◌}
use Prim.Native.Nat.{ℕ, ◌+◌, ◌≤◌}
use native.Mathlib.Omega.{arith}
use lib.ListN.{length, take, drop}
use Rattle.sheet_file.specs.File.{Ending, CutInto, ends, stops, goes_on}
use Rattle.sheet_file.specs.Piece.{most_sheets, piece_of}
use Rattle.sheet_file.specs.Totals.{no_totals, done_of}
use Rattle.sheet_file.specs.declared.counted.Counted.{Counted}
use Rattle.sheet_file.specs.declared.piece.Piece.{Piece}
use Rattle.sheet_file.specs.declared.piece.Piece.TheVariants.{Sheet, Stopped, Ended}
use Rattle.sheet_file.specs.declared.totals.Totals.{Totals}
use Rattle.sheet_file.proofs.Added.{totals_after, AllSmall, totals_exact}
use Rattle.sheet_file.proofs.One.{counted_small}
use Rattle.demands.specs.Densities.{StepBy, Run, last, on, written, sheet_lines, last_line, EachCounted, none, and, FilePrinted}
use Rattle.demands.specs.declared.densities.Step.{Step}
use Rattle.demands.proofs.OfFiles.{OneMore, step_on}

-- what a run prints from here on
record Printed (bytes : List ℕ) (before : Totals) (steps : List Step) : Type 0 where
  pub sheets : List (List ℕ)
  pub ending : Ending
  pub cut : CutInto bytes (done_of before) sheets ending
  pub counted : List Counted
  pub counts : EachCounted sheets counted
  pub lines : written steps ≡ sheet_lines (done_of before + 1) counted ++ (last_line ending (totals_after before counted) ∷ [])
  pub few : done_of before ≤ most_sheets → done_of before + length counted ≤ most_sheets

module _ (bytes : List ℕ) (before : Totals) (s : Step) where
  -- nothing comes after the last step
  only : {ending : Ending} → CutInto bytes (done_of before) [] ending → take s.text.length s.text.bytes ≡ last_line ending before
      → Printed bytes before (s ∷ [])
  only {ending} cut line = record {
    sheets = [];
    ending = ending;
    cut = cut;
    counted = [];
    counts = none;
    lines = ap (λ l. l ∷ []) line;
    few = λ h. omega arith;
  }

  at_last : (p : Piece) → piece_of bytes (done_of before) ≡ p → StepBy bytes before s p → s.ended ≡ true → Printed bytes before (s ∷ [])
  at_last Ended e l h = only (ends e) l.prints.whole
  at_last (Stopped n) e l h = only (stops n e) l.prints.whole
  at_last (Sheet from to) e l h = absurd (true≢false (sym h ∙ l.ended))

  -- a sheet's line, and what comes after it
  before_more : (more : List Step) (p : Piece) → piece_of bytes (done_of before) ≡ p → StepBy bytes before s p → OneMore before s.totals
      → s.ended ≡ false → Printed (drop s.taken bytes) s.totals more → Printed bytes before (s ∷ more)
  before_more more Ended e l one h r = absurd (true≢false (sym l.ended ∙ h))
  before_more more (Stopped n) e l one h r = absurd (true≢false (sym l.ended ∙ h))
  before_more more (Sheet from to) e l one h r =
      let c = l.counted in
      let left = subst (λ n. CutInto (drop n bytes) (done_of s.totals) r.sheets r.ending) l.taken r.cut in
      let rest =
      r.lines
      ∙ ap (λ n. sheet_lines (n + 1) r.counted ++ (last_line r.ending (totals_after s.totals r.counted) ∷ [])) one.more
      ∙ ap (λ t. sheet_lines (done_of before + 1 + 1) r.counted ++ (last_line r.ending (totals_after t r.counted) ∷ [])) l.totals in
      record {
        sheets = _ ∷ r.sheets;
        ending = r.ending;
        cut = goes_on from to e (subst (λ n. CutInto (drop to bytes) n r.sheets r.ending) one.more left);
        counted = c ∷ r.counted;
        counts = and l.counts r.counts;
        lines = λ i. l.prints.whole i ∷ (rest i);
        few = λ f. omega (arith, one.few, one.more, r.few (omega (arith, one.few, one.more)));
      }

run_from : (bytes : List ℕ) (before : Totals) (steps : List Step) → Run bytes before steps → Printed bytes before steps
run_from bytes before _ (last s h e) = at_last bytes before s (piece_of bytes (done_of before)) refl h.is e
run_from bytes before _ (on s {more} h e r) =
    before_more bytes before s more (piece_of bytes (done_of before)) refl h.is (step_on bytes before s h e) e
    (run_from (drop s.taken bytes) s.totals more r)

all_small : (sheets : List (List ℕ)) (counted : List Counted) → EachCounted sheets counted → AllSmall counted
all_small _ _ none = tt
all_small _ _ (and {sheet} {c} {sheets} {more} h r) = (counted_small sheet c h, all_small sheets more r)

-- a run over a file prints a line for each sheet, and exact totals
pub file_printed : (file : List ℕ) (steps : List Step) → Run file no_totals steps → FilePrinted file steps
file_printed file steps h =
    let p = run_from file no_totals steps h in
    let exact = totals_exact p.counted (omega (arith, p.few (omega arith))) (all_small p.sheets p.counted p.counts) in
    record {
      sheets = p.sheets;
      ending = p.ending;
      cut = p.cut;
      counted = p.counted;
      counts = p.counts;
      lines = p.lines ∙ ap (λ t. sheet_lines 1 p.counted ++ (last_line p.ending t ∷ [])) exact;
    }
