-- A step over a file of sheets is one: two that meet its promise are equal.
use mathlib.Core.Path.{◌≡◌, sym, ap, ◌∙◌}
use mathlib.Core.List.{List}
use Prim.Native.Nat.{ℕ, ◌+◌}
use Rattle.sheet_file.specs.File.{bytes_from}
use Rattle.sheet_file.specs.Piece.{piece_of}
use Rattle.sheet_file.specs.Totals.{done_of, totals_with}
use Rattle.sheet_file.specs.declared.counted.Counted.{Counted}
use Rattle.sheet_file.specs.declared.piece.Piece.{Piece}
use Rattle.sheet_file.specs.declared.piece.Piece.TheVariants.{Sheet, Stopped, Ended}
use Rattle.sheet_file.specs.declared.totals.Totals.{Totals}
use Rattle.sheet_file.proofs.One.{counted_one}
use Rattle.text.specs.Density.{sheet_line}
use Rattle.text.specs.Text.{text_with}
use Rattle.demands.specs.Densities.{LastStep, SheetStep, StepBy, StepTaken}
use Rattle.demands.specs.declared.densities.Step.{Step}

same_step : (s u : Step) → s.text ≡ u.text → s.totals ≡ u.totals → s.taken ≡ u.taken → s.ended ≡ u.ended → s ≡ u
same_step s u p q r e = λ i. record { text = p i; totals = q i; taken = r i; ended = e i }

module _ (bytes : List ℕ) (before : Totals) (s u : Step) where
  last_one : (line : List ℕ) → LastStep line before s → LastStep line before u → s ≡ u
  last_one line x y =
      same_step s u (x.prints.is ∙ sym y.prints.is) (x.totals ∙ sym y.totals) (x.taken ∙ sym y.taken) (x.ended ∙ sym y.ended)

  sheet_one : (sheet : List ℕ) (to : ℕ) → SheetStep sheet before to s → SheetStep sheet before to u → s ≡ u
  sheet_one sheet to x y =
      let same = counted_one sheet x.counted y.counted x.counts y.counts in
      let line = ap (λ (c : Counted). text_with (sheet_line (done_of before + 1) c)) same in
      let totals = ap (totals_with before) same in
      same_step s u (x.prints.is ∙ line ∙ sym y.prints.is) (x.totals ∙ totals ∙ sym y.totals) (x.taken ∙ sym y.taken)
      (x.ended ∙ sym y.ended)

  pub step_one : StepTaken bytes before s → StepTaken bytes before u → s ≡ u
  step_one x y = go (piece_of bytes (done_of before)) x.is y.is
    where
      go : (p : Piece) → StepBy bytes before s p → StepBy bytes before u p → s ≡ u
      go Ended x y = last_one _ x y
      go (Stopped n) x y = last_one _ x y
      go (Sheet from to) x y = sheet_one (bytes_from bytes from to) to x y
