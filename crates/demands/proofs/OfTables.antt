-- What is handed back for a table that is written or counted, and for a sheet that is read and written again.
use mathlib.Core.Path.{◌≡◌, refl, sym, ap, subst, ◌∙◌}
use mathlib.Core.List.{List}
use Prim.Native.Nat.{ℕ, ◌≤◌, ◌<◌}
use native.Mathlib.Decide.{ℕ_discrete, dec_lt}
use native.Mathlib.Omega.{arith}
use lib.ListN.{length, drop}
use Rattle.answers.specs.Answers.{done}
use Rattle.hall.specs.Table.{Shaped}
use Rattle.hall.specs.declared.table.Table.{Table}
use Rattle.sheet.specs.Reader.{Sheet, hands, sheet_at}
use Rattle.sheet.proofs.Numbers.{Bytes}
use Rattle.writer.specs.Writer.{Wrote, wrote, write_of}
use Rattle.writer.proofs.Theorems as writer
use Rattle.density.specs.Density.{DensityOf}
use Rattle.density.specs.declared.density.Density.{Density}
use Rattle.density.proofs.Many.{many_same}
use Rattle.demands.specs.Densities.{TableCounted}
use Rattle.demands.specs.Demands.{TableWritten, SheetRewritten}

-- ---- a table
-- over what the writer is to hand back, then of what it does
of_write : (t : Table) (b : List ℕ) → Shaped t → let w = write_of t b in TableWritten t b w.answer w.value w.buffer
of_write t b z = record {
  is = refl;
  not_sound = writer.not_sound_answer t b;
  short = writer.short_answer t b;
  accepted = writer.done_answer t b;
  refusal = writer.refusal_kept t b;
  sheet = λ q. ((writer.sheet_laid t b q).0, writer.sheet_taken t b q);
  rest = rest (ℕ_discrete (write_of t b).answer done);
  read_back = writer.write_read t b z;
  enough = writer.longest_enough t b z;
}
  where
    rest : Dec ((write_of t b).answer ≡ done) → drop (write_of t b).value (write_of t b).buffer ≡ drop (write_of t b).value b
    rest (yes q) = writer.rest_kept t b q
    rest (no n) = rw (writer.refusal_kept t b n).1 refl

pub table_written : (t : Table) (b : List ℕ) (answer value : ℕ) (after : List ℕ) → Shaped t → wrote answer value after ≡ write_of t b
    → TableWritten t b answer value after
table_written t b answer value after z e = subst (λ (w : Wrote). TableWritten t b w.answer w.value w.buffer) (sym e) (of_write t b z)

-- ---- a sheet
module _ (sheet : List ℕ) (b : List ℕ) (answer value : ℕ) (after : List ℕ) where
  pub refused_rewritten : ((sheet_at sheet).answer ≡ done → ⊥) → wrote answer value after ≡ wrote (sheet_at sheet).answer 0 b
      → SheetRewritten sheet b answer value after
  refused_rewritten n e = record { fault = λ m. e; short = λ q h. absurd (n q); same = λ q h. absurd (n q) }

  pub accepted_rewritten : Bytes sheet → (t : Table) → sheet_at sheet ≡ hands done t → wrote answer value after ≡ write_of t b
      → SheetRewritten sheet b answer value after
  accepted_rewritten eight t q e = record {
    fault = λ n. absurd (n (ap (λ (s : Sheet). s.answer) q));
    short = λ d h. e ∙ writer.read_short sheet eight t b q h;
    same = λ d h. e ∙ writer.read_write sheet eight t b q h;
  }

-- two that are both so are the same
pub rewritten_one : (sheet b : List ℕ) (answer value answer' value' : ℕ) (after after' : List ℕ)
    → SheetRewritten sheet b answer value after → SheetRewritten sheet b answer' value' after'
    → wrote answer value after ≡ wrote answer' value' after'
rewritten_one sheet b answer value answer' value' after after' p q = go (ℕ_discrete (sheet_at sheet).answer done) (dec_lt (length b) (length sheet))
  where
    go : Dec ((sheet_at sheet).answer ≡ done) → Dec (length b < length sheet) → wrote answer value after ≡ wrote answer' value' after'
    go (no n) l = p.fault n ∙ sym (q.fault n)
    go (yes d) (yes l) = p.short d l ∙ sym (q.short d l)
    go (yes d) (no l) = let room : length sheet ≤ length b = omega arith in p.same d room ∙ sym (q.same d room)

-- ---- how dense a table is
pub table_counted : (t : Table) (d : Density) → DensityOf t d → TableCounted t d
table_counted t d x = record {
  is = x;
  fewer = (
    λ f. let p = many_same x.blocked f.blocked in let q = many_same x.events f.awaited in omega (arith, f.fewer),
    λ l. record { tasks = d.blocked; events = d.events; blocked = x.blocked; awaited = x.events; fewer = l },
  );
}
