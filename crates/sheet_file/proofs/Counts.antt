-- What is counted of a sheet, and what it adds to the totals.
use Rattle.std.proofs.Common.{◌≡◌, ℕ, Bool, true, false, cond, eqb, List, ap, subst, arith, eq-eqb, ne_eqb}
use Rattle.answers.specs.Answers.{done}
use Rattle.hall.specs.declared.table.Table.{Table}
use Rattle.density.specs.Density.{DensityOf}
use Rattle.density.specs.declared.density.Density.{Density}
use Rattle.sheet.specs.Reader.{Sheet, hands, sheet_at}
use Rattle.sheet_file.specs.declared.counted.Counted.{Counted}
use Rattle.sheet_file.specs.declared.totals.Totals.{Totals}
use Rattle.sheet_file.specs.Counted.{no_density, CountedOf}
use Rattle.sheet_file.specs.Totals.{sum, done_of, sum_of_densities, with_accepted, with_refused, totals_with}

module _ (sheet : List ℕ) (answer : ℕ) (t : Table) (d : Density) (read : hands answer t ≡ sheet_at sheet) where
  pub refused_counted : (answer ≡ done → ⊥) → d ≡ no_density → CountedOf sheet (record { answer = answer; density = d })
  refused_counted h e = record { answer = ap (λ (s : Sheet). s.answer) read; density = λ z. absurd (h z); none = λ z. e }

  pub accepted_counted : answer ≡ done → DensityOf t d → CountedOf sheet (record { answer = answer; density = d })
  accepted_counted e of = record {
    answer = ap (λ (s : Sheet). s.answer) read;
    density = λ z. subst (λ u. DensityOf u d) (ap (λ (s : Sheet). s.table) read) of;
    none = λ h. absurd (h e);
  }

-- records with equal fields
pub same_density : {b b' e e' t t' v v' x x' : ℕ} → b ≡ b' → e ≡ e' → t ≡ t' → v ≡ v' → x ≡ x'
    → ◌≡◌ {A = Density} (record { blocked = b; events = e; task_edges = t; event_edges = v; task_event_edges = x })
    (record { blocked = b'; events = e'; task_edges = t'; event_edges = v'; task_event_edges = x' })
same_density p q r s u = λ i. record { blocked = p i; events = q i; task_edges = r i; event_edges = s i; task_event_edges = u i }

pub same_totals : {s s' r r' : ℕ} {d d' : Density} → s ≡ s' → r ≡ r' → d ≡ d'
    → ◌≡◌ {A = Totals} (record { sheets = s; refused = r; density = d }) (record { sheets = s'; refused = r'; density = d' })
same_totals p q e = λ i. record { sheets = p i; refused = q i; density = e i }

module _ (t : Totals) (c : Counted) {sheets refused : ℕ} {d : Density} where
  pub with_refused_lem : (c.answer ≡ done → ⊥) → sheets ≡ t.sheets → refused ≡ sum t.refused 1 → d ≡ t.density
      → ◌≡◌ {A = Totals} (record { sheets = sheets; refused = refused; density = d }) (totals_with t c)
  unfolding totals_with
  with_refused_lem h p q e = rw (ne_eqb c.answer done h) (same_totals p q e)

  pub with_accepted_lem : c.answer ≡ done → sheets ≡ sum t.sheets 1 → refused ≡ t.refused → d ≡ sum_of_densities t.density c.density
      → ◌≡◌ {A = Totals} (record { sheets = sheets; refused = refused; density = d }) (totals_with t c)
  unfolding totals_with
  with_accepted_lem h p q e = rw (eq-eqb c.answer done h) (same_totals p q e)

-- either way there was one sheet more
pub one_done : (t : Totals) (c : Counted) → done_of (totals_with t c) ≡ sum (done_of t) 1
unfolding totals_with
one_done t c = go (eqb c.answer done)
  where
    go : (b : Bool) → done_of (cond b (with_accepted t c.density) (with_refused t)) ≡ sum (done_of t) 1
    go true = omega arith
    go false = omega arith
