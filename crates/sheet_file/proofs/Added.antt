-- Over a file's sheets the totals are exact: no sum wraps.
use Rattle.std.proofs.Common.{◌≡◌, ℕ, ◌+◌, ◌*◌, ◌^◌, ◌<◌, ◌≤◌, Bool, true, false, cond, eqb, List, [], ◌∷◌, length, refl, ◌∙◌, arith}
use Rattle.answers.specs.Answers.{done}
use Rattle.density.specs.declared.density.Density.{Density}
use Rattle.sheet_file.specs.declared.counted.Counted.{Counted}
use Rattle.sheet_file.specs.declared.totals.Totals.{Totals}
use Rattle.sheet_file.specs.Piece.{most_sheets}
use Rattle.sheet_file.specs.Counted.{no_density}
use Rattle.sheet_file.specs.Totals.{no_totals, sum, sum_of_densities, with_accepted, with_refused, totals_with, exact_totals}
use Rattle.sheet_file.specs.Totals.{added_up, of_accepted, of_refused}
use Rattle.density.proofs.Decided.{Small}
use Rattle.sheet_file.proofs.Counts.{same_density, same_totals}

-- the totals after sheets that come one after the other
abbrev pub totals_after : Totals → List Counted → Totals
totals_after t [] = t
totals_after t (c ∷ l) = totals_after (totals_with t c) l

-- no table has more edges of a kind: 32 tasks to their events, and 32 events to 32 tasks
abbrev pub most_edges : ℕ
most_edges = 1056

abbrev pub AllSmall : List Counted → Type 0
AllSmall [] = Unit {0}
AllSmall (c ∷ l) = Small c.density × AllSmall l

-- one of the totals, and what a sheet adds to it where the sum does not wrap
record Total (total : Totals → ℕ) (number : Counted → ℕ) : Type 0 where
  pub adds : (t : Totals) (c : Counted) → total t + number c < 2 ^ 64 → total (totals_with t c) ≡ total t + number c
  pub small : (c : Counted) → Small c.density → number c ≤ most_edges

module _ {total : Totals → ℕ} {number : Counted → ℕ} (T : Total total number) where
  total_after : (t : Totals) (l : List Counted) → AllSmall l → total t + most_edges * length l < 2 ^ 64
      → total (totals_after t l) ≡ total t + added_up number l
  total_after t [] s h = omega arith
  total_after t (c ∷ l) s h =
      let few = T.small c s.0 in
      let one = T.adds t c (omega arith) in
      total_after (totals_with t c) l s.1 (omega arith) ∙ omega arith

  total_exact : (l : List Counted) → length l ≤ most_sheets → AllSmall l → total no_totals ≡ 0 → total (totals_after no_totals l) ≡ added_up number l
  total_exact l h s z = total_after no_totals l s (omega arith) ∙ omega arith

-- one of the totals, by what an accepted sheet adds to it, and a refused one
either_adds : (b : Bool) (total : Totals → ℕ) (t u w : Totals) (n m : ℕ) → (total t + n < 2 ^ 64 → total u ≡ total t + n)
    → (total t + m < 2 ^ 64 → total w ≡ total t + m) → total t + cond b n m < 2 ^ 64 → total (cond b u w) ≡ total t + cond b n m
either_adds true total t u w n m p q = p
either_adds false total t u w n m p q = q

either_few : (b : Bool) (n m : ℕ) → n ≤ most_edges → m ≤ most_edges → cond b n m ≤ most_edges
either_few true n m p q = p
either_few false n m p q = q

-- a total to which an accepted sheet adds a number of its density, and a refused one nothing
record Adding (total : Totals → ℕ) (number : Density → ℕ) : Type 0 where
  pub none : total no_totals ≡ 0
  pub more : (t : Totals) (d : Density) → total (with_accepted t d) ≡ sum (total t) (number d)
  pub same : (t : Totals) → total (with_refused t) ≡ total t
  pub few : (d : Density) → Small d → number d ≤ most_edges

of_accepted_lem : {total : Totals → ℕ} {number : Density → ℕ} → Adding total number → Total total (of_accepted number)
unfolding totals_with
of_accepted_lem {total} {number} A = record {
  adds = λ t c.
      let d = c.density in
      either_adds (eqb c.answer done) total t (with_accepted t d) (with_refused t) (number d) 0
      (λ h. A.more t d ∙ omega arith) (λ h. A.same t ∙ omega arith);
  small = λ c s. either_few (eqb c.answer done) (number c.density) 0 (A.few c.density s) (omega arith);
}

of_refused_lem : Total (λ t. t.refused) of_refused
unfolding totals_with
of_refused_lem = record {
  adds = λ t c.
      either_adds (eqb c.answer done) (λ u. u.refused) t (with_accepted t c.density) (with_refused t) 0 1 (λ h. omega arith) (λ h. omega arith);
  small = λ c s. either_few (eqb c.answer done) 0 1 (omega arith) (omega arith);
}

-- a list of sheets, up to 1,000 of them
module _ (l : List Counted) (few : length l ≤ most_sheets) (small : AllSmall l) where
  exact : (total : Totals → ℕ) (number : Density → ℕ) → Adding total number → total (totals_after no_totals l) ≡ added_up (of_accepted number) l
  exact total number A = total_exact (of_accepted_lem A) l few small A.none

  exact_count : (count : Density → ℕ) → ((a b : Density) → count (sum_of_densities a b) ≡ sum (count a) (count b))
      → ((d : Density) → Small d → count d ≤ most_edges) → count no_density ≡ 0
      → count (totals_after no_totals l).density ≡ added_up (of_accepted count) l
  exact_count count more few none =
      exact (λ t. count t.density) count (record { none = none; more = λ t d. more t.density d; same = λ t. refl; few = few })

  -- "exact totals"
  pub totals_exact : totals_after no_totals l ≡ exact_totals l
  unfolding exact_totals
  totals_exact =
      same_totals (exact (λ t. t.sheets) (λ d. 1) (record { none = refl; more = λ t d. refl; same = λ t. refl; few = λ d s. omega arith }))
      (total_exact of_refused_lem l few small refl)
      (same_density
      (exact_count (λ d. d.blocked) (λ a b. refl) (λ d s. omega (arith, s.blocked)) refl)
      (exact_count (λ d. d.events) (λ a b. refl) (λ d s. omega (arith, s.events)) refl)
      (exact_count (λ d. d.task_edges) (λ a b. refl) (λ d s. omega (arith, s.task_edges)) refl)
      (exact_count (λ d. d.event_edges) (λ a b. refl) (λ d s. omega (arith, s.event_edges)) refl)
      (exact_count (λ d. d.task_event_edges) (λ a b. refl) (λ d s. omega (arith, s.task_event_edges)) refl))
