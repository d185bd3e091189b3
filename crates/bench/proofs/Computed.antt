-- The bench: what each row states is what is computed. 33 tests of soundness in a row would be costly, so P11's tables are sound by the law, and only their
-- states are computed.
use mathlib.Core.Path.{◌≡◌, refl, ap, sym, ◌∙◌, subst}
use mathlib.Core.Bool.{true}
use mathlib.Core.List.{List, [], ◌∷◌, ◌++◌}
use Prim.Native.Nat.{ℕ, zero, suc, ◌+◌, ◌<◌, ◌≤◌}
use native.Mathlib.Omega.{arith}
use native.Mathlib.Nat.{add-zero}
use lib.Count.{count_trailing_zeros}
use lib.Dec.{eqb}
use lib.ListN.{replicate}
use borrow.Author.Tests.{eqb-true}
use Rattle.sets.specs.Set.{size}
use Rattle.deadlock.specs.Parts.{step_of, go_of, low_of, once_of}
use Rattle.deadlock.proofs.Found.{places}
use Rattle.deadlock.proofs.Reached.{ring_from}
use Rattle.deadlock.proofs.Twins.{clear, named_of, nexts_of, ring_of}
use Rattle.answers.specs.Answers.{done, none_free}
use Rattle.hall.specs.Calls.{called as called_with, refused as refused_with, ruled, open_task_of, arrive_of, wait_at_of, call_of}
use Rattle.hall.specs.Effects.{with_state, with_entry, with_open, without_entries}
use Rattle.hall.specs.Every.{every, lowest_from}
use Rattle.hall.specs.Parts.{entries_sound, states_sound, sound_of}
use Rattle.hall.specs.Table.{fresh_table, member_at, open_at, phase_at, state_at, Shaped}
use Rattle.states.specs.Tests.{refusal_of, caller_tests, member_tests, arrive_tests, wait_at_tests}
use Rattle.hall.specs.Tests.{lowest_free, open_task_tests}
use Rattle.hall.specs.Waiting.{impedes_of}
use Rattle.hall.specs.declared.calls.Called.{Called}
use Rattle.states.specs.declared.state.State.TheVariants.{Free, Running}
use Rattle.hall.specs.declared.table.Table.{Table}
use Rattle.hall.proofs.Kept.{call_shaped, call_sound}
use Rattle.hall.proofs.Every.{every_at}
use Rattle.hall.proofs.Rows.{row_effect, open_task_row, end_task_row}
use Rattle.hall.proofs.Soundness.{fresh_shaped, fresh_sound}
use Rattle.states.specs.Parts.{event_of, same_of, awaits_of}
use Rattle.density.proofs.Decided.{density_one}
use Rattle.density.proofs.Twins.{count_of, pairs_of, stands_at, impedes_at, joined_at, impeder_at, density_in, density_in_counts}
use Rattle.judge.proofs.One.{routes_agree}
use Rattle.sets.proofs.Masks.{mask_of}
use Rattle.judge.proofs.Twins.{rows_of, named_in, ring_in, round_in, judge_of, judge_of_judged}
use Rattle.fields.specs.Number.{plain_at, number_at}
use Rattle.bench.specs.Bench.{Row, judged, dense, called, read, stated_of, counts_of, Holds, Each, open_task, p2, p3, p4, p5, p6, p7, p8, p9}
use Rattle.bench.specs.Bench.{figure2, section2_4, example4_1, example4_1_before, example4_2, example4_3, rows}
use Rattle.hall.specs.declared.calls.Call.{Call}
use Rattle.hall.specs.Calls.{call, call_of}
use Rattle.demands.specs.Series.{Series, after}

-- ---- P11
-- the first n tasks run
opened : ℕ → Table
opened zero = fresh_table
opened (suc n) = with_state (opened n) n Running

lowest_opened : (n : ℕ) → n < 33 → lowest_free (opened n) ≡ n
unfolding every opened lowest_free lowest_from state_at fresh_table with_state
lowest_opened n l = eqb-true (lowest_free (opened n)) n (every_at (λ m. eqb (lowest_free (opened m)) m) 33 n refl l)

record Ready (t : Table) : Type 0 where
  shaped : Shaped t
  sound : sound_of t ≡ true

call_ready : (t : Table) → Ready t → (c : Call) → Ready (call_of t c).table
call_ready t r c = record {
  shaped = call_shaped t r.shaped c;
  sound = call_sound t r.shaped r.sound c;
}

-- an opening takes the lowest free number
opens : (t : Table) → Ready t → (n : ℕ) → lowest_free t ≡ n → n < 32 → call_of t open_task ≡ called_with done n (with_state t n Running)
unfolding call_of
opens t r n e l =
    row_effect (open_task_row t) (record { sound = r.sound; free = omega (arith, e) })
    ∙ ap (λ (k : ℕ). called_with done k (with_state t k Running)) e

opens_next : (n : ℕ) → n < 32 → Ready (opened n) → call_of (opened n) open_task ≡ called_with done n (opened (suc n))
unfolding opened
opens_next n l r = opens (opened n) r n (lowest_opened n (omega arith)) l

ready : (n : ℕ) → n ≤ 32 → Ready (opened n)
unfolding opened
ready zero l = record { shaped = fresh_shaped; sound = fresh_sound }
ready (suc n) l =
    let r = ready n (omega arith) in
    subst Ready (ap (λ (c : Called). c.table) (opens_next n (omega arith) r)) (call_ready (opened n) r open_task)

-- so many openings, and what comes after them
module _ (rest : List Call) where
  openings : (m n : ℕ) → n + m ≤ 32 → Series (opened (n + m)) rest → Series (opened n) (replicate m open_task ++ rest)
  openings zero n l s = rw (add-zero n) at s
  openings (suc m) n l s =
      let e = opens_next n (omega arith) (ready n (omega arith)) in
      let z : n + suc m ≡ suc n + m = omega arith in (
        omega (arith, ap (λ (c : Called). c.answer) e),
        subst (λ (u : Table). Series u (replicate m open_task ++ rest)) (sym (ap (λ (c : Called). c.table) e))
            (openings m (suc n) (omega arith) (subst (λ (k : ℕ). Series (opened k) rest) z s)),
      )

  after_openings : (m n : ℕ) → n + m ≤ 32 → after (opened n) (replicate m open_task ++ rest) ≡ after (opened (n + m)) rest
  after_openings zero n l = rw (add-zero n)
  after_openings (suc m) n l =
      let e = opens_next n (omega arith) (ready n (omega arith)) in
      let z : suc n + m ≡ n + suc m = omega arith in
      ap (λ (c : Called). after c.table (replicate m open_task ++ rest)) e
      ∙ (after_openings m (suc n) (omega arith) ∙ ap (λ (k : ℕ). after (opened k) rest) z)

full : Table
full = opened 32

full_refuses : call_of full open_task ≡ refused_with full none_free
unfolding call_of open_task_of ruled refusal_of open_task_tests full
full_refuses = rw ((ready 32 (omega arith)).sound, lowest_opened 32 (omega arith)) refl

end4 : Call
end4 = call 1 4 0 0

ended : Table
ended = with_state (without_entries full 4 16) 4 Free

full_ends : call_of full end4 ≡ called_with done 0 ended
unfolding call_of full opened state_at with_state fresh_table end4 ended
full_ends = row_effect (end_task_row full 4) (record { sound = (ready 32 (omega arith)).sound; runs = refl })

ended_lowest : lowest_free ended ≡ 4
unfolding lowest_free lowest_from state_at with_state without_entries ended full opened fresh_table
ended_lowest = refl

p11_full : Holds (called fresh_table (replicate 32 open_task) open_task none_free 0)
unfolding opened full
p11_full =
    let e = ap (λ (t : Table). call_of t open_task) (after_openings [] 32 0 (omega arith)) ∙ full_refuses in
    (openings [] 32 0 (omega arith) tt, ap (λ (c : Called). c.answer) e, ap (λ (c : Called). c.value) e)

p11_next : Holds (called fresh_table (replicate 32 open_task ++ (call 1 4 0 0 ∷ [])) open_task done 4)
unfolding opened full end4
p11_next =
    let r = subst Ready (ap (λ (c : Called). c.table) full_ends) (call_ready full (ready 32 (omega arith)) end4) in
    let t = after_openings (end4 ∷ []) 32 0 (omega arith) ∙ ap (λ (c : Called). c.table) full_ends in
    let e = ap (λ (u : Table). call_of u open_task) t ∙ opens ended r 4 ended_lowest (omega arith) in (
      openings (end4 ∷ []) 32 0 (omega arith) (omega (arith, ap (λ (c : Called). c.answer) full_ends), tt),
      ap (λ (c : Called). c.answer) e,
      ap (λ (c : Called). c.value) e,
    )

-- ---- the table
-- what is computed of a row
abbrev Computes : Row → Type 0
Computes (judged t named ring) = judge_of t 0 ≡ stated_of named ring
Computes (dense t b e k v x) = density_in t ≡ counts_of b e k v x
Computes (called t before c answer val) = Holds (called t before c answer val)
Computes (read bytes largest got) = Holds (read bytes largest got)

row_holds : (r : Row) → Computes r → Holds r
row_holds (judged t named ring) e = λ route v l j. routes_agree t route 0 v (judge_of t 0) l (omega arith) j (judge_of_judged t 0) ∙ e
row_holds (dense t b e k v x) q = λ d c. density_one t d (density_in t) c (density_in_counts t) ∙ q
row_holds (called t before c answer val) h = h
row_holds (read bytes largest got) h = h

all_hold : (rs : List Row) → Each Computes rs → Each Holds rs
all_hold [] e = tt
all_hold (r ∷ rs) e = (row_holds r e.0, all_hold rs e.1)

-- one row, and the rest
infixr 5 ◌then◌
abbrev ◌then◌ : {A B : Type 0} → A → B → A × B
x then y = (x, y)

computed : Each Computes rows
unfolding rows p2 p3 p4 p5 p6 p7 p8 p9 figure2 section2_4 example4_1 example4_1_before example4_2 example4_3 stated_of judge_of sound_of
    entries_sound states_sound every state_at open_at member_at phase_at fresh_table with_state with_entry with_open named_in named_of clear rows_of places
    mask_of impedes_of event_of round_in ring_in ring_of nexts_of ring_from step_of go_of low_of once_of count_trailing_zeros size density_in count_of
    pairs_of stands_at impedes_at
    joined_at impeder_at awaits_of same_of call_of arrive_of wait_at_of ruled refusal_of arrive_tests wait_at_tests member_tests caller_tests number_at
    plain_at
computed =
    refl then refl then refl then refl then refl then refl then refl then refl then refl then refl then refl then refl then refl then refl then refl
    then refl then refl then refl then (tt, refl, refl) then (tt, refl, refl) then (tt, refl, refl)
    then p11_full then p11_next then refl then refl then refl then refl then refl then refl then refl then refl then refl then refl then tt

-- P1 to P12, and the paper's states
pub bench : Each Holds rows
bench = all_hold rows computed
