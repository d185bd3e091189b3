-- Document 01, 'Bench cases': its two sheets with a strip, by computation.
use mathlib.Core.Path.{◌≡◌, refl, ap, ◌∙◌}
use mathlib.Core.List.{List, [], ◌∷◌, ◌++◌}
use Prim.Native.Nat.{ℕ, ◌≤◌}
use native.Mathlib.Omega.{arith}
use lib.Count.{count_trailing_zeros}
use lib.ListN.{length, drop, replicate}
use borrow.Author.Tests.{eq-eqb}
use Rattle.sets.specs.Set.{size}
use Rattle.deadlock.specs.Parts.{step_of, go_of, low_of, once_of}
use Rattle.deadlock.proofs.Found.{places}
use Rattle.deadlock.proofs.Reached.{ring_from}
use Rattle.deadlock.proofs.Twins.{clear, named_of, nexts_of, ring_of}
use Rattle.answers.specs.Answers.{done}
use Rattle.hall.specs.Effects.{with_state, with_entry}
use Rattle.hall.specs.Every.{every}
use Rattle.hall.specs.Parts.{entries_sound, states_sound, sound_of}
use Rattle.hall.specs.Table.{fresh_table, member_at, open_at, phase_at, state_at}
use Rattle.hall.specs.Waiting.{impedes_of}
use Rattle.states.specs.Parts.{event_of}
use Rattle.judge.specs.declared.verdict.Verdict.{Verdict}
use Rattle.judge.proofs.One.{routes_agree}
use Rattle.sets.proofs.Masks.{mask_of}
use Rattle.judge.proofs.Twins.{rows_of, named_in, ring_in, round_in, judge_of, judge_of_judged}
use Rattle.judge.specs.Routes.{largest_route}
use Rattle.fields.specs.Got.{each}
use Rattle.sheet.specs.Head.{open_step, opens_at, count_at, lists_at, head_at}
use Rattle.sheet.specs.Entry.{phase_on, event_at, blocked_at, state_on, count_on, entry_on, entry_at}
use Rattle.sheet.specs.Reader.{member_step, members_at, task_step, tasks_at, entries_at, table_at, sheet_at}
use Rattle.fields.specs.Number.{plain_at, number_at, rising_at}
use Rattle.sheet.proofs.Examples.{p4}
use Rattle.mollavisce.specs.Entry.{Entered}
use Rattle.mollavisce.specs.Strip.{strip_of, strip_after}

-- by whichever route the sheet leaves these 38 bytes, and the rest of the strip
abbrev pub Leaves : List ℕ → List ℕ → Type 0
Leaves sheet bytes =
    (route : ℕ) (before after : List ℕ) (answer : ℕ) → route ≤ largest_route → 38 ≤ length before → Entered sheet route before after answer
    → (answer ≡ done) × (after ≡ bytes ++ drop 38 before)

computed : (sheet : List ℕ) → (sheet_at sheet).answer ≡ done → (judge_of (sheet_at sheet).table 0).answer ≡ done
    → Leaves sheet (strip_of (judge_of (sheet_at sheet).table 0))
unfolding strip_after
computed sheet a d route before after answer l m x =
    let y = x.judged l m in
    let t = (sheet_at sheet).table in
    let zero-there : 0 ≤ largest_route = omega arith in
    let e = routes_agree t route 0 y.0 (judge_of t 0) l zero-there (y.1.judged l a) (judge_of_judged t 0) in
    let n = ap (λ (v : Verdict). v.answer) e ∙ d in
    (y.2 ∙ n, y.3 ∙ (rw (eq-eqb y.0.answer done n) (ap (λ (v : Verdict). strip_of v ++ drop 38 before) e)))

-- "Sheet of P4 .. Strip: `03 00 00 00 02 02 00 01`, then thirty `FF`"
pub p4_strip : Leaves p4 (3 ∷ 0 ∷ 0 ∷ 0 ∷ 2 ∷ 2 ∷ 0 ∷ 1 ∷ replicate 30 255)
unfolding strip_of judge_of sound_of entries_sound states_sound every state_at open_at member_at phase_at fresh_table with_state with_entry named_in
    named_of clear
    rows_of places mask_of impedes_of event_of round_in ring_in ring_of nexts_of ring_from step_of go_of low_of once_of count_trailing_zeros size sheet_at
    table_at head_at
    lists_at count_at opens_at open_step each entries_at tasks_at task_step entry_at entry_on state_on blocked_at event_at phase_on count_on members_at
    member_step
    plain_at number_at rising_at
p4_strip = computed p4 refl refl

-- "Nobody named: all zeros, then 255s"
pub empty_strip : Leaves (1 ∷ 0 ∷ 0 ∷ []) (0 ∷ 0 ∷ 0 ∷ 0 ∷ 0 ∷ 0 ∷ replicate 32 255)
unfolding strip_of judge_of sound_of entries_sound states_sound every state_at open_at member_at phase_at fresh_table named_in named_of clear rows_of
    places mask_of
    impedes_of event_of round_in ring_in ring_of nexts_of ring_from step_of go_of low_of once_of count_trailing_zeros size sheet_at table_at head_at
    lists_at count_at
    opens_at each entries_at tasks_at plain_at number_at
empty_strip = computed (1 ∷ 0 ∷ 0 ∷ []) refl refl
