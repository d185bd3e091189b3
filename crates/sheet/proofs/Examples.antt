-- Worked examples: document 01's sheets, and for each refusal a sheet of the fewest bytes that get it.
use Prim.Native.Nat.{ℕ}
use mathlib.Core.Path.{◌≡◌, refl}
use mathlib.Core.Bool.{true}
use mathlib.Core.List.{List, [], ◌∷◌}
use lib.ListN.{length}
use Rattle.hall.specs.Effects.{with_state, with_entry}
use Rattle.states.specs.State.{event}
use Rattle.hall.specs.Table.{state_at, open_at, member_at, phase_at, fresh_table}
use Rattle.states.specs.declared.state.State.TheVariants.{Blocked}
use Rattle.hall.specs.declared.table.Table.{Table}
use Rattle.fields.specs.Got.{refused, each}
use Rattle.fields.specs.Number.{plain_at, number_at, rising_at, number_bytes}
use Rattle.sheet.specs.Head.{open_step, opens_at, count_at, lists_at, head_at}
use Rattle.sheet.specs.Entry.{phase_on, event_at, blocked_at, state_on, count_on, entry_on, entry_at}
use Rattle.sheet.specs.Reader.{member_step, members_at, task_step, tasks_at, entries_at, table_at, sheet_at}
use Rattle.sheet.specs.Written.{listed, sheet_of}
use Rattle.sheet.proofs.Fewest.{fewest}

-- the third byte's top bit comes before a needless group, and the end before both
pub in_order : (plain_at (128 ∷ 128 ∷ 128 ∷ []) 0 ≡ refused 32) × (plain_at (128 ∷ 128 ∷ 0 ∷ []) 0 ≡ refused 31) × (plain_at (128 ∷ 128 ∷ []) 0 ≡ refused 30)
unfolding plain_at
in_order = (refl, refl, refl)

-- s gets the answer n, with as few bytes as any sheet that does: so each bound of `none_shorter` is reached
abbrev pub Shortest : ℕ → List ℕ → Type 0
Shortest n s = ((sheet_at s).answer ≡ n) × (length s ≡ fewest n)

pub refusals : Shortest 30 [] × Shortest 31 (128 ∷ 0 ∷ []) × Shortest 32 (1 ∷ 17 ∷ []) × Shortest 33 (1 ∷ 2 ∷ 0 ∷ 0 ∷ [])
    × Shortest 34 (0 ∷ []) × Shortest 35 (1 ∷ 0 ∷ 0 ∷ 0 ∷ []) × Shortest 36 (1 ∷ 0 ∷ 1 ∷ 0 ∷ 1 ∷ 0 ∷ [])
unfolding sheet_at table_at head_at lists_at count_at opens_at open_step each entries_at tasks_at task_step entry_at entry_on state_on blocked_at event_at
    plain_at number_at rising_at
refusals = ((refl, refl), (refl, refl), (refl, refl), (refl, refl), (refl, refl), (refl, refl), (refl, refl))

-- "The empty table is `01 00 00`"
pub empty : (sheet_at (1 ∷ 0 ∷ 0 ∷ []) ≡ record { answer = 0; table = fresh_table }) × (sheet_of fresh_table ≡ 1 ∷ 0 ∷ 0 ∷ [])
unfolding sheet_at table_at head_at lists_at count_at opens_at each entries_at tasks_at plain_at number_at fresh_table sheet_of listed number_bytes open_at
    state_at
empty = (refl, refl)

abbrev pub p4 : List ℕ
p4 = 1 ∷ 2 ∷ 0 ∷ 1 ∷ 2 ∷ 0 ∷ 1 ∷ 0 ∷ 1 ∷ 2 ∷ 0 ∷ 1 ∷ 1 ∷ 0 ∷ 1 ∷ 1 ∷ 1 ∷ 1 ∷ 2 ∷ 0 ∷ 0 ∷ 1 ∷ 1 ∷ []

-- P4: task 0 waits (0,1), task 1 waits (1,1); 0: 0@1, 1@0; 1: 0@0, 1@1
abbrev pub SaysP4 : Table → Type 0
SaysP4 t =
    (member_at t 0 0 ≡ true) × (member_at t 1 0 ≡ true) × (member_at t 0 1 ≡ true) × (member_at t 1 1 ≡ true)
    × (state_at t 0 ≡ Blocked (event 0 1)) × (state_at t 1 ≡ Blocked (event 1 1))
    × (phase_at t 0 0 ≡ 1) × (phase_at t 1 0 ≡ 0) × (phase_at t 0 1 ≡ 0) × (phase_at t 1 1 ≡ 1)

pub p4_read : ((sheet_at p4).answer ≡ 0) × SaysP4 (sheet_at p4).table × (sheet_of (sheet_at p4).table ≡ p4)
unfolding sheet_at table_at head_at lists_at count_at opens_at open_step each entries_at tasks_at task_step entry_at entry_on state_on blocked_at event_at
    phase_on count_on members_at member_step plain_at number_at rising_at with_state with_entry sheet_of listed number_bytes open_at state_at
    member_at phase_at
p4_read = (refl, (refl, refl, refl, refl, refl, refl, refl, refl, refl, refl), refl)
