-- A table with the longest sheet: every phaser is open, every task is blocked and a member of each, and every phase is the largest.
use Prim.Native.Nat.{ℕ, zero, suc, ◌+◌, ◌*◌, ◌/◌, ◌%◌, ◌<◌}
use mathlib.Core.Path.{◌≡◌, refl, ap, ◌∙◌}
use mathlib.Core.List.{List, ◌++◌}
use mathlib.Core.Bool.{Bool, true, false}
use native.Mathlib.Omega.{arith}
use lib.ListN.{length, replicate, length-append, length-replicate, get_or-replicate}
use Rattle.hall.specs.Sound.{Sound}
use Rattle.hall.specs.Parts.{entries_sound, states_sound, sound_of}
use Rattle.states.specs.Parts.{entry_sound, state_sound}
use Rattle.states.specs.State.{largest_phase, event, is_live, free_task, phase0}
use Rattle.hall.specs.Table.{state_at, open_at, member_at, phase_at, Shaped}
use Rattle.states.specs.declared.state.Phase.{Phase}
use Rattle.states.specs.declared.state.State.{State}
use Rattle.states.specs.declared.state.State.TheVariants.{Blocked}
use Rattle.hall.specs.declared.table.Table.{Table}
use Rattle.states.specs.declared.state.Task.{Task}
use Rattle.hall.proofs.Every.{every_all}
use Rattle.hall.proofs.Places.{state_in, open_in_lem, member_in, phase_in_lem}
use Rattle.hall.proofs.Soundness.{sound_iff}
use Rattle.fields.specs.Figures.{longest_sheet}
use Rattle.fields.specs.Number.{number_bytes}
use Rattle.sheet.specs.Written.{count, gather, listed, state_bytes, member_bytes, task_bytes, live_at, sheet_of}
use Rattle.sheet.proofs.Numbers.{one_byte}

-- ---- a list in which each is there, all with as many bytes
module _ (there : ℕ → Bool) (bytes : ℕ → List ℕ) (m : ℕ) where
  all_count : (n : ℕ) → ((i : ℕ) → i < n → there i ≡ true) → count there n ≡ n
  all_count zero h = refl
  all_count (suc n) h = rw (h n (omega arith)) (omega (arith, all_count n (λ i l. h i (omega arith))))

  all_gather : (n : ℕ) → ((i : ℕ) → i < n → there i ≡ true) → ((i : ℕ) → i < n → length (bytes i) ≡ m)
      → length (gather there bytes n) ≡ n * m
  all_gather zero h g = omega arith
  all_gather (suc n) h g =
      let before = all_gather n (λ i l. h i (omega arith)) (λ i l. g i (omega arith)) in
      rw (h n (omega arith)) (length-append (gather there bytes n) (bytes n) ∙ omega (arith, before, g n (omega arith)))

  all_listed : (n : ℕ) → n < 128 → ((i : ℕ) → i < n → there i ≡ true) → ((i : ℕ) → i < n → length (bytes i) ≡ m)
      → length (listed there bytes n) ≡ 1 + n * m
  unfolding listed
  all_listed n l h g =
      length-append (number_bytes (count there n)) (gather there bytes n)
      ∙ omega (arith, ap (λ (k : ℕ). length (number_bytes k)) (all_count n h) ∙ ap length (one_byte n l), all_gather n h g)

-- ---- the table
full_state : State
full_state = Blocked (event 0 largest_phase)

is_live_lem : is_live full_state ≡ true
unfolding full_state
is_live_lem = refl

pub full_table : Table
full_table = record {
  tasks = replicate 32 (record { state = full_state });
  opened = replicate 16 true;
  phases = replicate 512 (record { 0 = largest_phase });
  members = replicate 512 true;
}

pub full_shaped : Shaped full_table
unfolding full_table
full_shaped = record {
  tasks = length-replicate {A = Task} 32 (record { state = full_state });
  opened = length-replicate 16 true;
  phases = length-replicate {A = Phase} 512 (record { 0 = largest_phase });
  members = length-replicate 512 true;
}

full_state_lem : (k : ℕ) → k < 32 → state_at full_table k ≡ full_state
unfolding full_table
full_state_lem k h = state_in full_table k h ∙ ap (λ (x : Task). x.state) (get_or-replicate {A = Task} 32 k (record { state = full_state }) free_task h)

full_open : (p : ℕ) → p < 16 → open_at full_table p ≡ true
unfolding full_table
full_open p h = open_in_lem full_table p h ∙ get_or-replicate 16 p true false h

full_member : (k p : ℕ) → k < 32 → p < 16 → member_at full_table k p ≡ true
unfolding full_table
full_member k p h g = member_in full_table k p h g ∙ get_or-replicate 512 (k * 16 + p) true false (omega arith)

full_phase : (k p : ℕ) → k < 32 → p < 16 → phase_at full_table k p ≡ largest_phase
unfolding full_table
full_phase k p h g =
    phase_in_lem full_table k p h g
    ∙ ap (λ (x : Phase). x.0) (get_or-replicate {A = Phase} 512 (k * 16 + p) (record { 0 = largest_phase }) phase0 (omega arith))

-- ---- it is sound
sound_test : sound_of full_table ≡ true
unfolding sound_of entries_sound states_sound full_state
sound_test = simp (every_all entries 512 entry, every_all states 32 state)
  where
    entries : ℕ → Bool
    entries i =
        entry_sound (member_at full_table (i / 16) (i % 16)) (state_at full_table (i / 16)) (open_at full_table (i % 16))
        (phase_at full_table (i / 16) (i % 16))

    entry : (i : ℕ) → i < 512 → entries i ≡ true
    entry i h =
        let k : i / 16 < 32 = omega arith in
        let p : i % 16 < 16 = omega arith in
        rw (full_member (i / 16) (i % 16) k p, full_state_lem (i / 16) k, full_open (i % 16) p, full_phase (i / 16) (i % 16) k p) refl

    states : ℕ → Bool
    states k = state_sound (open_at full_table) (state_at full_table k)

    state : (k : ℕ) → k < 32 → states k ≡ true
    state k h = rw (full_state_lem k h, full_open 0 (omega arith)) refl

pub full_sound : Sound full_table
full_sound = (sound_iff full_table).0 sound_test

-- ---- and has as many bytes as any
three : length (number_bytes largest_phase) ≡ 3
unfolding number_bytes
three = refl

one : (n : ℕ) → n < 128 → length (number_bytes n) ≡ 1
one n h = ap length (one_byte n h)

member_long : (k p : ℕ) → k < 32 → p < 16 → length (member_bytes full_table k p) ≡ 4
member_long k p h g =
    length-append (number_bytes p) (number_bytes (phase_at full_table k p))
    ∙ omega (arith, one p (omega arith), ap (λ (n : ℕ). length (number_bytes n)) (full_phase k p h g) ∙ three)

state_long : (k : ℕ) → k < 32 → length (state_bytes (state_at full_table k)) ≡ 5
unfolding full_state
state_long k h =
    ap (λ (x : State). length (state_bytes x)) (full_state_lem k h)
    ∙ (length-append (number_bytes 1) (number_bytes 0 ++ number_bytes largest_phase)
    ∙ omega (arith, length-append (number_bytes 0) (number_bytes largest_phase), one 0 (omega arith), one 1 (omega arith), three))

task_long : (k : ℕ) → k < 32 → length (task_bytes full_table k) ≡ 71
task_long k h =
    let members = listed (member_at full_table k) (member_bytes full_table k) 16 in
    length-append (number_bytes k) (state_bytes (state_at full_table k) ++ members)
    ∙ omega (
      arith,
      one k (omega arith),
      length-append (state_bytes (state_at full_table k)) members,
      state_long k h,
      all_listed (member_at full_table k) (member_bytes full_table k) 4 16 (omega arith) (λ p l. full_member k p h l) (λ p l. member_long k p h l),
    )

pub full_long : length (sheet_of full_table) ≡ longest_sheet
unfolding sheet_of
full_long =
    let phasers = listed (open_at full_table) number_bytes 16 in
    let tasks = listed (live_at full_table) (task_bytes full_table) 32 in
    length-append (number_bytes 1) (phasers ++ tasks)
    ∙ omega (
      arith,
      one 1 (omega arith),
      length-append phasers tasks,
      all_listed (open_at full_table) number_bytes 1 16 (omega arith) full_open (λ p l. one p (omega arith)),
      all_listed (live_at full_table) (task_bytes full_table) 71 32 (omega arith) live task_long,
    )
  where
    live : (k : ℕ) → k < 32 → live_at full_table k ≡ true
    live k h = ap is_live (full_state_lem k h) ∙ is_live_lem
