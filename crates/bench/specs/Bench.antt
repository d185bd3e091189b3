-- Document 01, 'Bench cases': "P1 to P12 form one table, proved by one statement over it." After them the states of source document 000's own examples.
use Rattle.std.specs.Prelude.{◌≡◌, true, List, [], ◌∷◌, ◌++◌, ℕ, ◌+◌, ◌-◌, ◌^◌, ◌≤◌, length, replicate}
use Rattle.answers.specs.Answers.{done, none_free, phase_too_large, needless_group, too_large}
use Rattle.hall.specs.Effects.{with_state, with_entry, with_open}
use Rattle.states.specs.State.{largest_phase, event}
use Rattle.hall.specs.Table.{joined, fresh_table}
use Rattle.states.specs.Waiting.{awaiting}
use Rattle.states.specs.declared.state.State.TheVariants.{Running}
use Rattle.hall.specs.declared.table.Table.{Table}
use Rattle.density.specs.Density.{DensityOf}
use Rattle.density.specs.declared.density.Density.{Density}
use Rattle.judge.specs.Routes.{largest_route}
use Rattle.judge.specs.Verdict.{Judged}
use Rattle.judge.specs.declared.verdict.Verdict.{Verdict}
use Rattle.fields.specs.Got.{Got, value, refused}
use Rattle.fields.specs.Number.{number_at}
use Rattle.hall.specs.declared.calls.Call.{Call}
use Rattle.hall.specs.Calls.{call, call_of}
use Rattle.demands.specs.Series.{Series, after}

-- ---- what a row states
pub data Row : Type 0 where
  -- of a table: whom each route names, and the ring
  judged : Table → List ℕ → List ℕ → Row
  -- of a table: its blocked tasks, its awaited events, the edges of its task graph, event graph and task-event graph (document 02, M-101)
  dense : Table → ℕ → ℕ → ℕ → ℕ → ℕ → Row
  -- after a series of calls from a table: a call, its answer and its value
  called : Table → List Call → Call → ℕ → ℕ → Row
  -- of bytes: the number there, up to its field's largest value, and the next place
  read : List ℕ → ℕ → Got ℕ → Row

abbrev pub set_of : List ℕ → ℕ
set_of [] = 0
set_of (k ∷ tasks) = 2 ^ k + set_of tasks

unfoldable pub stated_of : List ℕ → List ℕ → Verdict
stated_of named ring = record {
  answer = done;
  named = set_of named;
  count = length named;
  length = length ring;
  ring = ring ++ replicate (32 - length ring) 255;
}

abbrev pub counts_of : ℕ → ℕ → ℕ → ℕ → ℕ → Density
counts_of blocked events task_edges event_edges task_event_edges = record {
  blocked = blocked;
  events = events;
  task_edges = task_edges;
  event_edges = event_edges;
  task_event_edges = task_event_edges;
}

abbrev pub Holds : Row → Type 0
Holds (judged t named ring) = (route : ℕ) (v : Verdict) → route ≤ largest_route → Judged t route v → v ≡ stated_of named ring
Holds (dense t b e k v x) = (d : Density) → DensityOf t d → d ≡ counts_of b e k v x
Holds (called t before c answer val) = Series t before × ((call_of (after t before) c).answer ≡ answer) × ((call_of (after t before) c).value ≡ val)
Holds (read bytes largest got) = number_at bytes largest 0 ≡ got

abbrev pub Each : (Row → Type 0) → List Row → Type 0
Each P [] = Unit {0}
Each P (r ∷ rows) = P r × Each P rows

-- ---- the bench's words
-- "task k waits (p, n)"; "task k runs"
abbrev pub waits : Table → ℕ → ℕ → ℕ → Table
waits t k p n = with_state t k (awaiting (event p n))

abbrev pub runs : Table → ℕ → Table
runs t k = with_state t k Running

-- "0: 1@0" reads: on phaser 0, task 1 has phase 0
abbrev pub on : Table → ℕ → ℕ → ℕ → Table
on t p k n = with_entry (with_open t p true) k p (joined n)

abbrev pub open_task : Call
open_task = call 0 0 0 0

-- task 0 runs, and has phase n on phaser 0
abbrev pub at_phase : ℕ → Table
at_phase n = on (runs fresh_table 0) 0 0 n

-- "P2 Task 0 waits (0,1); 0: 0@0."
unfoldable pub p2 : Table
p2 = on (waits fresh_table 0 0 1) 0 0 0

-- "P3 Task 0 waits (0,1); 0: 0@1, 1@0; task 1 runs."
unfoldable pub p3 : Table
p3 = on (on (runs (waits fresh_table 0 0 1) 1) 0 0 1) 0 1 0

-- "P4 Task 0 waits (0,1), task 1 waits (1,1); 0: 0@1, 1@0; 1: 0@0, 1@1."
unfoldable pub p4 : Table
p4 = on (on (on (on (waits (waits fresh_table 0 0 1) 1 1 1) 0 0 1) 0 1 0) 1 0 0) 1 1 1

-- "P5 P4 with task 0 at phase 1 on phaser 1."
unfoldable pub p5 : Table
p5 = on p4 1 0 1

-- "P6 P4 and task 2 waits (0,1); 0: 2@1."
unfoldable pub p6 : Table
p6 = on (waits p4 2 0 1) 0 2 1

-- "P7 Task 0 waits (0,2), task 1 waits (1,1), task 2 runs; 0: 0@2, 1@2, 2@0; 1: 0@0, 1@1, 2@0."
unfoldable pub p7 : Table
p7 = on (on (on (on (on (on (runs (waits (waits fresh_table 0 0 2) 1 1 1) 2) 0 0 2) 0 1 2) 0 2 0) 1 0 0) 1 1 1) 1 2 0

-- "P8 P7 with task 2 blocked on (2,1); 2: 2@0."
unfoldable pub p8 : Table
p8 = on (waits p7 2 2 1) 2 2 0

-- "P9 Task 0 waits (0,1), task 1 waits (1,1), task 2 runs; 0: 0@1, 1@0, 2@0; 1: 1@0."
unfoldable pub p9 : Table
p9 = on (on (on (on (runs (waits (waits fresh_table 0 0 1) 1 1 1) 2) 0 0 1) 0 1 0) 0 2 0) 1 1 0

-- ---- source document 000: its task t3 is task 3 here; its phasers a, p and p_c are phaser 0, b, q and p_f phaser 1
-- figure 2: t4 waits on a³ and t5 on b¹; t4 has reached a³ and b⁰, t5 a¹ and b¹
unfoldable pub figure2 : Table
figure2 = on (on (on (on (waits (waits fresh_table 4 0 3) 5 1 1) 0 4 3) 0 5 1) 1 4 0) 1 5 1

-- section 2.4, the deadlock-free code: t1 waits on a² and t2 on b¹, each a member of both; t3, a member of both at phase 0, runs
unfoldable pub section2_4 : Table
section2_4 = on (on (on (on (on (on (runs (waits (waits fresh_table 1 0 2) 2 1 1) 3) 0 1 2) 0 2 2) 0 3 0) 1 1 0) 1 2 1) 1 3 0

-- example 4.1: p: t1 at 2, t2 at 0, t3 at 1; q: t1 at 0, t2 at 1; t1 waits on p², t2 on q¹
abbrev pub phasers4_1 : Table → Table
phasers4_1 t = on (on (on (on (on (waits (waits t 1 0 2) 2 1 1) 0 1 2) 0 2 0) 0 3 1) 1 1 0) 1 2 1

-- with t3 at await(p), so on p¹; and "where t1 and t2 have blocked but t3 has not"
unfoldable pub example4_1 : Table
example4_1 = phasers4_1 (waits fresh_table 3 0 1)

unfoldable pub example4_1_before : Table
example4_1_before = phasers4_1 (runs fresh_table 3)

-- example 4.2: t1 has p⁰ and waits on p¹
unfoldable pub example4_2 : Table
example4_2 = on (waits fresh_table 1 0 1) 0 1 0

-- example 4.3: p_c: t1, t2, t3 at 1, t0 at 0; p_f: t1, t2, t3 at 0, t0 at 1; t0 waits on p_f¹, the others on p_c¹
unfoldable pub example4_3 : Table
example4_3 =
    on (on (on (on (on (on (on (on (waits (waits (waits (waits fresh_table 0 1 1) 1 0 1) 2 0 1) 3 0 1) 0 1 1) 0 2 1) 0 3 1) 0 0 0) 1 1 0) 1 2 0) 1 3 0) 1 0 1

-- ---- the table
unfoldable pub rows : List Row
rows =
    -- P1 Fresh table: nobody.
    judged fresh_table [] []
    ∷ dense fresh_table 0 0 0 0 0
    -- P2 Named 0, ring 0.
    ∷ judged p2 (0 ∷ []) (0 ∷ [])
    ∷ dense p2 1 1 1 1 2
    -- P3 Nobody.
    ∷ judged p3 [] []
    ∷ dense p3 1 1 0 0 1
    -- P4 Named 0 1, ring 0 1.
    ∷ judged p4 (0 ∷ 1 ∷ []) (0 ∷ 1 ∷ [])
    ∷ dense p4 2 2 2 2 4
    -- P5 Nobody: task 1's wait is met.
    ∷ judged p5 [] []
    ∷ dense p5 2 2 1 1 3
    -- P6 Named 0 1 2, ring 0 1.
    ∷ judged p6 (0 ∷ 1 ∷ 2 ∷ []) (0 ∷ 1 ∷ [])
    ∷ dense p6 3 2 3 2 5
    -- P7 Nobody.
    ∷ judged p7 [] []
    ∷ dense p7 2 2 1 1 3
    -- P8 Named 0 1 2, ring 2.
    ∷ judged p8 (0 ∷ 1 ∷ 2 ∷ []) (2 ∷ [])
    ∷ dense p8 3 3 4 4 7
    -- P9 Named 0 1, ring 1.
    ∷ judged p9 (0 ∷ 1 ∷ []) (1 ∷ [])
    ∷ dense p9 2 2 2 2 4
    -- P10 Arriving from 65,534 gives 65,535; from 65,535 it is 15. Waiting at 65,536 is 15.
    ∷ called (at_phase 65534) [] (call 6 0 0 0) done 65535
    ∷ called (at_phase 65535) [] (call 6 0 0 0) phase_too_large 0
    ∷ called (at_phase 0) [] (call 8 0 0 65536) phase_too_large 0
    -- P11 The 33rd open task is 16; after task 4 ends, the next is 4.
    ∷ called fresh_table (replicate 32 open_task) open_task none_free 0
    ∷ called fresh_table (replicate 32 open_task ++ (call 1 4 0 0 ∷ [])) open_task done 4
    -- P12 `AC 02` is 300; `FF FF 03` is 65,535; `80 00` is 31; `80 80 04` as a phase is 32.
    ∷ read (172 ∷ 2 ∷ []) largest_phase (value 300 2)
    ∷ read (255 ∷ 255 ∷ 3 ∷ []) largest_phase (value 65535 3)
    ∷ read (128 ∷ 0 ∷ []) largest_phase (refused needless_group)
    ∷ read (128 ∷ 128 ∷ 4 ∷ []) largest_phase (refused too_large)
    -- source document 000's examples: what it calls deadlocked is named, what it calls deadlock-free is not
    ∷ judged figure2 (4 ∷ 5 ∷ []) (4 ∷ 5 ∷ [])
    ∷ judged section2_4 [] []
    ∷ judged example4_1 (1 ∷ 2 ∷ 3 ∷ []) (1 ∷ 2 ∷ [])
    ∷ judged example4_1_before (1 ∷ 2 ∷ []) (1 ∷ 2 ∷ [])
    ∷ judged example4_2 (1 ∷ []) (1 ∷ [])
    ∷ judged example4_3 (0 ∷ 1 ∷ 2 ∷ 3 ∷ []) (0 ∷ 1 ∷ [])
    ∷ []
