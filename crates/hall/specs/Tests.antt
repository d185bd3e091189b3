-- Document 01, 'The ten calls': "Tests come in the order listed."
use Rattle.std.specs.Prelude.{Bool, false, ◌&&◌, not, List, [], ◌∷◌, ◌++◌, ℕ, ltb}
use Rattle.answers.specs.Answers.{no_task, no_phaser, none_free, not_blocked, not_reached, in_use, not_sound}
use Rattle.states.specs.State.{is_free, is_live, is_blocked}
use Rattle.states.specs.Tests.{Test, ◌else◌, caller_tests}
use Rattle.states.specs.Waiting.{waits_at}
use Rattle.states.specs.declared.state.State.{State}
use Rattle.states.specs.declared.state.State.TheVariants.{Free, Running, Blocked}
use Rattle.states.specs.declared.tests.Seen.{Seen}
use Rattle.hall.specs.Every.{every, lowest_from}
use Rattle.hall.specs.Parts.{sound_of}
use Rattle.hall.specs.Table.{state_at, open_at, member_at, phase_at}
use Rattle.hall.specs.Waiting.{reached_of}
use Rattle.hall.specs.declared.table.Table.{Table}

-- the lowest number that is free, or 32; the lowest that is not open, or 16
unfoldable pub lowest_free : Table → ℕ
lowest_free t = lowest_from (λ k. is_free (state_at t k)) 0 32

unfoldable pub lowest_unopened : Table → ℕ
lowest_unopened t = lowest_from (λ p. not (open_at t p)) 0 16

-- "phaser has a member, or a task is blocked on it": nobody does either
unfoldable pub unused : Table → ℕ → Bool
unused t p = every (λ k. not (member_at t k p) && not (waits_at (state_at t k) p)) 32

-- a blocked task's event is reached by every member
abbrev pub released : Table → State → Bool
released t Free = false
released t Running = false
released t (Blocked e) = reached_of t e

-- what a row sees of a task and a phaser
abbrev pub seen_at : Table → ℕ → ℕ → Seen
seen_at t k p =
    record { sound = sound_of t; state = state_at t k; opened = open_at t p; member = member_at t k p; phase = record { 0 = phase_at t k p } }

-- ---- the rows that see more of the table; the others are of `states`
-- "44 comes next"
abbrev pub sound : Table → Test
sound t = sound_of t else not_sound

-- 0 open task: 16
unfoldable pub open_task_tests : Table → List Test
open_task_tests t = sound t ∷ ltb (lowest_free t) 32 else none_free ∷ []

-- 1 end task: running task
unfoldable pub end_task_tests : Table → ℕ → List Test
end_task_tests t a = caller_tests (sound_of t) (state_at t a)

-- 2 open phaser, by a task: running task, 16
unfoldable pub open_phaser_tests : Table → ℕ → List Test
open_phaser_tests t a = caller_tests (sound_of t) (state_at t a) ++ (ltb (lowest_unopened t) 16 else none_free ∷ [])

-- 3 close phaser: 11, 19
unfoldable pub close_phaser_tests : Table → ℕ → List Test
close_phaser_tests t p = sound t ∷ open_at t p else no_phaser ∷ unused t p else in_use ∷ []

-- 9 release a task: 10, 17, 18
unfoldable pub release_tests : Table → ℕ → List Test
release_tests t a =
    sound t ∷ is_live (state_at t a) else no_task ∷ is_blocked (state_at t a) else not_blocked ∷ released t (state_at t a) else not_reached ∷ []
