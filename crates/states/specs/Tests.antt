-- Document 01, 'The ten calls': "Tests come in the order listed." A test is a condition with the refusal that it gives where it fails. The rows here see of a
-- table what `Seen` has; the other rows are `hall`'s.
use Rattle.std.specs.Prelude.{Bool, not, cond, List, [], ◌∷◌, ◌++◌, ℕ, leb, ltb}
use Rattle.answers.specs.Answers.{no_task, no_phaser, caller_blocked, target_blocked, not_member, already_member, phase_too_large, not_sound}
use Rattle.states.specs.State.{largest_phase, is_live, is_running, is_blocked}
use Rattle.states.specs.declared.state.State.{State}
use Rattle.states.specs.declared.tests.Seen.{Seen}

pub record Test : Type 0 where
  pub holds : Bool
  pub refusal : ℕ

infixl 95 ◌else◌
abbrev pub ◌else◌ : Bool → ℕ → Test
holds else refusal = record { holds = holds; refusal = refusal }

-- the refusal of the first test that fails, or 0 where all hold
unfoldable pub refusal_of : List Test → ℕ
refusal_of [] = 0
refusal_of (x ∷ tests) = cond x.holds (refusal_of tests) x.refusal

-- how the rows with a caller begin: 44; then "running task": 10 if the number is over 31 or free, then 12 if blocked
unfoldable pub caller_tests : Bool → State → List Test
caller_tests sound caller = sound else not_sound ∷ is_live caller else no_task ∷ is_running caller else caller_blocked ∷ []

-- 5 leave, 7 wait at own phase: running task, 11, 13
unfoldable pub member_tests : Seen → List Test
member_tests s = caller_tests s.sound s.state ++ (s.opened else no_phaser ∷ s.member else not_member ∷ [])

-- 4 admit a target: running task (caller), 11, 13, target live else 10, target blocked 20, target already member 14
unfoldable pub admit_tests : Seen → State → Bool → List Test
admit_tests s target joined =
    member_tests s ++ (is_live target else no_task ∷ not (is_blocked target) else target_blocked ∷ not joined else already_member ∷ [])

-- 6 arrive: running task, 11, 13, 15
unfoldable pub arrive_tests : Seen → List Test
arrive_tests s = member_tests s ++ (ltb s.phase.0 largest_phase else phase_too_large ∷ [])

-- 8 wait at a stated phase: running task, 11, 15
unfoldable pub wait_at_tests : Seen → ℕ → List Test
wait_at_tests s n = caller_tests s.sound s.state ++ (s.opened else no_phaser ∷ leb n largest_phase else phase_too_large ∷ [])
