-- Document 01, 'The ten calls': what each call answers, for every table and for numbers of any size.
use Rattle.std.specs.Prelude.{true, false, cond, List, ℕ, ◌+◌, eqb}
use Rattle.answers.specs.Answers.{done, wait_passed, now_blocked, no_kind}
use Rattle.states.specs.State.{event}
use Rattle.states.specs.Tests.{Test, refusal_of, member_tests, admit_tests, arrive_tests, wait_at_tests}
use Rattle.states.specs.Waiting.{awaiting}
use Rattle.states.specs.declared.state.State.TheVariants.{Free, Running}
use Rattle.hall.specs.Effects.{with_state, with_entry, with_open, without_entries}
use Rattle.hall.specs.Table.{state_at, member_at, phase_at, joined, absent}
use Rattle.hall.specs.Tests.{lowest_free, lowest_unopened, seen_at, open_task_tests, end_task_tests, open_phaser_tests, close_phaser_tests, release_tests}
use Rattle.hall.specs.Waiting.{reached_of}
use Rattle.hall.specs.declared.calls.Call.{Call}
use Rattle.hall.specs.declared.calls.Called.{Called}
use Rattle.hall.specs.declared.table.Table.{Table}

abbrev pub called : ℕ → ℕ → Table → Called
called answer value table = record { answer = answer; value = value; table = table }

-- "From 10 up they are refusals: value 0, the table .. exactly as before"
abbrev pub refused : Table → ℕ → Called
refused t refusal = called refusal 0 t

-- a refusal where a test fails, else the effect
unfoldable pub ruled : Table → List Test → Called → Called
ruled t tests effect = cond (eqb (refusal_of tests) 0) effect (refused t (refusal_of tests))

-- 0: "lowest free number becomes running; value that number"
unfoldable pub open_task_of : Table → Called
open_task_of t = ruled t (open_task_tests t) (called done (lowest_free t) (with_state t (lowest_free t) Running))

-- 1: "leaves every phaser, number free"
unfoldable pub end_task_of : Table → ℕ → Called
end_task_of t a = ruled t (end_task_tests t a) (called done 0 (with_state (without_entries t a 16) a Free))

-- 2: "lowest unopened number, caller member at phase 0; value that number"
unfoldable pub open_phaser_of : Table → ℕ → Called
open_phaser_of t a =
    ruled t (open_phaser_tests t a)
    (called done (lowest_unopened t) (with_entry (with_open t (lowest_unopened t) true) a (lowest_unopened t) (joined 0)))

-- 3: "not open any more"
unfoldable pub close_phaser_of : Table → ℕ → Called
close_phaser_of t p = ruled t (close_phaser_tests t p) (called done 0 (with_open t p false))

-- 4: "target joins at the caller's phase; value that phase"
unfoldable pub admit_of : Table → ℕ → ℕ → ℕ → Called
admit_of t a p b =
    ruled t (admit_tests (seen_at t a p) (state_at t b) (member_at t b p))
    (called done (phase_at t a p) (with_entry t b p (joined (phase_at t a p))))

-- 5: "membership gone"
unfoldable pub leave_of : Table → ℕ → ℕ → Called
leave_of t a p = ruled t (member_tests (seen_at t a p)) (called done 0 (with_entry t a p absent))

-- 6: "caller's phase one higher; value the new phase"
unfoldable pub arrive_of : Table → ℕ → ℕ → Called
arrive_of t a p =
    ruled t (arrive_tests (seen_at t a p)) (called done (phase_at t a p + 1) (with_entry t a p (joined (phase_at t a p + 1))))

-- 8: "answer 1 and nothing changes if every member has at least that phase; else answer 2 and the caller is blocked on that event"
unfoldable pub waits : Table → ℕ → ℕ → ℕ → Called
waits t a p n =
    cond (reached_of t (event p n)) (called wait_passed 0 t) (called now_blocked 0 (with_state t a (awaiting (event p n))))

-- 7: "as 8 with the caller's phase"
unfoldable pub wait_of : Table → ℕ → ℕ → Called
wait_of t a p = ruled t (member_tests (seen_at t a p)) (waits t a p (phase_at t a p))

unfoldable pub wait_at_of : Table → ℕ → ℕ → ℕ → Called
wait_at_of t a p n = ruled t (wait_at_tests (seen_at t a p) n) (waits t a p n)

-- 9: "the task is running again"
unfoldable pub release_of : Table → ℕ → Called
release_of t a = ruled t (release_tests t a) (called done 0 (with_state t a Running))

-- "Kinds of call run from 0 to 9": so many there are
abbrev pub kind_count : ℕ
kind_count = 10

-- "any other kind is 42, tested before all else"; "Numbers that a kind doesn't use are not looked at". `other` is the target of an admit, or the stated
-- phase of a wait
unfoldable pub call_of : Table → Call → Called
call_of t c =
    cond (eqb c.kind 0) (open_task_of t)
    (cond (eqb c.kind 1) (end_task_of t c.task)
    (cond (eqb c.kind 2) (open_phaser_of t c.task)
    (cond (eqb c.kind 3) (close_phaser_of t c.phaser)
    (cond (eqb c.kind 4) (admit_of t c.task c.phaser c.other)
    (cond (eqb c.kind 5) (leave_of t c.task c.phaser)
    (cond (eqb c.kind 6) (arrive_of t c.task c.phaser)
    (cond (eqb c.kind 7) (wait_of t c.task c.phaser)
    (cond (eqb c.kind 8) (wait_at_of t c.task c.phaser c.other)
    (cond (eqb c.kind 9) (release_of t c.task)
    (refused t no_kind))))))))))

-- a call from its numbers
abbrev pub call : ℕ → ℕ → ℕ → ℕ → Call
call kind task phaser other = record { kind = kind; task = task; phaser = phaser; other = other }
