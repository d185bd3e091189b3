-- Document 00, demand 2: "Calls move the table by that paper's rules, within the limits, additions and one narrowing that document 01 states." Of a call
-- c on a table t and what was handed back, r: each field has a kind's rule of figure 3 (`hall`'s Rules), beside it what document 01 adds, and no more.
use Rattle.std.specs.Prelude.{◌≡◌, ◌↔◌, true, false, ℕ, ◌+◌, ◌<◌, ◌≤◌}
use Rattle.std.proofs.Math.Option.{none}
use Rattle.hall.specs.Additions.{Runs, LowestFree, LowestUnopened, Unused, without, Behind, BehindOwn}
use Rattle.answers.specs.Answers.{done, wait_passed, now_blocked}
use Rattle.hall.specs.Rules.{put, PhaserMap, NewP, Reg, Dereg, Arrv, AwaitN, AwaitOwn, phasers_of}
use Rattle.hall.specs.Sound.{Sound}
use Rattle.states.specs.State.{largest_phase, event}
use Rattle.hall.specs.Table.{state_at, open_at, member_at, phase_at}
use Rattle.hall.specs.Waiting.{BlockedOn}
use Rattle.hall.specs.declared.calls.Called.{Called}
use Rattle.states.specs.Waiting.{Awaited, awaiting}
use Rattle.states.specs.declared.state.State.{State}
use Rattle.states.specs.declared.state.State.TheVariants.{Free, Running}
use Rattle.hall.specs.declared.table.Table.{Table}
use Rattle.hall.specs.declared.calls.Call.{Call}

-- a call that is done, with a value and a next phaser map, exactly where the rule says so; and every task's next state
pub record Rule (r : Called) (Where : ℕ → PhaserMap → Type 0) (state : ℕ → State) : Type 0 where
  pub moves : (v : ℕ) (M' : PhaserMap) → ((r.answer ≡ done) × (r.value ≡ v) × (phasers_of r.table ≡ M')) ↔ Where v M'
  pub states : r.answer ≡ done → (k : ℕ) → state_at r.table k ≡ state k

-- a wait of task a on event (p, n): "answer 1 and nothing changes if ..; else answer 2 and the caller is blocked on that event"
pub record Waits (t : Table) (a p n : ℕ) (r : Called) (Passes Blocks : Type 0) : Type 0 where
  pub passes : (r.answer ≡ wait_passed) ↔ Passes
  pub unchanged : r.answer ≡ wait_passed → (r.value ≡ 0) × (r.table ≡ t)
  pub blocks : (r.answer ≡ now_blocked) ↔ Blocks
  pub phasers : r.answer ≡ now_blocked → (r.value ≡ 0) × (phasers_of r.table ≡ phasers_of t)
  pub states : r.answer ≡ now_blocked → (k : ℕ) → state_at r.table k ≡ put (state_at t) a (awaiting (event p n)) k

pub record ByRules (t : Table) (c : Call) (r : Called) : Type 0 where
  -- 0 is added: "lowest free number becomes running; value that number"
  pub open_task : c.kind ≡ 0 → Rule r (λ v M'. Sound t × LowestFree t v × (M' ≡ phasers_of t)) (put (state_at t) r.value Running)
  -- 1 is added: "leaves every phaser, number free"
  pub end_task : c.kind ≡ 1
      → Rule r (λ v M'. Runs t c.task × (v ≡ 0) × (M' ≡ without c.task (phasers_of t))) (put (state_at t) c.task Free)
  -- 2, open phaser, is [new-p] at the lowest number; "value that number"
  pub open_phaser : c.kind ≡ 2 → Rule r (λ v M'. Runs t c.task × NewP c.task v (phasers_of t) M' × LowestUnopened t v) (state_at t)
  -- 3 is added: "not open any more"
  pub close_phaser : c.kind ≡ 3
      → Rule r (λ v M'. Sound t × Unused t c.phaser × (v ≡ 0) × (M' ≡ put (phasers_of t) c.phaser none)) (state_at t)
  -- 4, admit, is [reg]; "value that phase"; "The narrowing: 20, since the source lets any non-member be admitted and we want a running one"
  pub admit : c.kind ≡ 4
      → Rule r (λ v M'. Runs t c.task × Reg c.task c.other c.phaser (phasers_of t) M' × (state_at t c.other ≡ Running)
      × (v ≡ phase_at t c.task c.phaser)) (state_at t)
  -- 5, leave, is [dereg]
  pub leave : c.kind ≡ 5 → Rule r (λ v M'. Runs t c.task × Dereg c.task c.phaser (phasers_of t) M' × (v ≡ 0)) (state_at t)
  -- 6, arrive, is [arrv], up to phase 65,535; "value the new phase"
  pub arrive : c.kind ≡ 6
      → Rule r (λ v M'. Runs t c.task × Arrv c.task c.phaser (phasers_of t) M' × (phase_at t c.task c.phaser < largest_phase)
      × (v ≡ phase_at t c.task c.phaser + 1)) (state_at t)
  -- 7: a wait at one's own phase passes where [await] can step, and blocks where only await(P, n) fails
  pub wait : c.kind ≡ 7
      → Waits t c.task c.phaser (phase_at t c.task c.phaser) r (Runs t c.task × AwaitOwn c.task c.phaser (phasers_of t))
      (Runs t c.task × BehindOwn (phasers_of t) c.task c.phaser)
  -- 8: so does one at a stated phase, by [await-n], up to phase 65,535
  pub wait_at : c.kind ≡ 8
      → Waits t c.task c.phaser c.other r (Runs t c.task × AwaitN c.phaser c.other (phasers_of t) × (c.other ≤ largest_phase))
      (Runs t c.task × Behind (phasers_of t) c.phaser c.other × (c.other ≤ largest_phase))
  -- "A wait on a phaser with no members passes."
  pub no_members : c.kind ≡ 8 → Runs t c.task → open_at t c.phaser ≡ true → ((k : ℕ) → member_at t k c.phaser ≡ false)
      → c.other ≤ largest_phase → r.answer ≡ wait_passed
  -- 9: release, "a call of its own", is [await-n] for a task that is blocked there
  pub release : c.kind ≡ 9
      → Rule r (λ v M'. Sound t × ((e : Awaited) × BlockedOn t c.task e × AwaitN e.phaser.0 e.phase.0 (phasers_of t)) × (v ≡ 0)
      × (M' ≡ phasers_of t)) (put (state_at t) c.task Running)
