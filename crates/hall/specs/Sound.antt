-- Document 01, 'The table': "A table is sound when every member is a live task (running or blocked) of an open phaser, every awaited phaser is open,
-- no phase, kept or awaited, is over 65,535, and a non-member's kept phase is 0."
use Rattle.std.specs.Prelude.{◌≡◌, true, false, ℕ, ◌≤◌}
use Rattle.states.specs.State.{largest_phase, is_live}
use Rattle.states.specs.Waiting.{Awaited, awaiting}
use Rattle.hall.specs.Table.{state_at, open_at, member_at, phase_at}
use Rattle.hall.specs.declared.table.Table.{Table}

-- (`sound_of`, which the calls' 44 goes by, decides it: proofs/Soundness.antt, `sound_iff`)
pub record Sound (t : Table) : Type 0 where
  pub live : (k p : ℕ) → member_at t k p ≡ true → is_live (state_at t k) ≡ true
  pub open_member : (k p : ℕ) → member_at t k p ≡ true → open_at t p ≡ true
  pub open_awaited : (k : ℕ) (e : Awaited) → state_at t k ≡ awaiting e → open_at t e.phaser.0 ≡ true
  pub kept : (k p : ℕ) → phase_at t k p ≤ largest_phase
  pub awaited : (k : ℕ) (e : Awaited) → state_at t k ≡ awaiting e → e.phase.0 ≤ largest_phase
  pub no_member : (k p : ℕ) → member_at t k p ≡ false → phase_at t k p ≡ 0
