-- Document 01, 'How tight the promises are': "For every input the promise of a public function yields one answer, one next table and one content for each
-- lent byte. That two answers allowed by it are equal is itself proved". Each public function of the library, by crates. `Learnt` is what a caller learns
-- of a call: the function's own `ensures`, as the checker has it, over the arguments, the result and what was lent, as it is after the call.
use Rattle.std.specs.Prelude.{◌≡◌, List, ℕ}
use Rattle.hall.specs.declared.table.Table.{Table}
use Rattle.answers.proofs.Refusal.number.Reads as answers_number
use Rattle.sets.proofs.has.Reads as sets_has
use Rattle.sets.proofs.only.Reads as sets_only
use Rattle.sets.proofs.common.Reads as sets_common
use Rattle.sets.proofs.either.Reads as sets_either
use Rattle.sets.proofs.less.Reads as sets_less
use Rattle.sets.proofs.take.Reads as sets_take
use Rattle.sets.proofs.kept.Reads as sets_kept
use Rattle.sets.proofs.marked.Reads as sets_marked
use Rattle.sets.proofs.size.Reads as sets_size
use Rattle.sets.proofs.lowest.Reads as sets_lowest
use Rattle.sets.proofs.rest.Reads as sets_rest
use Rattle.sets.proofs.each.Reads as sets_each
use Rattle.sets.proofs.RisingIterator.next.Reads as sets_next
use Rattle.deadlock.proofs.elimination.named.Reads as deadlock_named
use Rattle.deadlock.proofs.ring.ring.Reads as deadlock_ring
use Rattle.states.proofs.state.State.is_free.Reads as states_is_free
use Rattle.states.proofs.state.State.is_live.Reads as states_is_live
use Rattle.states.proofs.state.State.is_running.Reads as states_is_running
use Rattle.states.proofs.state.State.is_blocked.Reads as states_is_blocked
use Rattle.states.proofs.sound.entry_sound.Reads as states_entry_sound
use Rattle.states.proofs.sound.state_sound.Reads as states_state_sound
use Rattle.states.proofs.waiting.behind.Reads as states_behind
use Rattle.states.proofs.waiting.column.Reads as states_column
use Rattle.states.proofs.waiting.impedes.Reads as states_impedes
use Rattle.states.proofs.waiting.event_of.Reads as states_event_of
use Rattle.states.proofs.waiting.awaits.Reads as states_awaits
use Rattle.states.proofs.waiting.waits_at.Reads as states_waits_at
use Rattle.states.proofs.tests.caller_refusal.Reads as states_caller_refusal
use Rattle.states.proofs.tests.member_refusal.Reads as states_member_refusal
use Rattle.states.proofs.tests.admit_refusal.Reads as states_admit_refusal
use Rattle.states.proofs.tests.arrive_refusal.Reads as states_arrive_refusal
use Rattle.states.proofs.tests.wait_at_refusal.Reads as states_wait_at_refusal
use Rattle.seating.proofs.seats.seats_of.Reads as seating_seats_of
use Rattle.seating.proofs.waiting.blocked_of.Reads as seating_blocked_of
use Rattle.seating.proofs.waiting.edges_of.Reads as seating_edges_of
use Rattle.hall.proofs.table.Table.fresh.Reads as hall_fresh
use Rattle.hall.proofs.table.Table.shaped.Reads as hall_shaped
use Rattle.hall.proofs.table.Table.state_at.Reads as hall_state_at
use Rattle.hall.proofs.table.Table.open_at.Reads as hall_open_at
use Rattle.hall.proofs.table.Table.member_at.Reads as hall_member_at
use Rattle.hall.proofs.table.Table.phase_at.Reads as hall_phase_at
use Rattle.hall.proofs.table.Table.is_sound.Reads as hall_is_sound
use Rattle.hall.proofs.table.Table.reached.Reads as hall_reached
use Rattle.hall.proofs.table.Table.blocked.Reads as hall_blocked
use Rattle.hall.proofs.table.Table.seats.Reads as hall_seats
use Rattle.hall.proofs.table.Table.edges.Reads as hall_edges
use Rattle.hall.proofs.table.Table.open_task.Reads as hall_open_task
use Rattle.hall.proofs.table.Table.end_task.Reads as hall_end_task
use Rattle.hall.proofs.table.Table.open_phaser.Reads as hall_open_phaser
use Rattle.hall.proofs.table.Table.close_phaser.Reads as hall_close_phaser
use Rattle.hall.proofs.table.Table.admit.Reads as hall_admit
use Rattle.hall.proofs.table.Table.leave.Reads as hall_leave
use Rattle.hall.proofs.table.Table.arrive.Reads as hall_arrive
use Rattle.hall.proofs.table.Table.wait.Reads as hall_wait
use Rattle.hall.proofs.table.Table.wait_at.Reads as hall_wait_at
use Rattle.hall.proofs.table.Table.release.Reads as hall_release
use Rattle.hall.proofs.table.Table.call.Reads as hall_call
use Rattle.hall.proofs.kind.KindTryFromU64.try_from.Reads as hall_kind
use Rattle.density.proofs.density.density_of.Reads as density_density_of
use Rattle.density.proofs.events.awaited_twice.Reads as density_awaited_twice
use Rattle.judge.proofs.task_route.task_route.Reads as judge_task_route
use Rattle.judge.proofs.event_route.event_route.Reads as judge_event_route
use Rattle.judge.proofs.judge.judge.Reads as judge_judge
use Rattle.judge.proofs.of_sheet.verdict_of.Reads as judge_verdict_of
use Rattle.judge.proofs.verdict.Verdict.nobody.Reads as judge_nobody
use Rattle.judge.proofs.route.RouteTryFromU64.try_from.Reads as judge_route
use Rattle.text.proofs.verdict.text_of.Reads as text_text_of
use Rattle.text.proofs.densities.sheet_line.Reads as text_sheet_line
use Rattle.text.proofs.densities.total_line.Reads as text_total_line
use Rattle.text.proofs.densities.stopped_line.Reads as text_stopped_line
use Rattle.fields.proofs.number.plain.Reads as fields_plain
use Rattle.fields.proofs.number.read.Reads as fields_number
use Rattle.fields.proofs.number.rising.Reads as fields_rising
use Rattle.fields.proofs.place.ended.Reads as fields_ended
use Rattle.sheet.proofs.reader.read_with_blocked.Reads as sheet_read_with_blocked
use Rattle.sheet.proofs.reader.read.Reads as sheet_read
use Rattle.sheet_file.proofs.counted.count.Reads as sheet_file_count
use Rattle.sheet_file.proofs.piece.next_piece.Reads as sheet_file_next_piece
use Rattle.sheet_file.proofs.piece.wanted.Reads as sheet_file_wanted
use Rattle.sheet_file.proofs.totals.Totals.none.Reads as sheet_file_none
use Rattle.sheet_file.proofs.totals.Totals.with.Reads as sheet_file_with
use Rattle.sheet_file.proofs.totals.Totals.done.Reads as sheet_file_done
use Rattle.writer.proofs.next.SheetCalled.refused.Reads as writer_refused
use Rattle.writer.proofs.next.call_and_write.Reads as writer_call_and_write
use Rattle.writer.proofs.writer.write.Reads as writer_write
use Rattle.sheet_call.proofs.sheet_call.Reads as sheet_call_sheet_call
use Rattle.mollavisce.proofs.entry.verdict_of.Reads as mollavisce_verdict_of
use Rattle.mollavisce.proofs.entry.sheet_verdict.Reads as mollavisce_sheet_verdict

-- two results that both meet the promise, of the same arguments, are equal
abbrev pub One : {L : Type 0} {A R E : L → Type 0} → ((κ : L) → A κ → R κ → E κ → Type 0) → Type 0
One {L} {A} {R} {E} Learnt = (κ : L) (a : A κ) (r r' : R κ) (e e' : E κ) → Learnt κ a r e → Learnt κ a r' e' → r ≡ r'

-- and so is what was lent
abbrev pub OneLent : {L B : Type 0} {A R E : L → Type 0} → ((κ : L) → E κ → B) → ((κ : L) → A κ → R κ → E κ → Type 0) → Type 0
OneLent {L} {B} {A} {R} {E} lent Learnt =
    (κ : L) (a : A κ) (r r' : R κ) (e e' : E κ) → Learnt κ a r e → Learnt κ a r' e' → (r ≡ r') × (lent κ e ≡ lent κ e')

-- of each crate, in the order of its files. What `sets::those` and `sets::first` find hangs on the test that they are handed: of one that says one thing
-- of each task, `those_one` and `first_one` (sets/proofs/One.antt) say the same
pub record OneAnswer : Type 1 where
  pub answers : One answers_number.Learnt
  pub sets : One sets_has.Learnt × One sets_only.Learnt × One sets_common.Learnt × One sets_either.Learnt × One sets_less.Learnt
      × One sets_take.Learnt × One sets_kept.Learnt × One sets_marked.Learnt × One sets_size.Learnt × One sets_lowest.Learnt × One sets_rest.Learnt
      × One sets_each.Learnt × OneLent (λ κ e. e.0.now.left) sets_next.Learnt
  pub deadlock : One deadlock_named.Learnt × One deadlock_ring.Learnt
  pub states : One states_is_free.Learnt × One states_is_live.Learnt × One states_is_running.Learnt × One states_is_blocked.Learnt
      × One states_entry_sound.Learnt × One states_state_sound.Learnt × One states_behind.Learnt × One states_column.Learnt
      × One states_impedes.Learnt × One states_event_of.Learnt × One states_awaits.Learnt × One states_waits_at.Learnt
      × One states_caller_refusal.Learnt
      × One states_member_refusal.Learnt × One states_admit_refusal.Learnt × One states_arrive_refusal.Learnt × One states_wait_at_refusal.Learnt
  pub seating : One seating_seats_of.Learnt × One seating_blocked_of.Learnt × One seating_edges_of.Learnt
  pub hall : One hall_fresh.Learnt × One hall_shaped.Learnt × One hall_state_at.Learnt × One hall_open_at.Learnt × One hall_member_at.Learnt
      × One hall_phase_at.Learnt × One hall_is_sound.Learnt × One hall_reached.Learnt × One hall_blocked.Learnt × One hall_seats.Learnt
      × One hall_edges.Learnt
      × One hall_open_task.Learnt × One hall_end_task.Learnt × One hall_open_phaser.Learnt × One hall_close_phaser.Learnt × One hall_admit.Learnt
      × One hall_leave.Learnt × One hall_arrive.Learnt × One hall_wait.Learnt × One hall_wait_at.Learnt × One hall_release.Learnt
      × One hall_call.Learnt × One hall_kind.Learnt
  pub density : One density_density_of.Learnt × One density_awaited_twice.Learnt
  pub judge : One judge_task_route.Learnt × One judge_event_route.Learnt × One judge_judge.Learnt × One judge_verdict_of.Learnt × One judge_nobody.Learnt
      × One judge_route.Learnt
  pub text : One text_text_of.Learnt × One text_sheet_line.Learnt × One text_total_line.Learnt × One text_stopped_line.Learnt
  pub fields : One fields_plain.Learnt × One fields_number.Learnt × One fields_rising.Learnt × One fields_ended.Learnt
  pub sheet : OneLent {B = Table × ℕ} (λ κ e. (e.1.0.now, e.1.1.0.now)) sheet_read_with_blocked.Learnt × OneLent (λ κ e. e.1.0.now) sheet_read.Learnt
  pub sheet_file : One sheet_file_count.Learnt × One sheet_file_next_piece.Learnt × One sheet_file_wanted.Learnt × One sheet_file_none.Learnt
      × One sheet_file_with.Learnt × One sheet_file_done.Learnt
  pub writer : One writer_refused.Learnt × OneLent (λ κ e. e.1.1.0.now) writer_call_and_write.Learnt
      × OneLent (λ κ e. e.1.0.now) writer_write.Learnt
  -- `next`, `value` and `length`, its seventh parameter and the two after it
  pub sheet_call : OneLent {B = List ℕ × ℕ × ℕ}
      (λ κ e. let lent = e.1.1.1.1.1.1 in (lent.0.now, lent.1.0.now, lent.1.1.0.now)) sheet_call_sheet_call.Learnt
  pub mollavisce : One mollavisce_verdict_of.Learnt × OneLent (λ κ e. e.1.1.0.now) mollavisce_sheet_verdict.Learnt
