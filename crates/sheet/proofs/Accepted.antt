-- An accepted sheet's table is sound, and the sheet is the sheet of that table.
use Prim.Native.Nat.{ℕ, suc, ◌+◌, ◌≤◌, ◌<◌}
use mathlib.Core.Path.{◌≡◌, refl, sym, ap, ◌∙◌}
use mathlib.Core.List.{List, ◌++◌, append_assoc}
use mathlib.Core.Bool.{Bool, true, false}
use native.Mathlib.Omega.{arith}
use lib.Dec.{eqb, ltb}
use lib.ListN.{length, get_or, set, take, replicate, length-set, length-replicate}
use lib.Seq.{take_all, get_or-set_same, get_or-set_other}
use borrow.Author.Tests.{eqb-true, le-leb, ltb-false}
use Rattle.states.specs.State.{largest_phase, event, is_live}
use Rattle.hall.specs.Table.{open_at, member_at, joined, Shaped}
use Rattle.hall.specs.Effects.{with_state, with_entry}
use Rattle.hall.specs.Sound.{Sound}
use Rattle.states.specs.declared.state.Event.{Event}
use Rattle.states.specs.declared.state.State.{State}
use Rattle.hall.specs.declared.table.Table.{Table}
use Rattle.hall.proofs.Places.{open_in_lem, open_below}
use Rattle.hall.proofs.Written.{entry_at as entry_in, same_member, same_phase, reads_itself, reads_member, put_at_here, put_at_other, state_reads, entry_reads}
use Rattle.states.specs.Parts.{state_sound}
use Rattle.hall.proofs.Soundness.{get_d_all}
use Rattle.sheet.specs.declared.entry.Entry.{Entry}
use Rattle.sheet.specs.declared.head.Head.{Head}
use Rattle.fields.specs.Number.{number_bytes}
use Rattle.fields.specs.Got.{Rising, rising, each}
use Rattle.sheet.specs.Head.{open_step, opens_at, count_at, lists_at, head_at}
use Rattle.sheet.specs.Entry.{phase_on, event_at, blocked_at, state_on, entry_of, count_on, entry_on, entry_at}
use Rattle.sheet.specs.Reader.{member_step, members_at, task_step, tasks_at, entries_at, table_at}
use Rattle.sheet.specs.Written.{listed, state_bytes, member_bytes, task_bytes, live_at, sheet_of}
use Rattle.sheet.proofs.Same.{Ok, fine, none, same_onward, same_times, same_if}
use Rattle.sheet.proofs.Numbers.{Bytes, plain_ok, number_ok, rising_ok}
use Rattle.sheet.proofs.Gather.{Part, part_start, part_step, part_done, listed_same}
use Rattle.sheet.proofs.Tables.{absent, Grown, grown_start, grown_more, none_reads, none_sound, none_shaped}

module _ (s : List ℕ) (eight : Bytes s) where
  -- ---- a task's entry, where the phasers of t are open
  record PhaseRead (t : Table) (floor at p n next : ℕ) : Type 0 where
    pub least : floor ≤ p
    pub opens : open_at t p ≡ true
    pub most : n ≤ largest_phase
    pub bytes : take next s ≡ take at s ++ (number_bytes p ++ number_bytes n)

  event_ok : (t : Table) (floor at : ℕ) → Ok (λ (e : Event). PhaseRead t floor at e.phaser.0 e.phase.0) (event_at s t.opened floor at)
  unfolding event_at phase_on
  event_ok t floor at =
      same_onward (rising_ok s eight 15 floor at) (λ p second e.
      same_if _ (get_or t.opened p false)
      (λ o. same_onward (number_ok s eight largest_phase second) (λ n next f. fine {a = event p n} (record {
        least = e.least;
        opens = open_in_lem t p (omega (arith, e.most)) ∙ o;
        most = f.most;
        bytes = f.bytes ∙ rw (e.bytes, append_assoc);
      })))
      (λ o. none tt))

  record StateRead (t : Table) (at : ℕ) (x : State) (next : ℕ) : Type 0 where
    pub alive : is_live x ≡ true
    pub awaits : state_sound (open_at t) x ≡ true
    pub bytes : take next s ≡ take at s ++ state_bytes x

  state_ok : (t : Table) (at : ℕ) → Ok (StateRead t at) (state_on s t.opened at)
  unfolding state_on blocked_at
  state_ok t at =
      same_onward (plain_ok s eight at) (λ kind second f.
      same_if _ (eqb kind 0) (λ z. fine (record { alive = refl; awaits = refl; bytes = f.bytes ∙ rw (eqb-true kind 0 z) })) (λ z.
      same_if _ (eqb kind 1)
      (λ y. same_onward (event_ok t 0 second) (λ e next r. fine (record {
        alive = refl;
        awaits = simp (r.opens, le-leb e.phase.0 largest_phase r.most);
        bytes = r.bytes ∙ rw (f.bytes, eqb-true kind 1 y, append_assoc);
      })))
      (λ y. none tt)))

  record EntryRead (t : Table) (floor at : ℕ) (e : Entry) (next : ℕ) : Type 0 where
    pub low : e.number.0 < 32
    pub least : floor ≤ e.number.0
    pub alive : is_live e.state ≡ true
    pub awaits : state_sound (open_at t) e.state ≡ true
    pub bytes : take next s ≡ (take at s ++ (number_bytes e.number.0 ++ state_bytes e.state)) ++ number_bytes e.count

  entry_ok : (t : Table) (floor at : ℕ) → Ok (EntryRead t floor at) (entry_at s t.opened floor at)
  unfolding entry_at entry_on count_on
  entry_ok t floor at =
      same_onward (rising_ok s eight 31 floor at) (λ k second e.
      same_onward (state_ok t second) (λ x third f.
      same_onward (number_ok s eight 16 third) (λ n next g. fine {a = entry_of k x n} (record {
        low = omega (arith, e.most);
        least = e.least;
        alive = f.alive;
        awaits = f.awaits;
        bytes = g.bytes ∙ rw (f.bytes, e.bytes) (simp append_assoc);
      }))))

  -- ---- the memberships of task k, n in all, of which `left` are still to be read; t is the table before the task
  module _ (k : ℕ) (x : State) (t : Table) (low : k < 32) (alive : is_live x ≡ true) where
    record Joining (w : List ℕ) (n left : ℕ) (r : Rising Table) (at : ℕ) : Type 0 where
      pub grown : Grown k x t r.sofar
      pub part : Part s w n (member_at r.sofar k) (member_bytes r.sofar k) 16 left r.floor at

    member_ok : (w : List ℕ) (n left : ℕ) (r : Rising Table) (at : ℕ) → Joining w n (suc left) r at → Ok (Joining w n left) (member_step s t.opened k r at)
    unfolding member_step
    member_ok w n left r at j =
        same_onward (event_ok t r.floor at) (λ e next v.
        let p = e.phaser.0 in
        let m = e.phase.0 in
        let u = r.sofar in
        let l = open_below t p v.opens in
        let a = entry_reads j.grown.shaped (reads_itself u) k p (joined m) low l in
        let other : (i : ℕ) → ¬ (i ≡ p) → entry_in (with_entry u k p (joined m)) k i ≡ entry_in u k i =
        λ i d. a.entries k i ∙ put_at_other (entry_in u) k p (joined m) k i (λ x. d x.1) in
        let here = a.entries k p ∙ put_at_here (entry_in u) k p (joined m) in
        fine {a = rising (p + 1) (with_entry u k p (joined m))} (record {
          grown = grown_more k x t low u j.grown alive p m l v.opens v.most;
          part = part_step s w n _ _ _ _ 16 left r.floor at next p j.part v.least l
              (λ i d. same_member (other i d)) (same_member here)
              (λ i d hi. rw (same_phase (other i d))) (v.bytes ∙ rw (same_phase here));
        }))

    record MembersRead (w : List ℕ) (u : Table) (next : ℕ) : Type 0 where
      pub grown : Grown k x t u
      pub bytes : take next s ≡ w ++ listed (member_at u k) (member_bytes u k) 16

    members_ok : (w : List ℕ) (n at : ℕ) → Grown k x t (with_state t k x) → ((p : ℕ) → member_at (with_state t k x) k p ≡ false)
        → take at s ≡ w ++ number_bytes n
        → Ok (MembersRead w) (each (member_step s t.opened k) n (with_state t k x) at)
    unfolding each
    members_ok w n at g e b =
        same_onward
        (same_times (Joining (take at s) n) (member_step s t.opened k) (member_step s t.opened k) (member_ok (take at s) n)
        n (rising 0 (with_state t k x)) at (record { grown = g; part = part_start s n _ _ 16 at e }))
        (λ r next j. fine (record { grown = j.grown; bytes = part_done s w n _ _ 16 r.floor next (rw b at j.part) }))

  -- ---- the tasks, n in all, of which `left` are still to be read
  record Entering (opened : List Bool) (w : List ℕ) (n left : ℕ) (r : Rising Table) (at : ℕ) : Type 0 where
    pub sound : Sound r.sofar
    pub shaped : Shaped r.sofar
    pub opens : r.sofar.opened ≡ opened
    pub part : Part s w n (live_at r.sofar) (task_bytes r.sofar) 32 left r.floor at

  task_ok : (opened : List Bool) (w : List ℕ) (n left : ℕ) (r : Rising Table) (at : ℕ) → Entering opened w n (suc left) r at
      → Ok (Entering opened w n left) (task_step s opened r at)
  unfolding task_step members_at
  task_ok opened w n left r at j =
      let t = r.sofar in
      rw (← j.opens)
      (same_onward (entry_ok t r.floor at) (λ e first v.
      let k = e.number.0 in
      let x = e.state in
      let none : (p : ℕ) → member_at (with_state t k x) k p ≡ false =
      λ p. reads_member (state_reads j.shaped (reads_itself t) k x v.low) k p ∙ absent t j.sound k (j.part.none k v.least v.low) p in
      same_onward
      (members_ok k x t v.low v.alive (take at s ++ (number_bytes k ++ state_bytes x)) e.count first
      (grown_start k x t v.low j.sound j.shaped v.alive v.awaits) none v.bytes)
      (λ u next m. fine {a = rising (k + 1) u} (record {
        sound = m.grown.sound;
        shaped = m.grown.shaped;
        opens = m.grown.opens;
        part = part_step s w n _ _ _ _ 32 left r.floor at next k j.part v.least v.low
            (λ i d. ap is_live (m.grown.states i d))
            (ap is_live m.grown.state ∙ v.alive)
            (λ i d hi. m.grown.others i d)
            (m.bytes ∙ rw m.grown.state (simp append_assoc));
      }))))

  record TasksRead (opened : List Bool) (w : List ℕ) (t : Table) (at : ℕ) : Type 0 where
    pub sound : Sound t
    pub shaped : Shaped t
    pub opens : t.opened ≡ opened
    pub bytes : take at s ≡ w ++ listed (live_at t) (task_bytes t) 32

  tasks_ok : (h : Head) (w : List ℕ) (first : ℕ) → length h.opened ≡ 16 → take first s ≡ w ++ number_bytes h.count
      → Ok (TasksRead h.opened w) (tasks_at s h first)
  unfolding tasks_at each
  tasks_ok h w first l b =
      let o = h.opened in
      let n = h.count in
      same_onward
      (same_times (Entering o (take first s) n) (task_step s o) (task_step s o) (task_ok o (take first s) n) n _ first (record {
        sound = none_sound o;
        shaped = none_shaped o l;
        opens = refl;
        part = part_start s n _ _ 32 first (λ i. ap is_live ((none_reads o).states i));
      }))
      (λ r at j. fine (record {
        sound = j.sound;
        shaped = j.shaped;
        opens = j.opens;
        bytes = part_done s w n _ _ 32 r.floor at (rw b at j.part);
      }))

  -- ---- the head: open phasers, n in all, of which `left` are still to be read
  record Opening (w : List ℕ) (n left : ℕ) (r : Rising (List Bool)) (at : ℕ) : Type 0 where
    pub long : length r.sofar ≡ 16
    pub part : Part s w n (λ p. get_or r.sofar p false) number_bytes 16 left r.floor at

  open_ok : (w : List ℕ) (n left : ℕ) (r : Rising (List Bool)) (at : ℕ) → Opening w n (suc left) r at → Ok (Opening w n left) (open_step s r at)
  unfolding open_step
  open_ok w n left r at j =
      same_onward (rising_ok s eight 15 r.floor at) (λ p next e.
      let l : p < 16 = omega (arith, e.most) in
      fine {a = rising (p + 1) (set r.sofar p true)} (record {
        long = simp length-set j.long;
        part = part_step s w n _ _ _ _ 16 left r.floor at next p j.part e.least l
            (λ i d. get_or-set_other r.sofar p i true false d)
            (get_or-set_same r.sofar p true false (omega (arith, j.long)))
            (λ i d hi. refl)
            e.bytes;
      }))

  record OpensRead (at : ℕ) (o : List Bool) (next : ℕ) : Type 0 where
    pub long : length o ≡ 16
    pub bytes : take next s ≡ take at s ++ listed (λ p. get_or o p false) number_bytes 16

  opens_ok : (at : ℕ) → Ok (OpensRead at) (opens_at s at)
  unfolding opens_at each
  opens_ok at =
      same_onward (number_ok s eight 16 at) (λ n first e.
      same_onward
      (same_times (Opening (take first s) n) (open_step s) (open_step s) (open_ok (take first s) n) n (rising 0 (replicate 16 false)) first
      (record { long = length-replicate 16 false; part = part_start s n _ _ 16 first (λ i. get_d_all 16 i false) }))
      (λ r next j. fine (record { long = j.long; bytes = part_done s (take at s) n _ _ 16 r.floor next (rw e.bytes at j.part) })))

  record HeadRead (h : Head) (next : ℕ) : Type 0 where
    pub long : length h.opened ≡ 16
    pub bytes : take next s ≡ (number_bytes 1 ++ listed (λ p. get_or h.opened p false) number_bytes 16) ++ number_bytes h.count

  head_ok : Ok HeadRead (head_at s)
  unfolding head_at lists_at count_at
  head_ok =
      same_onward (plain_ok s eight 0) (λ version first e.
      same_if _ (eqb version 1)
      (λ z. same_onward (opens_ok first) (λ o second f.
      same_onward (number_ok s eight 32 second) (λ n next g. fine {a = record { version = version; opened = o; count = n }} (record {
        long = f.long;
        bytes = g.bytes ∙ rw (f.bytes, e.bytes, eqb-true version 1 z);
      }))))
      (λ z. none tt))

  -- ---- the whole
  pub record Accepted (t : Table) (at : ℕ) : Type 0 where
    pub sound : Sound t
    pub shaped : Shaped t
    pub sheet : s ≡ sheet_of t

  opens_listed : (t : Table) → listed (λ p. get_or t.opened p false) number_bytes 16 ≡ listed (open_at t) number_bytes 16
  opens_listed t = listed_same _ _ number_bytes number_bytes 16 (λ p l. sym (open_in_lem t p l)) (λ p l m. refl)

  pub accepted : Ok Accepted (table_at s)
  unfolding table_at entries_at sheet_of
  accepted =
      same_onward head_ok (λ h first e.
      same_onward (tasks_ok h (number_bytes 1 ++ listed (λ p. get_or h.opened p false) number_bytes 16) first e.long e.bytes) (λ t at j.
      same_if _ (ltb at (length s)) (λ y. none tt) (λ y. fine (record {
        sound = j.sound;
        shaped = j.shaped;
        sheet = sym (take_all at s (ltb-false _ _ y)) ∙ j.bytes ∙ rw (← j.opens, opens_listed t, append_assoc);
      }))))
