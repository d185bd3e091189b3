-- The test of soundness decides its meaning, and what is written keeps it.
use mathlib.Core.Path.{◌≡◌, refl, ap, ◌∙◌}
use mathlib.Core.Logic.{◌↔◌}
use mathlib.Core.Bool.{Bool, true, false, ◌&&◌, cond, and-false}
use Prim.Native.Nat.{ℕ, zero, suc, ◌+◌, ◌*◌, ◌/◌, ◌%◌, ◌≤◌}
use native.Mathlib.Omega.{arith}
use lib.Dec.{leb, ltb, eqb}
use lib.ListN.{get_or, replicate, length-replicate}
use borrow.Author.Tests.{eqb-true, eq-eqb, ltb-true, leb-true, le-leb}
use Rattle.states.specs.Parts.{entry_sound, state_sound}
use Rattle.states.specs.State.{largest_phase, is_live, free_task, phase0}
use Rattle.states.specs.Waiting.{Awaited, awaiting, waits_at}
use Rattle.states.specs.declared.state.Phase.{Phase}
use Rattle.states.specs.declared.state.State.{State}
use Rattle.states.specs.declared.state.State.TheVariants.{Free, Running, Blocked}
use Rattle.states.specs.declared.state.Task.{Task}
use Rattle.states.proofs.Truth.{and_left, and_right}
use Rattle.hall.specs.Rules.{put}
use Rattle.hall.specs.Sound.{Sound}
use Rattle.hall.specs.Parts.{entries_sound, states_sound, sound_of}
use Rattle.hall.specs.Table.{state_at, open_at, in_table, member_at, phase_at, Entry, absent, fresh_table, Shaped}
use Rattle.hall.specs.declared.table.Table.{Table}
use Rattle.hall.proofs.Every.{every_at, every_all}
use Rattle.hall.proofs.Written.{Says, said, Reads, reads_member, reads_phase, stated, entered, opening, cleared}

-- one entry of a sound table
abbrev pub sound_entry : Entry → State → Bool → Bool
sound_entry e state opened = entry_sound e.member state opened e.phase

-- soundness of what is said: each entry and each state
pub record Fine (x : Says) : Type 0 where
  pub entries : (k p : ℕ) → sound_entry (x.entry k p) (x.state k) (x.opened p) ≡ true
  pub awaits : (k : ℕ) → state_sound x.opened (x.state k) ≡ true

abbrev pub FineTable : Table → Type 0
FineTable t = Fine (said t)

-- ---- the test
module _ (t : Table) where
  -- out of range nobody is a member, phases are 0 and states free
  member_out : (k p : ℕ) → in_table k p ≡ false → member_at t k p ≡ false
  unfolding member_at
  member_out k p e = rw e

  phase_out : (k p : ℕ) → in_table k p ≡ false → phase_at t k p ≡ 0
  unfolding phase_at
  phase_out k p e = rw e

  state_out : (k : ℕ) → ltb k 32 ≡ false → state_at t k ≡ Free
  unfolding state_at
  state_out k e = rw e

  abbrev entry_at : ℕ → ℕ → Bool
  entry_at k p = entry_sound (member_at t k p) (state_at t k) (open_at t p) (phase_at t k p)

  pub sound_fine : sound_of t ≡ true → FineTable t
  unfolding sound_of entries_sound states_sound
  sound_fine s = record { entries = λ k p. inside k p (in_table k p) refl; awaits = λ k. below k (ltb k 32) refl }
    where
      inside : (k p : ℕ) (b : Bool) → in_table k p ≡ b → entry_at k p ≡ true
      inside k p true e =
          let h = ltb-true k 32 (and_left (ltb k 32) (ltb p 16) e) in
          let g = ltb-true p 16 (and_right (ltb k 32) (ltb p 16) e) in
          let q : (k * 16 + p) / 16 ≡ k = omega arith in
          let r : (k * 16 + p) % 16 ≡ p = omega arith in
          rw (q, r) at (every_at (λ i. entry_at (i / 16) (i % 16)) 512 (k * 16 + p) (and_left (entries_sound t) (states_sound t) s) (omega arith))
      inside k p false e = rw (member_out k p e, phase_out k p e)

      below : (k : ℕ) (b : Bool) → ltb k 32 ≡ b → state_sound (open_at t) (state_at t k) ≡ true
      below k true e =
          every_at (λ j. state_sound (open_at t) (state_at t j)) 32 k (and_right (entries_sound t) (states_sound t) s) (ltb-true k 32 e)
      below k false e = rw (state_out k e)

  pub fine_sound : FineTable t → sound_of t ≡ true
  unfolding sound_of entries_sound states_sound
  fine_sound f = simp (
    every_all (λ i. entry_at (i / 16) (i % 16)) 512 (λ i l. f.entries (i / 16) (i % 16)),
    every_all (λ k. state_sound (open_at t) (state_at t k)) 32 (λ k l. f.awaits k),
  )

  fine_meaning : FineTable t → Sound t
  fine_meaning f = record {
    live = λ k p m. (member k p m).0;
    open_member = λ k p m. (member k p m).1;
    open_awaited = λ k e b. (await k e b).0;
    kept = λ k p. kept k p (member_at t k p) refl;
    awaited = λ k e b. (await k e b).1;
    no_member = none;
  }
    where
      member : (k p : ℕ) → member_at t k p ≡ true → (is_live (state_at t k) ≡ true) × (open_at t p ≡ true) × (phase_at t k p ≤ largest_phase)
      member k p m =
          let live = is_live (state_at t k) in
          let fits = leb (phase_at t k p) largest_phase in
          let e : live && (open_at t p && fits) ≡ true = rw m at (f.entries k p) in
          let o = and_right live (open_at t p && fits) e in
          (and_left live (open_at t p && fits) e, and_left (open_at t p) fits o, leb-true (phase_at t k p) largest_phase (and_right (open_at t p) fits o))

      none : (k p : ℕ) → member_at t k p ≡ false → phase_at t k p ≡ 0
      none k p m = eqb-true (phase_at t k p) 0 (rw m at (f.entries k p))

      await : (k : ℕ) (e : Awaited) → state_at t k ≡ awaiting e → (open_at t e.phaser.0 ≡ true) × (e.phase.0 ≤ largest_phase)
      await k e b =
          let fits = leb e.phase.0 largest_phase in
          let o : open_at t e.phaser.0 && fits ≡ true = rw b at (f.awaits k) in
          (and_left (open_at t e.phaser.0) fits o, leb-true e.phase.0 largest_phase (and_right (open_at t e.phaser.0) fits o))

      kept : (k p : ℕ) (b : Bool) → member_at t k p ≡ b → phase_at t k p ≤ largest_phase
      kept k p true m = (member k p m).2
      kept k p false m = omega (arith, none k p m)

  meaning_fine : Sound t → FineTable t
  meaning_fine s = record { entries = λ k p. at k p (member_at t k p) refl; awaits = λ k. await k (state_at t k) refl }
    where
      at : (k p : ℕ) (b : Bool) → member_at t k p ≡ b → entry_sound b (state_at t k) (open_at t p) (phase_at t k p) ≡ true
      at k p true m = simp (s.live k p m, s.open_member k p m, le-leb (phase_at t k p) largest_phase (s.kept k p))
      at k p false m = eq-eqb (phase_at t k p) 0 (s.no_member k p m)

      await : (k : ℕ) (x : State) → state_at t k ≡ x → state_sound (open_at t) x ≡ true
      await k Free e = refl
      await k Running e = refl
      await k (Blocked v) e = simp (s.open_awaited k v e, le-leb v.phase.0 largest_phase (s.awaited k v e))

  -- the test decides the meaning, for any table whatever
  pub sound_iff : (sound_of t ≡ true) ↔ Sound t
  sound_iff = (λ s. fine_meaning (sound_fine s), λ s. fine_sound (meaning_fine s))

-- ---- the fresh table
pub fresh_shaped : Shaped fresh_table
unfolding fresh_table
fresh_shaped = record {
  tasks = length-replicate 32 free_task;
  opened = length-replicate 16 false;
  phases = length-replicate 512 phase0;
  members = length-replicate 512 false;
}

-- each element is the default
pub get_d_all : {A : Type 0} (n i : ℕ) (v : A) → get_or (replicate n v) i v ≡ v
get_d_all zero i v = refl
get_d_all (suc n) zero v = refl
get_d_all (suc n) (suc i) v = get_d_all n i v

pick : {A : Type 0} (b : Bool) (x y : A) → x ≡ y → cond b x y ≡ y
pick true x y e = e
pick false x y e = refl

-- "A fresh table has no task and no open phaser"
abbrev pub nothing : Says
nothing = record { state = λ k. Free; opened = λ p. false; entry = λ k p. absent }

pub fresh_reads : Reads fresh_table nothing
unfolding fresh_table state_at open_at member_at phase_at
fresh_reads = record {
  states = λ k. pick (ltb k 32) (get_or (replicate 32 free_task) k free_task).state Free (ap (λ (x : Task). x.state) (get_d_all 32 k free_task));
  opens = λ p. ap (λ (b : Bool). ltb p 16 && b) (get_d_all 16 p false) ∙ and-false (ltb p 16);
  entries = λ k p. rw (members k p, phases k p) refl;
}
  where
    members : (k p : ℕ) → (in_table k p && get_or (replicate 512 false) (k * 16 + p) false) ≡ false
    members k p = ap (λ (b : Bool). in_table k p && b) (get_d_all 512 (k * 16 + p) false) ∙ and-false (in_table k p)

    phases : (k p : ℕ) → cond (in_table k p) (get_or (replicate 512 phase0) (k * 16 + p) phase0).0 0 ≡ 0
    phases k p =
        pick (in_table k p) (get_or (replicate 512 phase0) (k * 16 + p) phase0).0 0 (ap (λ (x : Phase). x.0) (get_d_all 512 (k * 16 + p) phase0))

-- ---- what is written
-- a table is sound where what it says is
pub reads_fine : {t : Table} {x : Says} → Reads t x → Fine x → FineTable t
reads_fine {t} {x} r f = record {
  entries = λ k p. rw (reads_member r k p, reads_phase r k p, r.states k, r.opens p) (f.entries k p);
  awaits = λ k. rw (r.states k) (await (x.state k) (f.awaits k));
}
  where
    await : (s : State) → state_sound x.opened s ≡ true → state_sound (open_at t) s ≡ true
    await Free e = refl
    await Running e = refl
    await (Blocked v) e = rw (r.opens v.phaser.0) e

pub fresh_sound : sound_of fresh_table ≡ true
fresh_sound = fine_sound fresh_table (reads_fine fresh_reads (record { entries = λ k p. refl; awaits = λ k. refl }))

module _ {x : Says} (f : Fine x) where
  -- a sound state, of a live task or of one with no membership
  pub stated_fine : (k : ℕ) (s : State) → ((p : ℕ) → (x.entry k p).member ≡ true → is_live s ≡ true) → state_sound x.opened s ≡ true
      → Fine (stated x k s)
  stated_fine k s l o = record { entries = λ j p. at j p (eqb j k) refl; awaits = λ j. await j (eqb j k) }
    where
      live : (e : Entry) (old : State) (b : Bool) (m : Bool) → e.member ≡ m → entry_sound m old b e.phase ≡ true
          → (m ≡ true → is_live s ≡ true) → entry_sound m s b e.phase ≡ true
      live e old b true q h n = simp (n refl, and_right (is_live old) _ h)
      live e old b false q h n = h

      at : (j p : ℕ) (b : Bool) → eqb j k ≡ b → sound_entry (x.entry j p) (cond b s (x.state j)) (x.opened p) ≡ true
      at j p true e =
          live (x.entry j p) (x.state j) (x.opened p) (x.entry j p).member refl (f.entries j p) (λ m. l p (rw (eqb-true j k e) at m))
      at j p false e = f.entries j p

      await : (j : ℕ) (b : Bool) → state_sound x.opened (cond b s (x.state j)) ≡ true
      await j true = o
      await j false = f.awaits j

  -- a sound entry
  pub entered_fine : (k p : ℕ) (e : Entry) → sound_entry e (x.state k) (x.opened p) ≡ true → Fine (entered x k p e)
  entered_fine k p e o = record { entries = λ j q. at j q (eqb j k && eqb q p) refl; awaits = f.awaits }
    where
      at : (j q : ℕ) (b : Bool) → eqb j k && eqb q p ≡ b → sound_entry (cond b e (x.entry j q)) (x.state j) (x.opened q) ≡ true
      at j q true h = rw (eqb-true j k (and_left (eqb j k) (eqb q p) h), eqb-true q p (and_right (eqb j k) (eqb q p) h)) o
      at j q false h = f.entries j q

  -- no entry of a task
  pub cleared_fine : (k : ℕ) → Fine (cleared x k)
  cleared_fine k = record { entries = λ j q. at j q (eqb j k); awaits = f.awaits }
    where
      at : (j q : ℕ) (b : Bool) → sound_entry (cond b absent (x.entry j q)) (x.state j) (x.opened q) ≡ true
      at j q true = refl
      at j q false = f.entries j q

  -- a phaser is opened; or it is closed, with no members and nobody that waits on it
  pub opening_fine : (p : ℕ) (o : Bool) → ((k : ℕ) → (x.entry k p).member ≡ true → o ≡ true)
      → ((k : ℕ) → waits_at (x.state k) p ≡ true → o ≡ true) → Fine (opening x p o)
  opening_fine p o m w = record {
    entries = λ k q. at k q (x.entry k q).member refl (f.entries k q);
    awaits = λ k. await k (x.state k) refl (f.awaits k);
  }
    where
      stays : (q : ℕ) (b : Bool) → eqb q p ≡ b → x.opened q ≡ true → (q ≡ p → o ≡ true) → cond b o (x.opened q) ≡ true
      stays q true e i h = h (eqb-true q p e)
      stays q false e i h = i

      at : (k q : ℕ) (b : Bool) → (x.entry k q).member ≡ b → entry_sound b (x.state k) (x.opened q) (x.entry k q).phase ≡ true
          → entry_sound b (x.state k) (put x.opened p o q) (x.entry k q).phase ≡ true
      at k q true e h =
          let fits = leb (x.entry k q).phase largest_phase in
          let i = and_right (is_live (x.state k)) (x.opened q && fits) h in
          let c = stays q (eqb q p) refl (and_left (x.opened q) fits i) (λ r. m k (rw r at e)) in
          simp (and_left (is_live (x.state k)) _ h, c, and_right (x.opened q) fits i)
      at k q false e h = h

      await : (k : ℕ) (s : State) → x.state k ≡ s → state_sound x.opened s ≡ true → state_sound (put x.opened p o) s ≡ true
      await k Free e h = refl
      await k Running e h = refl
      await k (Blocked v) e h =
          let q = v.phaser.0 in
          let fits = leb v.phase.0 largest_phase in
          let c = stays q (eqb q p) refl (and_left (x.opened q) fits h) (λ r. w k (ap (λ (s : State). waits_at s p) e ∙ eq-eqb q p r)) in
          simp (c, and_right (x.opened q) fits h)
