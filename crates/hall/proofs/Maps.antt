-- What a table stands for in figure 3's maps, and how writes move it.
use mathlib.Core.Path.{◌≡◌, refl, ap, ◌∙◌, fun_ext}
use mathlib.Core.Logic.{◌↔◌}
use mathlib.Core.Bool.{Bool, true, false, cond, and-true, and-false}
use mathlib.Core.Option.{Option, some, none, some-injective, none-ne-some, some-ne-none}
use Prim.Native.Nat.{ℕ, ◌<◌, ◌≤◌}
use native.Mathlib.Omega.{arith}
use lib.Dec.{leb, eqb}
use borrow.Author.Tests.{eqb-true, eqb-false, eq-eqb, leb-true, leb-false}
use Rattle.states.specs.State.{event}
use Rattle.states.specs.declared.state.State.{State}
use Rattle.hall.specs.Additions.{leaving, without}
use Rattle.hall.specs.Rules.{put, Phaser, PhaserMap, Await, phaser_of, phasers_of}
use Rattle.hall.specs.Table.{open_at, member_at, phase_at, Entry, absent}
use Rattle.hall.specs.Waiting.{reached_of}
use Rattle.hall.specs.declared.table.Table.{Table}
use Rattle.hall.proofs.Impeded.{impedes_iff, reached_iff}
use Rattle.hall.proofs.Written.{Says, said, entry_at, Reads, entered, opening, put_at, put_row, put_here, put_other}

-- ---- reading a table's maps
module _ (t : Table) (p : ℕ) where
  pub phaser_there : open_at t p ≡ true → phasers_of t p ≡ some (phaser_of t p)
  unfolding phasers_of
  phaser_there e = rw e

  pub phaser_opens : (P : Phaser) → phasers_of t p ≡ some P → (open_at t p ≡ true) × (phaser_of t p ≡ P)
  unfolding phasers_of
  phaser_opens P = go (open_at t p) refl
    where
      go : (b : Bool) → open_at t p ≡ b → cond {A = Option Phaser} b (some (phaser_of t p)) none ≡ some P → (open_at t p ≡ true) × (phaser_of t p ≡ P)
      go true e q = (e, some-injective (phaser_of t p) P q)
      go false e q = absurd (none-ne-some P q)

  pub phaser_absent : (phasers_of t p ≡ none) ↔ (open_at t p ≡ false)
  unfolding phasers_of
  phaser_absent = (go (open_at t p), λ e. rw e)
    where
      go : (b : Bool) → cond {A = Option Phaser} b (some (phaser_of t p)) none ≡ none → b ≡ false
      go true q = absurd (some-ne-none (phaser_of t p) q)
      go false q = refl

  module _ (u : ℕ) where
    pub member_there : member_at t u p ≡ true → phaser_of t p u ≡ some (phase_at t u p)
    unfolding phaser_of
    member_there e = rw e

    pub member_is : (n : ℕ) → phaser_of t p u ≡ some n → (member_at t u p ≡ true) × (phase_at t u p ≡ n)
    unfolding phaser_of
    member_is n = go (member_at t u p) refl
      where
        go : (b : Bool) → member_at t u p ≡ b → cond {A = Option ℕ} b (some (phase_at t u p)) none ≡ some n → (member_at t u p ≡ true) × (phase_at t u p ≡ n)
        go true e q = (e, some-injective (phase_at t u p) n q)
        go false e q = absurd (none-ne-some n q)

    pub member_absent : (phaser_of t p u ≡ none) ↔ (member_at t u p ≡ false)
    unfolding phaser_of
    member_absent = (go (member_at t u p), λ e. rw e)
      where
        go : (b : Bool) → cond {A = Option ℕ} b (some (phase_at t u p)) none ≡ none → b ≡ false
        go true q = absurd (some-ne-none (phase_at t u p) q)
        go false q = refl

-- ---- the maps of what is said
-- the phase of an entry, if it is a member's
abbrev pub phase_in : Entry → Option ℕ
phase_in e = cond e.member (some e.phase) none

abbrev phaser_read : (ℕ → ℕ → Entry) → ℕ → Phaser
phaser_read entry p u = phase_in (entry u p)

abbrev phasers_read : (ℕ → Bool) → (ℕ → ℕ → Entry) → PhaserMap
phasers_read opened entry p = cond (opened p) (some (phaser_read entry p)) none

reads_phasers : (t : Table) {x : Says} → Reads t x → phasers_of t ≡ phasers_read x.opened x.entry
unfolding phasers_of phaser_of
reads_phasers t {x} r =
    fun_ext
    (λ p.
    rw (r.opens p)
    (ap (λ (P : Phaser). cond {A = Option Phaser} (x.opened p) (some P) none) (fun_ext (λ u. ap phase_in (r.entries u p)))))

-- entry (k, p) is written, and p is open
module _ (opened next : ℕ → Bool) (entry : ℕ → ℕ → Entry) (k p : ℕ) (e : Entry) where
  abbrev written : PhaserMap
  written = phasers_read next (put_at entry k p e)

  phasers_entry : (P : Phaser) → phaser_read entry p ≡ P → next p ≡ true → ((q : ℕ) → (q ≡ p → ⊥) → next q ≡ opened q)
      → written ≡ put (phasers_read opened entry) p (some (put P k (phase_in e)))
  phasers_entry P i o s = fun_ext (λ q. go q (eqb q p) refl)
    where
      there : (u : ℕ) → phaser_read (put_at entry k p e) p u ≡ put P k (phase_in e) u
      there u = rw (eq-eqb p p refl, and-true (eqb u k)) (at (eqb u k))
        where
          at : (b : Bool) → phase_in (cond b e (entry u p)) ≡ cond b (phase_in e) (P u)
          at true = refl
          at false = ap (λ (Q : Phaser). Q u) i

      away : (q : ℕ) → eqb q p ≡ false → (u : ℕ) → phaser_read (put_at entry k p e) q u ≡ phaser_read entry q u
      away q x u = rw (x, and-false (eqb u k))

      go : (q : ℕ) (b : Bool) → eqb q p ≡ b → written q ≡ cond b (some (put P k (phase_in e))) (phasers_read opened entry q)
      go q true x =
          ap written (eqb-true q p x)
          ∙ (ap (λ (b : Bool). cond {A = Option Phaser} b (some (phaser_read (put_at entry k p e) p)) none) o
          ∙ ap {B = Option Phaser} some (fun_ext there))
      go q false x =
          ap (λ (b : Bool). cond {A = Option Phaser} b (some (phaser_read (put_at entry k p e) q)) none) (s q (eqb-false q p x))
          ∙ ap (λ (Q : Phaser). cond {A = Option Phaser} (opened q) (some Q) none) (fun_ext (away q x))

-- ---- how writes move a table's map
module _ (t u : Table) where
  -- states only
  pub phasers_same : {state : ℕ → State} → Reads u (record { state = state; opened = open_at t; entry = entry_at t }) → phasers_of u ≡ phasers_of t
  unfolding phasers_of phaser_of
  phasers_same r = reads_phasers u r

  -- one entry of an open phaser
  pub phasers_moved : (k p : ℕ) (e : Entry) → open_at t p ≡ true → Reads u (entered (said t) k p e)
      → phasers_of u ≡ put (phasers_of t) p (some (put (phaser_of t p) k (phase_in e)))
  unfolding phasers_of phaser_of
  phasers_moved k p e o r = reads_phasers u r ∙ phasers_entry (open_at t) (open_at t) (entry_at t) k p e (phaser_of t p) refl o (λ q x. refl)

  -- a phaser with no members is opened, with one
  pub phasers_opened : (k p : ℕ) (e : Entry) → ((j : ℕ) → member_at t j p ≡ false) → Reads u (entered (opening (said t) p true) k p e)
      → phasers_of u ≡ put (phasers_of t) p (some (put (λ j. none) k (phase_in e)))
  unfolding phasers_of phaser_of
  phasers_opened k p e none-there r =
      reads_phasers u r
      ∙ phasers_entry (open_at t) (put (open_at t) p true) (entry_at t) k p e (λ j. none) (fun_ext (λ j. rw (none-there j))) (put_here (open_at t) p true)
      (put_other (open_at t) p true)

  -- all the entries of a task are cleared
  pub phasers_left : {state : ℕ → State} (k : ℕ) → Reads u (record { state = state; opened = open_at t; entry = put_row (entry_at t) k absent })
      → phasers_of u ≡ without k (phasers_of t)
  unfolding phasers_of phaser_of
  phasers_left k r = reads_phasers u r ∙ fun_ext (λ p. go p (open_at t p))
    where
      at : (p j : ℕ) (b : Bool) → phase_in (cond b absent (entry_at t j p)) ≡ cond b none (phaser_of t p j)
      at p j true = refl
      at p j false = refl

      go : (p : ℕ) (b : Bool) → cond {A = Option Phaser} b (some (phaser_read (put_row (entry_at t) k absent) p)) none
          ≡ leaving k (cond b (some (phaser_of t p)) none)
      go p true = ap {B = Option Phaser} some (fun_ext (λ j. at p j (eqb j k)))
      go p false = refl

  -- a phaser is closed
  pub phasers_closed : (p : ℕ) → Reads u (opening (said t) p false) → phasers_of u ≡ put (phasers_of t) p none
  unfolding phasers_of phaser_of
  phasers_closed p r = reads_phasers u r ∙ fun_ext (λ q. go q (eqb q p))
    where
      go : (q : ℕ) (b : Bool) → cond {A = Option Phaser} (cond b false (open_at t q)) (some (phaser_of t q)) none
          ≡ cond b none (cond (open_at t q) (some (phaser_of t q)) none)
      go q true = refl
      go q false = refl

-- ---- the test of a wait is await(P, n)
pub reached_await : (t : Table) (p n : ℕ) → (reached_of t (event p n) ≡ true) ↔ Await (phaser_of t p) n
reached_await t p n = (there, λ w. (reached_iff t (event p n)).1 (λ u i. back w u ((impedes_iff t u (event p n)).0 i)))
  where
    there : reached_of t (event p n) ≡ true → Await (phaser_of t p) n
    there r u m e = go (leb n m) refl
      where
        go : (b : Bool) → leb n m ≡ b → n ≤ m
        go true q = leb-true n m q
        go false q =
            let h = member_is t p u m e in
            let l = leb-false n m q in
            absurd ((reached_iff t (event p n)).0 r u ((impedes_iff t u (event p n)).1 (h.0, omega (arith, h.1))))

    back : Await (phaser_of t p) n → (u : ℕ) → (member_at t u p ≡ true) × (phase_at t u p < n) → ⊥
    back w u x = let l = w u (phase_at t u p) (member_there t p u x.0) in omega (arith, x.1)
