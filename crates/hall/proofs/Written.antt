-- All that a table says, as one record, and what it says after each write. A law about calls is told of what is said, never of lists.
use mathlib.Core.Path.{◌≡◌, refl, ap, sym, ◌∙◌}
use mathlib.Core.Logic.{◌⊎◌, inl, inr, ⊎_elim}
use mathlib.Core.Bool.{Bool, true, false, ◌&&◌, cond}
use mathlib.Core.List.{List}
use Prim.Native.Nat.{ℕ, ◌+◌, ◌*◌, ◌<◌, ◌≤◌}
use native.Mathlib.Omega.{arith}
use lib.Dec.{ltb, eqb}
use lib.ListN.{get_or, set, length, length-set}
use borrow.Author.Tests.{eqb-true, eqb-false, eq-eqb, ne_eqb, ltb-true, ltb-false, lt-ltb}
use Rattle.states.specs.State.{free_task, phase0}
use Rattle.states.specs.declared.state.Phase.{Phase}
use Rattle.states.specs.declared.state.State.{State}
use Rattle.states.specs.declared.state.State.TheVariants.{Free}
use Rattle.states.specs.declared.state.Task.{Task}
use Rattle.states.proofs.Truth.{clash, decide, and_left, and_right}
use Rattle.hall.specs.Effects.{with_state, with_entry, with_open, filled, without_entries}
use Rattle.hall.specs.Rules.{put}
use Rattle.hall.specs.Table.{state_at, open_at, in_table, member_at, phase_at, Entry, entry_of, absent, Shaped}
use Rattle.hall.specs.declared.table.Table.{Table}
use Rattle.hall.proofs.Lists.{read_set, length_filled, filled_in, filled_out}

-- each task's state, each phaser's being open, each entry
pub record Says : Type 0 where
  pub state : ℕ → State
  pub opened : ℕ → Bool
  pub entry : ℕ → ℕ → Entry

abbrev pub entry_at : Table → ℕ → ℕ → Entry
entry_at t k p = entry_of (member_at t k p) (phase_at t k p)

abbrev pub said : Table → Says
said t = record { state = state_at t; opened = open_at t; entry = entry_at t }

-- a table says x
pub record Reads (t : Table) (x : Says) : Type 0 where
  pub states : (k : ℕ) → state_at t k ≡ x.state k
  pub opens : (p : ℕ) → open_at t p ≡ x.opened p
  pub entries : (k p : ℕ) → entry_at t k p ≡ x.entry k p

pub reads_itself : (t : Table) → Reads t (said t)
reads_itself t = record { states = λ k. refl; opens = λ p. refl; entries = λ k p. refl }

-- of an entry, whether it is a member's, and its phase
pub same_member : {e f : Entry} → e ≡ f → e.member ≡ f.member
same_member q = ap (λ (x : Entry). x.member) q

pub same_phase : {e f : Entry} → e ≡ f → e.phase ≡ f.phase
same_phase q = ap (λ (x : Entry). x.phase) q

pub reads_member : {t : Table} {x : Says} → Reads t x → (k p : ℕ) → member_at t k p ≡ (x.entry k p).member
reads_member r k p = same_member (r.entries k p)

pub reads_phase : {t : Table} {x : Says} → Reads t x → (k p : ℕ) → phase_at t k p ≡ (x.entry k p).phase
reads_phase r k p = same_phase (r.entries k p)

-- f with v at (k, p); with v at each (k, p)
abbrev pub put_at : {A : Type 0} → (ℕ → ℕ → A) → ℕ → ℕ → A → ℕ → ℕ → A
put_at f k p v j q = cond (eqb j k && eqb q p) v (f j q)

abbrev pub put_row : {A : Type 0} → (ℕ → ℕ → A) → ℕ → A → ℕ → ℕ → A
put_row f k v j q = cond (eqb j k) v (f j q)

-- ---- the four writes
abbrev pub stated : Says → ℕ → State → Says
stated x k s = record { state = put x.state k s; opened = x.opened; entry = x.entry }

abbrev pub entered : Says → ℕ → ℕ → Entry → Says
entered x k p e = record { state = x.state; opened = x.opened; entry = put_at x.entry k p e }

abbrev pub opening : Says → ℕ → Bool → Says
opening x p b = record { state = x.state; opened = put x.opened p b; entry = x.entry }

abbrev pub cleared : Says → ℕ → Says
cleared x k = record { state = x.state; opened = x.opened; entry = put_row x.entry k absent }

-- ---- what is written is read
module _ {A : Type 0} (f : ℕ → A) (k : ℕ) (v : A) where
  pub put_here : put f k v k ≡ v
  put_here = rw (eq-eqb k k refl)

  pub put_other : (j : ℕ) → (j ≡ k → ⊥) → put f k v j ≡ f j
  put_other j n = rw (ne_eqb j k n)

module _ {A : Type 0} (f : ℕ → ℕ → A) (k p : ℕ) (v : A) where
  pub put_at_here : put_at f k p v k p ≡ v
  put_at_here = rw (eq-eqb k k refl, eq-eqb p p refl)

  pub put_at_other : (j q : ℕ) → ((j ≡ k) × (q ≡ p) → ⊥) → put_at f k p v j q ≡ f j q
  put_at_other j q n =
      ⊎_elim
      (λ (x : eqb j k && eqb q p ≡ true). absurd (n (eqb-true j k (and_left (eqb j k) (eqb q p) x), eqb-true q p (and_right (eqb j k) (eqb q p) x))))
      (λ (x : eqb j k && eqb q p ≡ false). rw x) (decide (eqb j k && eqb q p))

-- a task that is not free has a number in range
pub state_below : (t : Table) (k : ℕ) → (state_at t k ≡ Free → ⊥) → k < 32
unfolding state_at
state_below t k n = go (ltb k 32) refl n
  where
    go : (b : Bool) → ltb k 32 ≡ b → (cond b (get_or t.tasks k free_task).state Free ≡ Free → ⊥) → k < 32
    go true e n = ltb-true k 32 e
    go false e n = absurd (n refl)

-- ---- entries of a list of 512
-- two entries have one place only if they are one
place : (j q k p : ℕ) → q < 16 → p < 16 → eqb (j * 16 + q) (k * 16 + p) ≡ eqb j k && eqb q p
place j q k p h g = go (eqb j k) (eqb q p) refl refl
  where
    go : (b c : Bool) → eqb j k ≡ b → eqb q p ≡ c → eqb (j * 16 + q) (k * 16 + p) ≡ b && c
    go true true e f = eq-eqb (j * 16 + q) (k * 16 + p) (omega (arith, eqb-true j k e, eqb-true q p f))
    go true false e f = ne_eqb (j * 16 + q) (k * 16 + p) (λ x. eqb-false q p f (omega (arith, x, eqb-true j k e)))
    go false c e f = ne_eqb (j * 16 + q) (k * 16 + p) (λ x. eqb-false j k e (omega (arith, x)))

-- an entry out of range is not one in range
outside : (j q k p : ℕ) → k < 32 → p < 16 → in_table j q ≡ false → eqb j k && eqb q p ≡ false
outside j q k p h g e = ⊎_elim
    (λ (x : eqb j k && eqb q p ≡ true).
    let a = eqb-true j k (and_left (eqb j k) (eqb q p) x) in
    let b = eqb-true q p (and_right (eqb j k) (eqb q p) x) in
    absurd (clash (simp (a, b, lt-ltb k 32 h, lt-ltb p 16 g)) e))
    (λ x. x) (decide (eqb j k && eqb q p))

in_table_below : (j q : ℕ) → in_table j q ≡ true → (j < 32) × (q < 16)
in_table_below j q e = (ltb-true j 32 (and_left (ltb j 32) (ltb q 16) e), ltb-true q 16 (and_right (ltb j 32) (ltb q 16) e))

-- what is read of an entry in range, z out of it
module _ {A B : Type 0} (l : List A) (d : A) (g : A → B) (z : B) where
  abbrev read : List A → ℕ → ℕ → B
  read l j q = cond (in_table j q) (g (get_or l (j * 16 + q) d)) z

  entry_set : length l ≡ 512 → (k p : ℕ) (v : A) → k < 32 → p < 16 → (j q : ℕ)
      → read (set l (k * 16 + p) v) j q ≡ cond (eqb j k && eqb q p) (g v) (read l j q)
  entry_set e k p v h i j q = go (in_table j q) refl
    where
      pick : (c : Bool) → g (cond c v (get_or l (j * 16 + q) d)) ≡ cond c (g v) (g (get_or l (j * 16 + q) d))
      pick true = refl
      pick false = refl

      go : (b : Bool) → in_table j q ≡ b
          → cond b (g (get_or (set l (k * 16 + p) v) (j * 16 + q) d)) z ≡ cond (eqb j k && eqb q p) (g v) (cond b (g (get_or l (j * 16 + q) d)) z)
      go true x =
          ap g
          (read_set l (k * 16 + p) v (j * 16 + q) d (omega (arith, e))
          ∙ ap (λ (c : Bool). cond c v (get_or l (j * 16 + q) d)) (place j q k p (in_table_below j q x).1 i))
          ∙ pick (eqb j k && eqb q p)
      go false x = rw (outside j q k p h i x)

  row_set : length l ≡ 512 → g d ≡ z → (k : ℕ) → k < 32 → (j q : ℕ)
      → read (filled l (k * 16) 16 d) j q ≡ cond (eqb j k) z (read l j q)
  row_set e y k h j q = go (in_table j q) (eqb j k) refl refl
    where
      go : (b c : Bool) → in_table j q ≡ b → eqb j k ≡ c
          → cond b (g (get_or (filled l (k * 16) 16 d) (j * 16 + q) d)) z ≡ cond c z (cond b (g (get_or l (j * 16 + q) d)) z)
      go true true x r =
          rw (eqb-true j k r) (ap g (filled_in l (k * 16) 16 d q d (in_table_below j q x).1 (omega (arith, e))) ∙ y)
      go true false x r = ap g (filled_out l (k * 16) 16 d (j * 16 + q) d (side (ltb j k) refl))
        where
          side : (b : Bool) → ltb j k ≡ b → (j * 16 + q < k * 16) ⊎ (k * 16 + 16 ≤ j * 16 + q)
          side true w = let i = (in_table_below j q x).1 in let n = ltb-true j k w in inl (omega arith)
          side false w = let n = ltb-false j k w in inr (omega (arith, eqb-false j k r))
      go false true x r = refl
      go false false x r = refl

-- a reader of members as one of entries
and_cond : (a b : Bool) → a && b ≡ cond a b false
and_cond true b = refl
and_cond false b = refl

abbrev phase_number : Phase → ℕ
phase_number n = n.0

-- ---- what is said after each write, where the table says x before
module _ {t : Table} {x : Says} (z : Shaped t) (r : Reads t x) where
  pub state_reads : (k : ℕ) (s : State) → k < 32 → Reads (with_state t k s) (stated x k s)
  unfolding with_state state_at open_at member_at phase_at
  state_reads k s h = record { states = states; opens = r.opens; entries = r.entries }
    where
      task : Task
      task = record { state = s }

      pick : (b c : Bool) (j : ℕ) → ltb j 32 ≡ b → eqb j k ≡ c
          → cond b (cond c task (get_or t.tasks j free_task)).state Free ≡ cond c s (cond b (get_or t.tasks j free_task).state Free)
      pick true true j e q = refl
      pick true false j e q = refl
      pick false false j e q = refl
      pick false true j e q = absurd (let l = ltb-false j 32 e in let i = eqb-true j k q in omega arith)

      states : (j : ℕ) → state_at (with_state t k s) j ≡ put x.state k s j
      states j =
          ap (λ (y : Task). cond (ltb j 32) y.state Free) (read_set t.tasks k task j free_task (omega (arith, z.tasks)))
          ∙ (pick (ltb j 32) (eqb j k) j refl refl ∙ ap (λ (y : State). cond (eqb j k) s y) (r.states j))

  pub entry_reads : (k p : ℕ) (e : Entry) → k < 32 → p < 16 → Reads (with_entry t k p e) (entered x k p e)
  unfolding with_entry state_at open_at member_at phase_at
  entry_reads k p e h g = record { states = r.states; opens = r.opens; entries = entries }
    where
      both : (c : Bool) (j q : ℕ)
          → entry_of (cond c e.member (member_at t j q)) (cond c e.phase (phase_at t j q)) ≡ cond c e (entry_at t j q)
      both true j q = refl
      both false j q = refl

      members : (j q : ℕ) → member_at (with_entry t k p e) j q ≡ cond (eqb j k && eqb q p) e.member (member_at t j q)
      members j q =
          and_cond (in_table j q) (get_or (set t.members (k * 16 + p) e.member) (j * 16 + q) false)
          ∙ (entry_set t.members false (λ b. b) false z.members k p e.member h g j q
          ∙ ap (λ (b : Bool). cond (eqb j k && eqb q p) e.member b) (sym (and_cond (in_table j q) (get_or t.members (j * 16 + q) false))))

      phases : (j q : ℕ) → phase_at (with_entry t k p e) j q ≡ cond (eqb j k && eqb q p) e.phase (phase_at t j q)
      phases j q = entry_set t.phases phase0 phase_number 0 z.phases k p (record { 0 = e.phase }) h g j q

      entries : (j q : ℕ) → entry_at (with_entry t k p e) j q ≡ put_at x.entry k p e j q
      entries j q =
          ap (λ (b : Bool). entry_of b (phase_at (with_entry t k p e) j q)) (members j q)
          ∙ (ap (entry_of (cond (eqb j k && eqb q p) e.member (member_at t j q))) (phases j q)
          ∙ (both (eqb j k && eqb q p) j q ∙ ap (λ (y : Entry). cond (eqb j k && eqb q p) e y) (r.entries j q)))

  pub open_reads : (p : ℕ) (opened : Bool) → p < 16 → Reads (with_open t p opened) (opening x p opened)
  unfolding with_open state_at open_at member_at phase_at
  open_reads p opened h = record { states = r.states; opens = opens; entries = r.entries }
    where
      pick : (q : ℕ) (b c : Bool) → ltb q 16 ≡ b → eqb q p ≡ c
          → b && cond c opened (get_or t.opened q false) ≡ cond c opened (b && get_or t.opened q false)
      pick q true true e i = refl
      pick q true false e i = refl
      pick q false false e i = refl
      pick q false true e i = absurd (let l = ltb-false q 16 e in let j = eqb-true q p i in omega arith)

      opens : (q : ℕ) → open_at (with_open t p opened) q ≡ put x.opened p opened q
      opens q =
          ap (λ (b : Bool). ltb q 16 && b) (read_set t.opened p opened q false (omega (arith, z.opened)))
          ∙ (pick q (ltb q 16) (eqb q p) refl refl ∙ ap (λ (b : Bool). cond (eqb q p) opened b) (r.opens q))

  pub row_reads : (k : ℕ) → k < 32 → Reads (without_entries t k 16) (cleared x k)
  unfolding without_entries state_at open_at member_at phase_at
  row_reads k h = record { states = r.states; opens = r.opens; entries = entries }
    where
      both : (c : Bool) (j q : ℕ) → entry_of (cond c false (member_at t j q)) (cond c 0 (phase_at t j q)) ≡ cond c absent (entry_at t j q)
      both true j q = refl
      both false j q = refl

      members : (j q : ℕ) → member_at (without_entries t k 16) j q ≡ cond (eqb j k) false (member_at t j q)
      members j q =
          and_cond (in_table j q) (get_or (filled t.members (k * 16) 16 false) (j * 16 + q) false)
          ∙ (row_set t.members false (λ b. b) false z.members refl k h j q
          ∙ ap (λ (b : Bool). cond (eqb j k) false b) (sym (and_cond (in_table j q) (get_or t.members (j * 16 + q) false))))

      entries : (j q : ℕ) → entry_at (without_entries t k 16) j q ≡ put_row x.entry k absent j q
      entries j q =
          ap (λ (b : Bool). entry_of b (phase_at (without_entries t k 16) j q)) (members j q)
          ∙ (ap (entry_of (cond (eqb j k) false (member_at t j q))) (row_set t.phases phase0 phase_number 0 z.phases refl k h j q)
          ∙ (both (eqb j k) j q ∙ ap (λ (y : Entry). cond (eqb j k) absent y) (r.entries j q)))

-- ---- the arrays keep their lengths
module _ (t : Table) (z : Shaped t) where
  pub state_shaped : (k : ℕ) (s : State) → Shaped (with_state t k s)
  unfolding with_state
  state_shaped k s =
      record { tasks = length-set t.tasks k (record { state = s }) ∙ z.tasks; opened = z.opened; phases = z.phases; members = z.members }

  pub entry_shaped : (k p : ℕ) (e : Entry) → Shaped (with_entry t k p e)
  unfolding with_entry
  entry_shaped k p e = record {
    tasks = z.tasks;
    opened = z.opened;
    phases = length-set t.phases (k * 16 + p) (record { 0 = e.phase }) ∙ z.phases;
    members = length-set t.members (k * 16 + p) e.member ∙ z.members;
  }

  pub open_shaped : (p : ℕ) (opened : Bool) → Shaped (with_open t p opened)
  unfolding with_open
  open_shaped p opened =
      record { tasks = z.tasks; opened = length-set t.opened p opened ∙ z.opened; phases = z.phases; members = z.members }

  pub row_shaped : (k : ℕ) → Shaped (without_entries t k 16)
  unfolding without_entries
  row_shaped k = record {
    tasks = z.tasks;
    opened = z.opened;
    phases = length_filled t.phases (k * 16) 16 phase0 ∙ z.phases;
    members = length_filled t.members (k * 16) 16 false ∙ z.members;
  }
