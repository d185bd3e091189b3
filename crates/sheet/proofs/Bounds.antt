-- A number that was read is at most its field's largest value.
use Prim.Native.Nat.{ℕ, ◌≤◌}
use mathlib.Core.Path.{◌≡◌, refl, sym}
use mathlib.Core.Bool.{Bool, cond, true, false}
use mathlib.Core.List.{List}
use native.Mathlib.Omega.{arith}
use lib.Dec.{leb, ltb}
use lib.ListN.{get_or}
use borrow.Author.Tests.{leb-true}
use Rattle.states.specs.State.{largest_phase, event}
use Rattle.states.specs.declared.state.Event.{Event}
use Rattle.fields.specs.Got.{Got, value, refused}
use Rattle.fields.specs.Number.{plain_at, number_at, rising_at}
use Rattle.sheet.specs.declared.entry.Entry.{Entry}
use Rattle.sheet.specs.Entry.{phase_on, event_at, state_on, entry_of, count_on, entry_on, entry_at}
use Rattle.sheet.proofs.Onward.{came}

-- where a test let something through, it held
passed : {A : Type 0} {b : A} {next : ℕ} (test : Bool) (g : Got A) (n : ℕ) → cond test g (refused n) ≡ value b next → (test ≡ true) × (g ≡ value b next)
passed true g n e = (refl, e)
passed false g n e = absurd (let z : ◌≡◌ {A = ℕ} 0 1 = cc in omega arith)

kept : {A : Type 0} {b : A} {next : ℕ} (test : Bool) (g : Got A) (n : ℕ) → cond test (refused n) g ≡ value b next → (test ≡ false) × (g ≡ value b next)
kept true g n e = absurd (let z : ◌≡◌ {A = ℕ} 0 1 = cc in omega arith)
kept false g n e = (refl, e)

pub number_bound : (s : List ℕ) (m at : ℕ) {v next : ℕ} → value v next ≡ number_at s m at → v ≤ m
unfolding number_at
number_bound s m at {v} e =
    let c = came (plain_at s at) _ (sym e) in
    let p = passed (leb c.it m) _ _ c.onto in
    let z : c.it ≡ v = cc in
    rw (← z) (leb-true c.it m p.0)

pub rising_bound : (s : List ℕ) (m floor at : ℕ) {v next : ℕ} → value v next ≡ rising_at s m floor at → v ≤ m
unfolding rising_at
rising_bound s m floor at {v} e =
    let c = came (number_at s m at) _ (sym e) in
    let k = kept (ltb c.it floor) _ _ c.onto in
    let z : c.it ≡ v = cc in
    rw (← z) (number_bound s m at (sym c.from))

pub event_within : (s : List ℕ) (opened : List Bool) (floor at : ℕ) {e : Event} {next : ℕ} → value e next ≡ event_at s opened floor at → e.phaser.0 ≤ 15
unfolding event_at phase_on
event_within s opened floor at {e} h =
    let c = came (rising_at s 15 floor at) _ (sym h) in
    let p = passed (get_or opened c.it false) _ _ c.onto in
    let n = came (number_at s largest_phase c.at) _ p.1 in
    let z : event c.it n.it ≡ e = cc in
    rw (← z) (rising_bound s 15 floor at (sym c.from))

pub entry_within : (s : List ℕ) (opened : List Bool) (floor at : ℕ) {e : Entry} {next : ℕ} → value e next ≡ entry_at s opened floor at → e.number.0 ≤ 31
unfolding entry_at entry_on count_on
entry_within s opened floor at {e} h =
    let number = came (rising_at s 31 floor at) _ (sym h) in
    let state = came (state_on s opened number.at) _ number.onto in
    let members = came (number_at s 16 state.at) _ state.onto in
    let z : entry_of number.it state.it members.it ≡ e = cc in
    rw (← z) (rising_bound s 31 floor at (sym number.from))

-- for the attributes of the functions
pub ruleset bounds = (number_bound, rising_bound, event_within, entry_within)
