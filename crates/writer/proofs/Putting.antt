-- A number's groups, laid one by one.
use mathlib.Core.Path.{◌≡◌, refl, ap}
use mathlib.Core.Bool.{Bool, true, false, cond}
use mathlib.Core.List.{List, [], ◌∷◌, ◌++◌}
use Prim.Native.Nat.{ℕ, zero, suc, ◌+◌, ◌/◌, ◌%◌, ◌^◌, ◌≤◌, ◌<◌}
use native.Mathlib.Numerals.{add-one}
use native.Mathlib.Omega.{arith}
use lib.Dec.{ltb}
use lib.ListN.{length, set, length-append}
use lib.Seq.{sets}
use borrow.Author.Tests.{lt-ltb, le-ltb}
use Rattle.states.specs.declared.state.State.{State}
use Rattle.states.specs.declared.state.State.TheVariants.{Free, Running, Blocked}
use Rattle.sheet.specs.Written.{state_bytes}
use Rattle.fields.specs.Number.{groups_of, number_bytes}
use Rattle.writer.specs.Parts.{Laid}

groups_short : (k n : ℕ) → length (groups_of k n) ≤ k
groups_short zero n = omega arith
groups_short (suc k) n = go (ltb n 128) (groups_short k (n / 128))
  where
    go : (b : Bool) → length (groups_of k (n / 128)) ≤ k → length (cond b (n ∷ []) ((n % 128 + 128) ∷ groups_of k (n / 128))) ≤ suc k
    go true h = omega arith
    go false h = omega arith

some_group : (k n : ℕ) → 0 < length (groups_of (suc k) n)
some_group k n = go (ltb n 128)
  where
    go : (b : Bool) → 0 < length (cond b (n ∷ []) ((n % 128 + 128) ∷ groups_of k (n / 128)))
    go true = omega arith
    go false = omega arith

pub number_short : (n : ℕ) → length (number_bytes n) ≤ 10
unfolding number_bytes
number_short n = groups_short 10 n

pub state_short : (x : State) → length (state_bytes x) ≤ 30
state_short Free = omega arith
state_short Running = omega (arith, number_short 0)
state_short (Blocked e) =
    let phaser = number_bytes e.phaser.0 in
    let phase = number_bytes e.phase.0 in
    rw (length-append (number_bytes 1) (phaser ++ phase), length-append phaser phase)
    (omega (arith, number_short 1, number_short e.phaser.0, number_short e.phase.0))

-- what is left of a number, laid from here, gives what the whole gives, laid from where it begins
pub record Putting (before : List ℕ) (at number : ℕ) (buffer : List ℕ) (next left : ℕ) : Type 0 where
  pub more : ℕ
  pub small : left < 128 ^ suc more
  pub place : next + length (groups_of (suc more) left) ≡ at + length (number_bytes number)
  pub laid : sets buffer next (groups_of (suc more) left) ≡ sets before at (number_bytes number)

pub putting_start : (before : List ℕ) (at number : ℕ) → number < 2 ^ 64 → Putting before at number before at number
unfolding number_bytes
putting_start before at number h = record { more = 9; small = omega arith; place = refl; laid = refl }

module _ {before : List ℕ} {at number : ℕ} {buffer : List ℕ} {next left : ℕ} (g : Putting before at number buffer next left) where
  two_groups : (k : ℕ) → 128 ≤ left → groups_of (suc k) left ≡ (left % 128 + 128) ∷ groups_of k (left / 128)
  two_groups k h = rw (le-ltb left 128 h)

  pub putting_near : next < at + 10
  putting_near = omega (arith, g.place, some_group g.more left, number_short number)

  pub putting_turn : (byte : ℕ) → byte ≡ left % 128 + 128 → 128 ≤ left → Putting before at number (set buffer next byte) (next + 1) (left / 128)
  putting_turn byte q h = go g.more g.small g.place g.laid
    where
      go : (m : ℕ) → left < 128 ^ suc m → next + length (groups_of (suc m) left) ≡ at + length (number_bytes number)
          → sets buffer next (groups_of (suc m) left) ≡ sets before at (number_bytes number)
          → Putting before at number (set buffer next byte) (next + 1) (left / 128)
      go zero s p l = absurd (omega arith)
      go (suc m) s p l =
          let e = two_groups (suc m) h in
          record {
            more = m;
            small = omega arith;
            place = omega (arith, p, ap length e);
            laid = rw (add-one next, q) (rw e at l);
          }

  pub putting_done : left < 128 → Laid before at (number_bytes number) (set buffer next left) (next + 1)
  putting_done h =
      let e : groups_of (suc g.more) left ≡ left ∷ [] = rw (lt-ltb left 128 h) in
      record { place = omega (arith, g.place, ap length e); buffer = rw e at g.laid }
