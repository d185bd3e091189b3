-- Counting and gathering, one number more.
use mathlib.Core.Path.{◌≡◌, refl}
use mathlib.Core.Bool.{Bool, true, false, cond}
use mathlib.Core.List.{List, ◌++◌, append-nil}
use Prim.Native.Nat.{ℕ, zero, suc, ◌+◌, ◌*◌, ◌≤◌}
use native.Mathlib.Numerals.{add-one}
use native.Mathlib.Omega.{arith}
use lib.ListN.{length, length-append}
use Rattle.sheet.specs.Written.{gather}
use Rattle.writer.specs.Parts.{if_there}

pub gather_next : (f : ℕ → Bool) (g : ℕ → List ℕ) (n : ℕ) → gather f g n ++ if_there (f n) (g n) ≡ gather f g (n + 1)
unfolding if_there
gather_next f g n = rw (add-one n) (go (f n))
  where
    go : (there : Bool) → gather f g n ++ if_there there (g n) ≡ cond there (gather f g n ++ g n) (gather f g n)
    go true = refl
    go false = append-nil _

pub gather_short : (f : ℕ → Bool) (g : ℕ → List ℕ) (m : ℕ) → ((i : ℕ) → length (g i) ≤ m) → (n : ℕ) → length (gather f g n) ≤ n * m
gather_short f g m h zero = omega arith
gather_short f g m h (suc n) = go (f n) (gather_short f g m h n)
  where
    go : (there : Bool) → length (gather f g n) ≤ n * m → length (cond there (gather f g n ++ g n) (gather f g n)) ≤ suc n * m
    go true l = rw (length-append (gather f g n) (g n)) (omega (arith, l, h n))
    go false l = omega (arith, l)
