-- A number in a part of the file: it goes on past the part, or is read there as in the whole; with three bytes it does not go on; and one that goes on past a
-- part ends behind it.
use Rattle.std.proofs.Common.{◌≡◌, ℕ, zero, suc, ◌+◌, ◌-◌, ◌*◌, ◌<◌, ◌≤◌, Bool, true, false, cond, eqb, ltb, leb, ◌⊎◌, List, ◌++◌, length, get_or, refl}
use Rattle.std.proofs.Common.{ap, inl, inr, ⊎_elim, arith, length-append, leb-false, leb-true}
use lib.ListN.{get_or-append}
use borrow.Author.Tests.{lt-leb}
use Rattle.answers.specs.Answers.{ends_inside, needless_group, too_large}
use Rattle.fields.specs.Figures.{further}
use Rattle.fields.specs.Got.{Got, value, refused, onward}
use Rattle.fields.specs.Number.{carried, groups_at, plain_at, number_at}

-- a byte of the part stands in the whole too
inside : (part rest : List ℕ) (at : ℕ) → leb (length part) at ≡ false
    → (leb (length (part ++ rest)) at ≡ false) × (get_or (part ++ rest) at 0 ≡ get_or part at 0)
inside part rest at e =
    let l = leb-false (length part) at e in
    (lt-leb (length (part ++ rest)) at (omega (arith, length-append part rest)), get_or-append part rest 0 at l)

-- ---- the groups of a number: they go on past the part, or are read as in the whole
groups_part : (k : ℕ) (part rest : List ℕ) (at : ℕ)
    → (groups_at k part at ≡ refused ends_inside) ⊎ (groups_at k (part ++ rest) at ≡ groups_at k part at)
groups_part zero part rest at = inr refl
groups_part (suc k) part rest at = go (leb (length part) at) refl (ltb (get_or part at 0) 128) refl (groups_part k part rest (at + 1))
  where
    go : (b : Bool) → leb (length part) at ≡ b → (c : Bool) → ltb (get_or part at 0) 128 ≡ c
        → (groups_at k part (at + 1) ≡ refused ends_inside) ⊎ (groups_at k (part ++ rest) (at + 1) ≡ groups_at k part (at + 1))
        → (groups_at (suc k) part at ≡ refused ends_inside) ⊎ (groups_at (suc k) (part ++ rest) at ≡ groups_at (suc k) part at)
    go true e c f r = inl (rw e refl)
    go false e true f r = let i = inside part rest at e in inr (rw (e, i.0, i.1, f) refl)
    go false e false f (inl r) = inl (rw (e, f, r) refl)
    go false e false f (inr r) = let i = inside part rest at e in inr (rw (e, i.0, i.1, f, r) refl)

-- ---- what a group and those that follow it tell of these
carried_inside : (low : ℕ) (g : Got ℕ) → carried low g ≡ refused ends_inside → g ≡ refused ends_inside
carried_inside low (refused n) e = e
carried_inside low (value high next) e = absurd (go (eqb high 0) e)
  where
    go : (b : Bool) → cond b (refused needless_group) (value (low + high * 128) next) ≡ refused ends_inside → ⊥
    go true e = let z : needless_group ≡ ends_inside = cc in omega arith
    go false e = let z : ◌≡◌ {A = ℕ} 0 1 = cc in omega arith

carried_value : (low v at : ℕ) (g : Got ℕ) → carried low g ≡ value v at → (w : ℕ) × (g ≡ value w at)
carried_value low v at (refused n) e = absurd (let z : ◌≡◌ {A = ℕ} 0 1 = cc in omega arith)
carried_value low v at (value high next) e = go (eqb high 0) e
  where
    go : (b : Bool) → cond b (refused needless_group) (value (low + high * 128) next) ≡ value v at → (w : ℕ) × (value high next ≡ value w at)
    go true e = absurd (let z : ◌≡◌ {A = ℕ} 0 1 = cc in omega arith)
    go false e = let q : next ≡ at = cc in (high, ap (value high) q)

-- with as many bytes as it may have groups a number does not go on past them
groups_there : (k : ℕ) (part : List ℕ) (at : ℕ) → at + k ≤ length part → groups_at k part at ≡ refused ends_inside → ⊥
groups_there zero part at h e = let z : too_large ≡ ends_inside = cc in omega arith
groups_there (suc k) part at h e =
    go (ltb (get_or part at 0) 128) (groups_there k part (at + 1) (omega arith)) (rw (lt-leb (length part) at (omega arith)) at e)
  where
    go : (c : Bool) → (groups_at k part (at + 1) ≡ refused ends_inside → ⊥)
        → cond c (value (get_or part at 0) (at + 1)) (carried (get_or part at 0 - 128) (groups_at k part (at + 1))) ≡ refused ends_inside → ⊥
    go true rest e = let z : ◌≡◌ {A = ℕ} 0 1 = cc in omega arith
    go false rest e = rest (carried_inside _ (groups_at k part (at + 1)) e)

-- ---- groups that go on past a part end behind it
groups_after : (k : ℕ) (s : List ℕ) (from v at : ℕ) → groups_at k s from ≡ value v at → from < at
groups_after zero s from v at e = absurd (let z : ◌≡◌ {A = ℕ} 0 1 = cc in omega arith)
groups_after (suc k) s from v at e = there (leb (length s) from) (ltb (get_or s from 0) 128) (groups_after k s (from + 1)) e
  where
    there : (b c : Bool) → ((w next : ℕ) → groups_at k s (from + 1) ≡ value w next → from + 1 < next)
        → cond b (refused ends_inside) (cond c (value (get_or s from 0) (from + 1)) (carried (get_or s from 0 - 128) (groups_at k s (from + 1))))
        ≡ value v at → from < at
    there true c more e = absurd (let z : ◌≡◌ {A = ℕ} 0 1 = cc in omega arith)
    there false true more e = let q : from + 1 ≡ at = cc in omega arith
    there false false more e =
        let w = carried_value (get_or s from 0 - 128) v at (groups_at k s (from + 1)) e in
        let l = more w.0 at w.1 in
        omega arith

groups_end : (k : ℕ) (part rest : List ℕ) (from v at : ℕ) → groups_at k part from ≡ refused ends_inside
    → groups_at k (part ++ rest) from ≡ value v at → length part < at
groups_end zero part rest from v at e f = absurd (let z : too_large ≡ ends_inside = cc in omega arith)
groups_end (suc k) part rest from v at e f = there (leb (length part) from) refl (groups_end k part rest (from + 1))
  where
    there : (b : Bool) → leb (length part) from ≡ b
        → ((w next : ℕ) → groups_at k part (from + 1) ≡ refused ends_inside → groups_at k (part ++ rest) (from + 1) ≡ value w next
        → length part < next) → length part < at
    there true q more =
        let l = leb-true (length part) from q in
        let m = groups_after (suc k) (part ++ rest) from v at f in
        omega arith
    there false q more = let i = inside part rest from q in on (ltb (get_or part from 0) 128) (rw q at e) (rw (i.0, i.1) at f)
      where
        on : (c : Bool)
            → cond c (value (get_or part from 0) (from + 1)) (carried (get_or part from 0 - 128) (groups_at k part (from + 1))) ≡ refused ends_inside
            → cond c (value (get_or part from 0) (from + 1)) (carried (get_or part from 0 - 128) (groups_at k (part ++ rest) (from + 1))) ≡ value v at
            → length part < at
        on true e f = absurd (let z : ◌≡◌ {A = ℕ} 0 1 = cc in omega arith)
        on false e f =
            let w = carried_value (get_or part from 0 - 128) v at (groups_at k (part ++ rest) (from + 1)) f in
            more w.0 at (carried_inside (get_or part from 0 - 128) (groups_at k part (from + 1)) e) w.1

-- ---- so of a number with a largest value
abbrev up_to : ℕ → Got ℕ → Got ℕ
up_to m g = onward g (λ v next. cond (leb v m) (value v next) (refused too_large))

up_to_inside : (m : ℕ) (g : Got ℕ) → up_to m g ≡ refused ends_inside → g ≡ refused ends_inside
up_to_inside m (refused n) e = e
up_to_inside m (value v next) e = absurd (go (leb v m) e)
  where
    go : (b : Bool) → cond b (value v next) (refused too_large) ≡ refused ends_inside → ⊥
    go true e = let z : ◌≡◌ {A = ℕ} 0 1 = cc in omega arith
    go false e = let z : too_large ≡ ends_inside = cc in omega arith

up_to_value : (m v at : ℕ) (g : Got ℕ) → up_to m g ≡ value v at → (w : ℕ) × (g ≡ value w at)
up_to_value m v at (refused n) e = absurd (let z : ◌≡◌ {A = ℕ} 0 1 = cc in omega arith)
up_to_value m v at (value w next) e = go (leb w m) e
  where
    go : (b : Bool) → cond b (value w next) (refused too_large) ≡ value v at → (u : ℕ) × (value w next ≡ value u at)
    go true e = let q : next ≡ at = cc in (w, ap (value w) q)
    go false e = absurd (let z : ◌≡◌ {A = ℕ} 0 1 = cc in omega arith)

pub number_part : (part rest : List ℕ) (m : ℕ) → (number_at part m 0 ≡ refused ends_inside) ⊎ (number_at (part ++ rest) m 0 ≡ number_at part m 0)
unfolding number_at plain_at
number_part part rest m = ⊎_elim (λ e. inl (ap (up_to m) e)) (λ e. inr (ap (up_to m) e)) (groups_part (suc further) part rest 0)

pub number_there : (part : List ℕ) (m : ℕ) → suc further ≤ length part → number_at part m 0 ≡ refused ends_inside → ⊥
unfolding number_at plain_at
number_there part m h e = groups_there (suc further) part 0 h (up_to_inside m (groups_at (suc further) part 0) e)

pub number_end : (part rest : List ℕ) (m v at : ℕ) → number_at part m 0 ≡ refused ends_inside → number_at (part ++ rest) m 0 ≡ value v at
    → length part < at
unfolding number_at plain_at
number_end part rest m v at e f =
    let w = up_to_value m v at (groups_at (suc further) (part ++ rest) 0) f in
    groups_end (suc further) part rest 0 w.0 at (up_to_inside m (groups_at (suc further) part 0) e) w.1
