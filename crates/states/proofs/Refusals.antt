-- Laws of a list of tests, and of the rows that begin as others.
use mathlib.Core.Path.{◌≡◌, refl, ap, ◌∙◌}
use mathlib.Core.Logic.{◌↔◌}
use mathlib.Core.Bool.{Bool, true, false, ◌&&◌, not, cond}
use mathlib.Core.List.{List, [], ◌∷◌, ◌++◌}
use Prim.Native.Nat.{ℕ, ◌≤◌}
use native.Mathlib.Omega.{arith}
use lib.Dec.{leb, ltb, eqb}
use borrow.Author.Tests.{leb-true, ne_eqb}
use Rattle.answers.specs.Answers.{no_task, no_phaser, target_blocked, not_member, already_member, phase_too_large}
use Rattle.states.specs.State.{largest_phase, is_live, is_blocked}
use Rattle.states.specs.Tests.{Test, ◌else◌, refusal_of, caller_tests, member_tests, admit_tests, arrive_tests, wait_at_tests}
use Rattle.states.specs.declared.state.State.{State}
use Rattle.states.specs.declared.tests.Seen.{Seen}
use Rattle.states.proofs.Truth.{and_left, and_right}

-- every refusal in a list is 10 or more, as all of document 01's are
unfoldable pub refuses : List Test → Bool
refuses [] = true
refuses (x ∷ tests) = leb 10 x.refusal && refuses tests

-- every test in a list holds
unfoldable pub Passed : List Test → Type 0
Passed [] = Unit {0}
Passed (x ∷ tests) = (x.holds ≡ true) × Passed tests

pub passed : (tests : List Test) → refuses tests ≡ true → refusal_of tests ≡ 0 → Passed tests
unfolding refuses Passed refusal_of
passed [] r e = tt
passed (x ∷ tests) r e = go x.holds refl e (passed tests (and_right (leb 10 x.refusal) (refuses tests) r))
  where
    go : (b : Bool) → x.holds ≡ b → cond b (refusal_of tests) x.refusal ≡ 0 → (refusal_of tests ≡ 0 → Passed tests)
        → (x.holds ≡ true) × Passed tests
    go true q h more = (q, more h)
    go false q h more = absurd (let l = leb-true 10 x.refusal (and_left (leb 10 x.refusal) (refuses tests) r) in omega arith)

pub passed_none : (tests : List Test) → Passed tests → refusal_of tests ≡ 0
unfolding refusal_of Passed
passed_none [] p = refl
passed_none (x ∷ tests) p = ap (λ (b : Bool). cond b (refusal_of tests) x.refusal) p.0 ∙ passed_none tests p.1

-- the tests of a row that begins as another: those of the beginning, and the rest
pub passed_append : (a b : List Test) → Passed (a ++ b) ↔ (Passed a × Passed b)
unfolding Passed
passed_append [] b = (λ p. (tt, p), λ p. p.1)
passed_append (x ∷ a) b =
    let more = passed_append a b in
    (λ p. let q = more.0 p.1 in ((p.0, q.0), q.1), λ p. (p.0.0, more.1 (p.0.1, p.1)))

-- ---- what holds of each refusal of a list
-- the tests after the first
abbrev pub tail : List Test → List Test
tail [] = []
tail (x ∷ tests) = tests

-- a test of each refusal
abbrev pub each_test : (ℕ → Bool) → List Test → Bool
each_test f [] = true
each_test f (x ∷ tests) = f x.refusal && each_test f tests

-- a property of each refusal
abbrev pub Each : (ℕ → Type 0) → List Test → Type 0
Each Q [] = Unit {0}
Each Q (x ∷ tests) = Q x.refusal × Each Q tests

pub each_all : (Q : ℕ → Type 0) → ((n : ℕ) → Q n) → (tests : List Test) → Each Q tests
each_all Q h [] = tt
each_all Q h (x ∷ tests) = (h x.refusal, each_all Q h tests)

pub each_told : (f : ℕ → Bool) (tests : List Test) → each_test f tests ≡ true → Each (λ n. f n ≡ true) tests
each_told f [] e = tt
each_told f (x ∷ tests) e = (and_left (f x.refusal) (each_test f tests) e, each_told f tests (and_right (f x.refusal) (each_test f tests) e))

-- one property of each from another
pub each_map : (Q R : ℕ → Type 0) → ((n : ℕ) → 10 ≤ n → Q n → R n) → (tests : List Test) → refuses tests ≡ true → Each Q tests
    → Each R tests
unfolding refuses
each_map Q R h [] r e = tt
each_map Q R h (x ∷ tests) r e = (
  h x.refusal (leb-true 10 x.refusal (and_left (leb 10 x.refusal) (refuses tests) r)) e.0,
  each_map Q R h tests (and_right (leb 10 x.refusal) (refuses tests) r) e.1,
)

pub each_high : (Q : ℕ → Type 0) → ((n : ℕ) → 10 ≤ n → Q n) → (tests : List Test) → refuses tests ≡ true → Each Q tests
each_high Q h tests r = each_map (λ n. Unit {0}) Q (λ n l u. h n l) tests r (each_all (λ n. Unit {0}) (λ n. tt) tests)

-- the list's refusal is 0, and all hold; or it is that of a test
pub refusal_cases : (Q : ℕ → Type 0) (tests : List Test) → (Passed tests → Q 0) → Each Q tests → Q (refusal_of tests)
unfolding refusal_of Passed
refusal_cases Q [] h e = h tt
refusal_cases Q (x ∷ tests) h e = go x.holds refl (λ q. refusal_cases Q tests (λ p. h (q, p)) e.1)
  where
    go : (b : Bool) → x.holds ≡ b → (x.holds ≡ true → Q (refusal_of tests)) → Q (cond b (refusal_of tests) x.refusal)
    go true q rec = rec q
    go false q rec = e.0

-- ---- rows that begin as others
-- the refusal of the beginning, or else that of the rest
abbrev pub first_of : ℕ → ℕ → ℕ
first_of beginning rest = cond (eqb beginning 0) rest beginning

pub refusal_first : (a b : List Test) → refuses a ≡ true → refusal_of (a ++ b) ≡ first_of (refusal_of a) (refusal_of b)
unfolding refuses refusal_of
refusal_first [] b r = refl
refusal_first (x ∷ a) b r = go x.holds (refusal_first a b (and_right (leb 10 x.refusal) (refuses a) r))
  where
    stops : eqb x.refusal 0 ≡ false
    stops =
        let l = leb-true 10 x.refusal (and_left (leb 10 x.refusal) (refuses a) r) in
        ne_eqb x.refusal 0 (λ e. omega arith)

    go : (h : Bool) → refusal_of (a ++ b) ≡ first_of (refusal_of a) (refusal_of b)
        → cond h (refusal_of (a ++ b)) x.refusal ≡ first_of (cond h (refusal_of a) x.refusal) (refusal_of b)
    go true more = more
    go false more = simp stops

pub caller_first : (sound : Bool) (caller : State) (rest : List Test)
    → refusal_of (caller_tests sound caller ++ rest) ≡ first_of (refusal_of (caller_tests sound caller)) (refusal_of rest)
unfolding caller_tests refuses
caller_first sound caller rest = refusal_first (caller_tests sound caller) rest refl

module _ (s : Seen) where
  abbrev begun : ℕ
  begun = refusal_of (caller_tests s.sound s.state)

  pub member_first : refusal_of (member_tests s) ≡ first_of begun (cond s.opened (cond s.member 0 not_member) no_phaser)
  unfolding member_tests refusal_of
  member_first = caller_first s.sound s.state (s.opened else no_phaser ∷ s.member else not_member ∷ [])

  pub wait_at_first : (n : ℕ)
      → refusal_of (wait_at_tests s n) ≡ first_of begun (cond s.opened (cond (leb n largest_phase) 0 phase_too_large) no_phaser)
  unfolding wait_at_tests refusal_of
  wait_at_first n = caller_first s.sound s.state (s.opened else no_phaser ∷ leb n largest_phase else phase_too_large ∷ [])

  pub arrive_first : refusal_of (arrive_tests s) ≡ first_of (refusal_of (member_tests s)) (cond (ltb s.phase.0 largest_phase) 0 phase_too_large)
  unfolding arrive_tests member_tests caller_tests refuses refusal_of
  arrive_first = refusal_first (member_tests s) (ltb s.phase.0 largest_phase else phase_too_large ∷ []) refl

  pub admit_first : (target : State) (joined : Bool) → refusal_of (admit_tests s target joined)
      ≡ first_of (refusal_of (member_tests s)) (cond (is_live target) (cond (not (is_blocked target)) (cond (not joined) 0 already_member) target_blocked)
      no_task)
  unfolding admit_tests member_tests caller_tests refuses refusal_of
  admit_first target joined =
      refusal_first (member_tests s) (is_live target else no_task ∷ not (is_blocked target) else target_blocked ∷ not joined else already_member ∷ []) refl
