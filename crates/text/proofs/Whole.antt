-- No verdict's text is longer than the buffer: nothing of it is ever cut.
use mathlib.Core.Path.{◌≡◌}
use mathlib.Core.List.{List, [], ◌∷◌, ◌++◌, append-nil}
use Prim.Native.Nat.{ℕ, zero, suc, ◌+◌, ◌*◌, ◌/◌, ◌^◌, ◌≤◌, ◌<◌}
use native.Mathlib.Decide.{dec_lt, ℕ_discrete}
use native.Mathlib.Nat.{pow-suc}
use native.Mathlib.Omega.{arith}
use lib.ListN.{get_or, length, take, length-append}
use Rattle.sets.specs.Set.{bit}
use Rattle.answers.specs.Answers.{done}
use Rattle.judge.specs.declared.verdict.Verdict.{Verdict}
use Rattle.text.specs.Text.{decimal, digits_of, numbered}
use Rattle.text.specs.Verdict.{task_in, tasks_in, verdict_text}
use Rattle.text.proofs.Decimals.{digits_one, digits_more, numbered_one, numbered_append}
use Rattle.text.proofs.Lines.{task_there, task_away, text_done, text_refused}

digits_short : (more n k : ℕ) → n < 10 ^ suc k → length (digits_of more n) ≤ suc k
unfolding digits_of
digits_short zero n k h = omega arith
digits_short (suc more) n zero h = rw (digits_one more n (omega arith)) (omega arith)
digits_short (suc more) n (suc k) h = go (dec_lt n 10) (digits_short more (n / 10) k (omega (arith, pow-suc 10 (suc k))))
  where
    go : Dec (n < 10) → length (digits_of more (n / 10)) ≤ suc k → length (digits_of (suc more) n) ≤ suc (suc k)
    go (yes l) r = rw (digits_one more n l) (omega arith)
    go (no l) r = rw (digits_more more n (omega arith), length-append) (omega arith)

decimal_short : (n k : ℕ) → n < 10 ^ suc k → length (decimal n) ≤ suc k
unfolding decimal
decimal_short n k h = digits_short 20 n k h

pub number_short : (n k : ℕ) → n < 10 ^ suc k → length (numbered (n ∷ [])) ≤ k + 2
number_short n k h = let r = decimal_short n k h in rw numbered_one (omega arith)

tasks_short : (m n : ℕ) → n ≤ 32 → length (numbered (tasks_in m n)) ≤ 3 * n
unfolding numbered tasks_in
tasks_short m zero h = omega arith
tasks_short m (suc n) h = go (ℕ_discrete (bit m n) 1) (tasks_short m n (omega arith))
  where
    go : Dec (bit m n ≡ 1) → length (numbered (tasks_in m n)) ≤ 3 * n → length (numbered (tasks_in m n ++ task_in m n)) ≤ 3 * suc n
    go (yes e) r = let s = number_short n 1 (omega arith) in rw (task_there m n e, numbered_append, length-append) (omega arith)
    go (no e) r = rw (task_away m n e, append-nil) (omega arith)

ring_short : (n : ℕ) (ring : List ℕ) → ((i : ℕ) → get_or ring i 0 < 256) → length (numbered (take n ring)) ≤ 4 * length ring
unfolding numbered
ring_short zero ring small = omega arith
ring_short (suc n) [] small = omega arith
ring_short (suc n) (a ∷ ring) small =
    let r = ring_short n ring (λ i. small (suc i)) in
    let s = decimal_short a 2 (let z = small 0 in omega arith) in
    rw length-append (omega arith)

module _ (v : Verdict) (fits : v.answer < 2 ^ 32) (places : length v.ring ≡ 32) (small : (i : ℕ) → get_or v.ring i 0 < 256) where
  pub text_whole : length (verdict_text v) ≤ 256
  text_whole = go (ℕ_discrete v.answer done)
    where
      go : Dec (v.answer ≡ done) → length (verdict_text v) ≤ 256
      go (yes e) =
          let a = number_short v.answer 0 (omega arith) in
          let b = tasks_short v.named 32 (omega arith) in
          let c = ring_short v.length v.ring small in
          rw (text_done v e) (simp length-append (omega arith))
      go (no e) = let a = number_short v.answer 9 (omega arith) in rw (text_refused v e) (simp length-append (omega arith))
