-- A verdict's lines: the tasks of a set, one more at a time; the ring's places; what is printed on answer 0 and on a refusal.
use mathlib.Core.Path.{◌≡◌, refl}
use mathlib.Core.List.{[], ◌∷◌, ◌++◌, append-nil}
use Prim.Native.Nat.{ℕ, ◌+◌}
use native.Mathlib.Numerals.{add-one}
use lib.ListN.{take}
use borrow.Author.Tests.{eq-eqb, ne_eqb}
use Rattle.sets.specs.Set.{bit, Has}
use Rattle.answers.specs.Answers.{done}
use Rattle.judge.specs.declared.verdict.Verdict.{Verdict}
use Rattle.text.specs.Text.{line, numbered}
use Rattle.text.specs.Verdict.{answer_word, named_word, ring_word, task_in, tasks_in, verdict_text}
use Rattle.text.proofs.Decimals.{numbered_append}

pub task_there : (m k : ℕ) → Has m k → task_in m k ≡ k ∷ []
task_there m k h = rw (eq-eqb (bit m k) 1 h) refl

pub task_away : (m k : ℕ) → (Has m k → ⊥) → task_in m k ≡ []
task_away m k h = rw (ne_eqb (bit m k) 1 h) refl

pub tasks_more : (m n : ℕ) → numbered (tasks_in m (n + 1)) ≡ numbered (tasks_in m n) ++ numbered (task_in m n)
unfolding tasks_in
tasks_more m n = rw (add-one, numbered_append) refl

module _ (v : Verdict) where
  pub text_done : v.answer ≡ done
      → verdict_text v ≡ line answer_word (v.answer ∷ []) ++ (line named_word (tasks_in v.named 32) ++ line ring_word (take v.length v.ring))
  unfolding verdict_text
  text_done e = rw (eq-eqb v.answer done e) refl

  pub text_refused : (v.answer ≡ done → ⊥) → verdict_text v ≡ line answer_word (v.answer ∷ [])
  unfolding verdict_text
  text_refused e = rw (ne_eqb v.answer done e) (append-nil _)
