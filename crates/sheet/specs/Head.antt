-- Document 01, 'The hall sheet', "Fields": what a reader makes of those before the first task.
use Rattle.std.specs.Prelude.{Bool, true, false, cond, List, ℕ, ◌+◌, eqb, set, replicate}
use Rattle.sheet.specs.declared.head.Head.{Head}
use Rattle.answers.specs.Answers.{unknown}
use Rattle.fields.specs.Got.{Got, value, refused, onward, Rising, rising, each}
use Rattle.fields.specs.Number.{plain_at, number_at, rising_at}

-- "how many open phasers (up to 16) and their numbers, rising"
unfoldable pub open_step : List ℕ → Rising (List Bool) → ℕ → Got (Rising (List Bool))
open_step s r at = onward (rising_at s 15 r.floor at) (λ p next. value (rising (p + 1) (set r.sofar p true)) next)

unfoldable pub opens_at : List ℕ → ℕ → Got (List Bool)
opens_at s at = onward (number_at s 16 at) (λ n first. each (open_step s) n (replicate 16 false) first)

-- "how many live tasks (up to 32)"
unfoldable pub count_at : List ℕ → ℕ → List Bool → ℕ → Got Head
count_at s version opened at = onward (number_at s 32 at) (λ n next. value (record { version = version; opened = opened; count = n }) next)

unfoldable pub lists_at : List ℕ → ℕ → ℕ → Got Head
lists_at s version at = onward (opens_at s at) (count_at s version)

-- "version", which is 1
unfoldable pub head_at : List ℕ → Got Head
head_at s = onward (plain_at s 0) (λ version first. cond (eqb version 1) (lists_at s version first) (refused unknown))
