-- What the parts of the code hand each other; nobody need believe this file.
-- Only private functions promise how the code goes round, and proofs/Reached.antt shows that it comes to the ring.
use Rattle.std.specs.Prelude.{◌≡◌, cond, List, [], ◌∷◌, ◌++◌, ℕ, zero, suc, ◌-◌, min, ltb, eqb, length, get_or, replicate}
use Rattle.sets.specs.Set.{bit}
use Rattle.deadlock.specs.declared.ring.Round.{Round}

-- the task to step to; 32 where it is not named
unfoldable pub step_of : List ℕ → ℕ → ℕ → ℕ
step_of next m t = cond (ltb t 32) (cond (eqb (bit m (get_or next t 0)) 1) (get_or next t 0) 32) 32

-- so many steps on
unfoldable pub go_of : List ℕ → ℕ → ℕ → ℕ → ℕ
go_of next m t zero = t
go_of next m t (suc k) = go_of next m (step_of next m t) k

-- the lowest of `low` and of so many steps on
unfoldable pub low_of : List ℕ → ℕ → ℕ → ℕ → ℕ → ℕ
low_of next m t low zero = low
low_of next m t low (suc k) = low_of next m (step_of next m t) (min (step_of next m t) low) k

-- the tasks from t on until the walk is at `low`, so many at most
unfoldable pub once_of : List ℕ → ℕ → ℕ → ℕ → ℕ → List ℕ
once_of next m t low zero = []
once_of next m t low (suc k) = t ∷ cond (eqb (step_of next m t) low) [] (once_of next m (step_of next m t) low k)

pub record Filled (ring : List ℕ) (answer : Round) : Type 0 where
  pub long : answer.length ≡ length ring
  pub places : answer.tasks ≡ ring ++ replicate (32 - length ring) 255
