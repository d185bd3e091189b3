-- The ring (document 01, 'Stuck', last paragraph), over any named tasks and any edges between them.
use Rattle.std.specs.Prelude.{◌≡◌, Bool, true, false, Option, None, Some, List, [], ◌++◌, ℕ, suc, ◌+◌, ◌-◌, ◌<◌, length, get_or, replicate}
use Rattle.sets.specs.Set.{Least}
use Rattle.deadlock.specs.declared.ring.Round.{Round}

module _ (Named : ℕ → Type 0) (Edge : ℕ → ℕ → Type 0) where
  -- "step always to the lowest named task" that has an edge from t
  abbrev pub Step : ℕ → ℕ → Type 0
  Step t u = Least (λ v. Named v × Edge t v) u

  -- "begin at the lowest named task; step always .."
  pub record RingWalk (walk : ℕ → ℕ) : Type 0 where
    pub starts : Least Named (walk 0)
    pub steps : (k : ℕ) → Step (walk k) (walk (suc k))

  -- "the part that repeats, turned so that its lowest number stands first": from some place on the walk goes through r, is then back at its first,
  -- and that is below all others
  pub record Ring (r : List ℕ) : Type 0 where
    pub walk : ℕ → ℕ
    pub walks : RingWalk walk
    pub from : ℕ
    pub some : 0 < length r
    pub here : (i : ℕ) → i < length r → get_or r i 0 ≡ walk (from + i)
    pub back : walk (from + length r) ≡ walk from
    pub lowest : (i : ℕ) → 0 < i → i < length r → walk from < walk (from + i)

  -- "the ring walk finds no named task to step to" (answer 22): after so many steps it is at a task with no edge to a named one
  pub record DeadEnd : Type 0 where
    pub walk : ℕ → ℕ
    pub after : ℕ
    pub starts : Least Named (walk 0)
    pub steps : (k : ℕ) → k < after → Step (walk k) (walk (suc k))
    pub none : (u : ℕ) → Named u → Edge (walk after) u → ⊥

  -- what the walk comes to, and whether it always found a task to step to
  pub data Comes : Bool → List ℕ → Type 0 where
    nobody : ((t : ℕ) → Named t → ⊥) → Comes true []
    round : {r : List ℕ} → Ring r → Comes true r
    stops : DeadEnd → Comes false []

  -- "the ring's length; the ring's task numbers, filled up to 32 places with 255"
  pub record Shown (answer : Round) : Type 0 where
    pub ring : List ℕ
    pub comes : Comes true ring
    pub long : answer.length ≡ length ring
    pub places : answer.tasks ≡ ring ++ replicate (32 - length ring) 255

  -- the ring of the walk, or none where it does not always find a task to step to
  abbrev pub RingIn : Option Round → Type 0
  RingIn None = Comes false []
  RingIn (Some answer) = Shown answer

-- edges kept as one number for each of 32 tasks: from t to the number at place t
abbrev pub Next : List ℕ → ℕ → ℕ → Type 0
Next next t u = (t < 32) × (u ≡ get_or next t 0)
