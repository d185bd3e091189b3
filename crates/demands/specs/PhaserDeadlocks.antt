-- Source document 000, section 3.2, "Phaser Deadlocks", in its own names, over its states (M, T); and which of them a table stands for.
use Rattle.std.specs.Prelude.{◌≡◌, ◌⊎◌, ◌↔◌, true, List, ◌∷◌, ℕ, ◌<◌}
use Rattle.std.proofs.Math.Option.{some, none}
use Rattle.hall.specs.Rules.{Map, Phaser, PhaserMap, phasers_of}
use Rattle.hall.specs.Table.{state_at}
use Rattle.states.specs.State.{is_live}
use Rattle.hall.specs.Waiting.{BlockedOn}
use Rattle.states.specs.declared.state.Event.{Event}
use Rattle.hall.specs.declared.table.Table.{Table}

-- "A task map T maps task names to instruction sequences"; `other` is any instruction but the two awaits
pub data Instruction : Type 0 where
  await : ℕ → Instruction
  await_n : ℕ → ℕ → Instruction
  other : Instruction

abbrev pub TaskMap : Type 0
TaskMap = Map (List Instruction)

-- t ∈ dom(T)
abbrev pub InDom : TaskMap → ℕ → Type 0
InDom T t = (s : List Instruction) × (T t ≡ some s)

-- "M(p)(t) = n"
pub record At (M : PhaserMap) (p t n : ℕ) : Type 0 where
  pub phaser : Phaser
  pub there : M p ≡ some phaser
  pub phase : phaser t ≡ some n

-- "e < e'": (p, n) < (p, m) if n < m
abbrev pub Precedes : Event → Event → Type 0
Precedes e e' = (e.phaser.0 ≡ e'.phaser.0) × (e.phase.0 < e'.phase.0)

-- "Given a state S = (M, T), a task t ∈ T and an event e = (p, n), p ∈ dom(M), we define"
module _ (M : PhaserMap) (T : TaskMap) where
  -- "there exists s such that T(t) = await(p, n); s, or T(t) = await(p); s and M(p)(t) = n"
  abbrev pub Awaits : ℕ → Event → List Instruction → Type 0
  Awaits t e s =
      (T t ≡ some (await_n e.phaser.0 e.phase.0 ∷ s)) ⊎ ((T t ≡ some (await e.phaser.0 ∷ s)) × At M e.phaser.0 t e.phase.0)

  -- t WAIT-ON e
  pub record WaitOn (t : ℕ) (e : Event) : Type 0 where
    pub phaser : Phaser
    pub there : M e.phaser.0 ≡ some phaser
    pub s : List Instruction
    pub awaits : Awaits t e s

  -- t ASSOC e, "iff M(p)(t) = n"
  pub record Assoc (t : ℕ) (e : Event) : Type 0 where
    pub task : InDom T t
    pub at : At M e.phaser.0 t e.phase.0

  -- e IMPEDE-BY t, "iff t ASSOC e' such that e' < e and there exists a task t' where t' WAIT-ON e"
  pub record ImpedeBy (e : Event) (t : ℕ) : Type 0 where
    pub earlier : Event
    pub assoc : Assoc t earlier
    pub precedes : Precedes earlier e
    pub waiting : ℕ
    pub waits : WaitOn waiting e

  -- "In such a case, we also simply say e is impeded"
  abbrev pub Impeded : Event → Type 0
  Impeded e = (t : ℕ) × ImpedeBy e t

  -- definition 3.1: "A state (M, T) is totally deadlocked iff T ≠ ∅ and ∀t ∈ dom(T). ∃e ∈ dom(M) × N. (t WAIT-ON e ∧ e is impeded)"
  pub record TotallyDeadlockedState : Type 0 where
    pub task : ℕ
    pub some : InDom T task
    pub each : (t : ℕ) → InDom T t → (e : Event) × WaitOn t e × Impeded e

-- "X ⊎ Y for the disjoint union of X and Y"
pub record DisjointUnion (X Y Z : TaskMap) : Type 0 where
  pub apart : (t : ℕ) → (X t ≡ none) ⊎ (Y t ≡ none)
  pub left : (t : ℕ) → InDom X t → Z t ≡ X t
  pub right : (t : ℕ) → InDom Y t → Z t ≡ Y t
  pub all : (t : ℕ) → InDom Z t → InDom X t ⊎ InDom Y t

-- definition 3.2: "A state S = (M, T ⊎ T') is deadlocked on T iff the state (M, T) is totally deadlocked"; S is (M, all) here
pub record DeadlockedOn (M : PhaserMap) (all T : TaskMap) : Type 0 where
  pub rest : TaskMap
  pub union : DisjointUnion T rest all
  pub total : TotallyDeadlockedState M T

-- ---- the states that a table stands for
-- its open phasers are M's, its live tasks T's, and who is blocked on an event is who waits on it
pub record StandsFor (t : Table) (M : PhaserMap) (T : TaskMap) : Type 0 where
  pub phasers : M ≡ phasers_of t
  pub tasks : (k : ℕ) → InDom T k ↔ (is_live (state_at t k) ≡ true)
  pub waits : (k : ℕ) (e : Event) → WaitOn M T k e ↔ BlockedOn t k e

-- the state is deadlocked on some T that holds task k
pub record DeadlockedWith (M : PhaserMap) (all : TaskMap) (k : ℕ) : Type 0 where
  pub part : TaskMap
  pub deadlocked : DeadlockedOn M all part
  pub holds : InDom part k
