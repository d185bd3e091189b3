-- Document 00: calls move the table by the paper's rules "within the limits, additions and one narrowing that document 01 states". What is asked beside a
-- rule.
use Rattle.std.specs.Prelude.{◌≡◌, true, false, ℕ, ◌<◌}
use Rattle.std.proofs.Math.Option.{Option, some, none}
use Rattle.states.specs.Waiting.{Awaited}
use Rattle.states.specs.declared.state.State.TheVariants.{Free, Running}
use Rattle.hall.specs.Rules.{put, Phaser, PhaserMap, Await}
use Rattle.hall.specs.Sound.{Sound}
use Rattle.hall.specs.Table.{state_at, open_at, member_at}
use Rattle.hall.specs.Waiting.{BlockedOn}
use Rattle.hall.specs.declared.table.Table.{Table}

-- the table is sound (44) and the caller runs (10, 12)
abbrev pub Runs : Table → ℕ → Type 0
Runs t a = Sound t × (state_at t a ≡ Running)

-- "lowest free number", of thirty-two (16)
abbrev pub LowestFree : Table → ℕ → Type 0
LowestFree t k = (k < 32) × (state_at t k ≡ Free) × ((j : ℕ) → j < k → state_at t j ≡ Free → ⊥)

-- "lowest unopened number", of sixteen (16)
abbrev pub LowestUnopened : Table → ℕ → Type 0
LowestUnopened t q = (q < 16) × ((r : ℕ) → r < q → open_at t r ≡ true)

-- the phaser is open (11), has no member, and nobody is blocked on it (19)
abbrev pub Unused : Table → ℕ → Type 0
Unused t p = (open_at t p ≡ true) × ((k : ℕ) → member_at t k p ≡ false) × ((k : ℕ) (e : Awaited) → BlockedOn t k e → e.phaser.0 ≡ p → ⊥)

-- "leaves every phaser": the map without task a
abbrev pub leaving : ℕ → Option Phaser → Option Phaser
leaving a none = none
leaving a (some P) = some (put P a none)

abbrev pub without : ℕ → PhaserMap → PhaserMap
without a M p = leaving a (M p)

-- [await-n] can't step: the phaser is there, and not every member has phase n
abbrev pub Behind : PhaserMap → ℕ → ℕ → Type 0
Behind M p n = (P : Phaser) × (M p ≡ some P) × (Await P n → ⊥)

-- [await] can't step, since [await-n] can't at the caller's phase
abbrev pub BehindOwn : PhaserMap → ℕ → ℕ → Type 0
BehindOwn M a p = (P : Phaser) × (n : ℕ) × (M p ≡ some P) × (P a ≡ some n) × Behind M p n
