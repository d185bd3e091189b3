-- Figure 3 of source document 000: "Phasers", and the rules of "States" that act on phasers, in the paper's names.
use Rattle.std.specs.Prelude.{◌≡◌, cond, ℕ, ◌+◌, ◌≤◌, eqb}
use Rattle.std.proofs.Math.Option.{Option, some, none}
use Rattle.hall.specs.Table.{open_at, member_at, phase_at}
use Rattle.hall.specs.declared.table.Table.{Table}

-- X with v at k
abbrev pub put : {A : Type 0} → (ℕ → A) → ℕ → A → ℕ → A
put X k v j = cond (eqb j k) v (X j)

-- a map, as a partial function; `put X k (some v)` is X ⊎ {k : v} where X has no k, and `put X k none` is X without k
abbrev pub Map : Type 0 → Type 0
Map A = ℕ → Option A

-- "P denote a phaser that maps task names to local phases"; "a phaser map M .. from phasers names to phasers"
abbrev pub Phaser : Type 0
Phaser = Map ℕ

abbrev pub PhaserMap : Type 0
PhaserMap = Map Phaser

-- await(P, n): "every member of the phaser has a local phase of at least n"
abbrev pub Await : Phaser → ℕ → Type 0
Await P n = (t m : ℕ) → P t ≡ some m → n ≤ m

-- [add]: P -reg(t, n)→ P ⊎ {t : n} if ∃t': P(t') ≤ n
pub record Add (t n : ℕ) (P P' : Phaser) : Type 0 where
  pub fresh : P t ≡ none
  pub other : ℕ
  pub phase : ℕ
  pub there : P other ≡ some phase
  pub least : phase ≤ n
  pub next : P' ≡ put P t (some n)

-- [drop]: P ⊎ {t : n} -dereg(t)→ P
pub record Drop (t : ℕ) (P P' : Phaser) : Type 0 where
  pub phase : ℕ
  pub there : P t ≡ some phase
  pub next : P' ≡ put P t none

-- [adv]: P ⊎ {t : n} -arrv(t)→ P ⊎ {t : n + 1}
pub record Adv (t : ℕ) (P P' : Phaser) : Type 0 where
  pub phase : ℕ
  pub there : P t ≡ some phase
  pub next : P' ≡ put P t (some (phase + 1))

-- [add-p]: M -p := P→ M ⊎ {p : P}
pub record AddP (p : ℕ) (P : Phaser) (M M' : PhaserMap) : Type 0 where
  pub fresh : M p ≡ none
  pub next : M' ≡ put M p (some P)

-- [upd]: M ⊎ {p : P} -p.φ→ M ⊎ {p : P'} if P -φ→ P'
pub record Upd (φ : Phaser → Phaser → Type 0) (p : ℕ) (M M' : PhaserMap) : Type 0 where
  pub phaser : Phaser
  pub there : M p ≡ some phaser
  pub after : Phaser
  pub does : φ phaser after
  pub next : M' ≡ put M p (some after)

-- [new-p]: M -q := P→ M' with P = {t : 0}
abbrev pub NewP : ℕ → ℕ → PhaserMap → PhaserMap → Type 0
NewP t q M M' = AddP q (put (λ u. none) t (some 0)) M M'

-- [reg]: M(p)(t') = n and M -p.reg(t, n)→ M'
pub record Reg (t' t p : ℕ) (M M' : PhaserMap) : Type 0 where
  pub phaser : Phaser
  pub there : M p ≡ some phaser
  pub phase : ℕ
  pub caller : phaser t' ≡ some phase
  pub does : Upd (Add t phase) p M M'

-- [dereg]: M -p.dereg(t)→ M'
abbrev pub Dereg : ℕ → ℕ → PhaserMap → PhaserMap → Type 0
Dereg t p M M' = Upd (Drop t) p M M'

-- [arrv]: M -p.arrv(t)→ M'
abbrev pub Arrv : ℕ → ℕ → PhaserMap → PhaserMap → Type 0
Arrv t p M M' = Upd (Adv t) p M M'

-- [await-n]: M(p) = P and await(P, n); M stays
pub record AwaitN (p n : ℕ) (M : PhaserMap) : Type 0 where
  pub phaser : Phaser
  pub there : M p ≡ some phaser
  pub all : Await phaser n

-- [await]: M(p)(t) = n, and as [await-n]
pub record AwaitOwn (t p : ℕ) (M : PhaserMap) : Type 0 where
  pub phaser : Phaser
  pub there : M p ≡ some phaser
  pub phase : ℕ
  pub caller : phaser t ≡ some phase
  pub goes : AwaitN p phase M

-- ---- what a table stands for
-- its phaser p: the members with their phases
unfoldable pub phaser_of : Table → ℕ → Phaser
phaser_of t p u = cond (member_at t u p) (some (phase_at t u p)) none

-- its phaser map: the open phasers
unfoldable pub phasers_of : Table → PhaserMap
phasers_of t p = cond (open_at t p) (some (phaser_of t p)) none
