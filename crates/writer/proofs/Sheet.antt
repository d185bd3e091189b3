-- The parts of a sheet, one after the other: a head, a task's entry and its row, all tasks; and that none of them is long.
use mathlib.Core.Path.{◌≡◌, refl, sym, ap, ◌∙◌}
use mathlib.Core.Bool.{Bool, true, false, cond}
use mathlib.Core.List.{List, ◌++◌, append_assoc}
use Prim.Native.Nat.{ℕ, ◌+◌, ◌*◌, ◌≤◌, ◌<◌}
use native.Mathlib.Omega.{arith}
use lib.ListN.{length, length-append, get_or}
use Rattle.states.specs.State.{is_live, free_task, phase0}
use Rattle.states.specs.declared.state.State.{State}
use Rattle.hall.specs.Table.{state_at, open_at, member_at, phase_at}
use Rattle.hall.specs.declared.table.Table.{Table}
use Rattle.hall.proofs.Places.{state_in, open_in_lem, member_in, phase_in_lem}
use Rattle.fields.specs.Number.{number_bytes}
use Rattle.sheet.specs.Written.{count, gather, listed, state_bytes, member_bytes, task_bytes, live_at, sheet_of}
use Rattle.std.specs.List.{slice_range}
use Rattle.std.proofs.lemmas.List.Edits.{get_or-between}
use Rattle.sheet.proofs.Gather.{count_same, listed_same}
use Rattle.writer.specs.Parts.{Laid, flagged, live_in, if_there, entry_bytes, head_bytes, row_end}
use Rattle.writer.proofs.Putting.{number_short, state_short}
use Rattle.writer.proofs.Counting.{gather_next, gather_short}

-- how many, and each
pub listed_done : (f : ℕ → Bool) (g : ℕ → List ℕ) (n m many : ℕ) → m ≡ n → many ≡ count f n
    → number_bytes many ++ gather f g m ≡ listed f g n
unfolding listed
listed_done f g n m many q e = rw (q, e)

-- ---- lengths
three_short : (a b d : List ℕ) {k m n : ℕ} → length a ≤ k → length b ≤ m → length d ≤ n → length (a ++ (b ++ d)) ≤ k + (m + n)
three_short a b d h l j = rw (length-append a (b ++ d), length-append b d) (omega (arith, h, l, j))

listed_short : (f : ℕ → Bool) (g : ℕ → List ℕ) (m : ℕ) → ((i : ℕ) → length (g i) ≤ m) → (n : ℕ) → length (listed f g n) ≤ 10 + n * m
unfolding listed
listed_short f g m h n =
    rw (length-append (number_bytes (count f n)) (gather f g n)) (omega (arith, number_short (count f n), gather_short f g m h n))

pub head_short : (f : ℕ → Bool) (live : ℕ) → length (head_bytes f live) ≤ 190
head_short f live =
    three_short (number_bytes 1) (listed f number_bytes 16) (number_bytes live)
    (number_short 1) (listed_short f number_bytes 10 number_short 16) (number_short live)

there_short : (there : Bool) (b : List ℕ) {n : ℕ} → length b ≤ n → length (if_there there b) ≤ n
unfolding if_there
there_short true b h = h
there_short false b h = omega arith

-- so each of them ends soon
module _ {b b' : List ℕ} {at m : ℕ} where
  pub number_ends : (n : ℕ) → Laid b at (number_bytes n) b' m → m ≤ at + 10
  number_ends n g = omega (arith, g.place, number_short n)

  pub state_ends : (x : State) → Laid b at (state_bytes x) b' m → m ≤ at + 30
  state_ends x g = omega (arith, g.place, state_short x)

  pub open_ends : (there : Bool) (p : ℕ) → Laid b at (if_there there (number_bytes p)) b' m → m ≤ at + 10
  open_ends there p g = omega (arith, g.place, there_short there (number_bytes p) (number_short p))

  pub entry_ends : (k : ℕ) (x : State) (many : ℕ) → Laid b at (entry_bytes k x many) b' m → m ≤ at + 50
  entry_ends k x many g =
      let short = three_short (number_bytes k) (state_bytes x) (number_bytes many) (number_short k) (state_short x) (number_short many) in
      omega (arith, g.place, there_short (is_live x) (number_bytes k ++ (state_bytes x ++ number_bytes many)) short)

  pub member_ends : (there : Bool) (p n : ℕ) → Laid b at (if_there there (number_bytes p ++ number_bytes n)) b' m → m ≤ at + 20
  member_ends there p n g =
      let short : length (number_bytes p ++ number_bytes n) ≤ 20
      = rw (length-append (number_bytes p) (number_bytes n)) (omega (arith, number_short p, number_short n)) in
      omega (arith, g.place, there_short there (number_bytes p ++ number_bytes n) short)

pub row_within : (x : State) → row_end x ≤ 16
row_within x = go (is_live x)
  where
    go : (live : Bool) → cond live 16 0 ≤ 16
    go true = omega arith
    go false = omega arith

-- ---- parts
-- what stands last of three and what follows are one list
three_parts : (a b d e : List ℕ) {b' l : List ℕ} → b ≡ b' → d ++ e ≡ l → (a ++ (b ++ d)) ++ e ≡ a ++ (b' ++ l)
three_parts a b d e p q = rw (← p, ← q) (append_assoc a (b ++ d) e ∙ ap (λ (r : List ℕ). a ++ r) (append_assoc b d e))

-- a live task's entry and its whole row; of a free task neither
entry_row : (f : ℕ → Bool) (g : ℕ → List ℕ) (number state : List ℕ) (n end many : ℕ) → many ≡ count f n → (live : Bool)
    → end ≡ cond live n 0
    → if_there live (number ++ (state ++ number_bytes many)) ++ gather f g end ≡ if_there live (number ++ (state ++ listed f g n))
unfolding if_there
entry_row f g number state n end many e true q =
    three_parts number state (number_bytes many) (gather f g end) refl (listed_done f g n end many q e)
entry_row f g number state n end many e false q = rw q

-- a phaser of the head more
pub opens_next : (opened : List Bool) (p : ℕ)
    → gather (flagged opened) number_bytes p ++ if_there (get_or opened p false) (number_bytes p) ≡ gather (flagged opened) number_bytes (p + 1)
opens_next opened p = gather_next (flagged opened) number_bytes p

module _ (t : Table) where
  -- as many as the code counts
  pub members_same : (k : ℕ) → k < 32 → count (flagged (slice_range t.members (k * 16) (k * 16 + 16))) 16 ≡ count (member_at t k) 16
  members_same k h =
      count_same _ _ 16 (λ p l. get_or-between t.members (k * 16) (k * 16 + 16) p false (omega arith) ∙ sym (member_in t k p h l))

  -- a phaser more, its entry looked up at whatever place is that of task and phaser
  pub member_read : (k p i : ℕ) → i ≡ k * 16 + p → k < 32 → p < 16 → get_or t.members i false ≡ member_at t k p
  member_read k p i q h l = rw q (sym (member_in t k p h l))

  pub phase_read : (k p i : ℕ) → i ≡ k * 16 + p → k < 32 → p < 16 → (get_or t.phases i phase0).0 ≡ phase_at t k p
  phase_read k p i q h l = rw q (sym (phase_in_lem t k p h l))

  pub row_next : (k p : ℕ) (there : Bool) (n : ℕ) → there ≡ member_at t k p → n ≡ phase_at t k p
      → gather (member_at t k) (member_bytes t k) p ++ if_there there (number_bytes p ++ number_bytes n)
      ≡ gather (member_at t k) (member_bytes t k) (p + 1)
  row_next k p there n e q = rw (e, q) (gather_next (member_at t k) (member_bytes t k) p)

  -- a task more
  pub task_next : (k many end : ℕ) (x : State) → k < 32 → many ≡ count (member_at t k) 16 → (get_or t.tasks k free_task).state ≡ x → end ≡ row_end x
      → gather (live_at t) (task_bytes t) k ++ (entry_bytes k x many ++ gather (member_at t k) (member_bytes t k) end)
      ≡ gather (live_at t) (task_bytes t) (k + 1)
  task_next k many end x h e s q =
      let state : state_at t k ≡ x = state_in t k h ∙ s in
      rw (
        ← state,
        entry_row (member_at t k) (member_bytes t k) (number_bytes k) (state_bytes (state_at t k)) 16 end many e
            (live_at t k) (rw state q),
      )
      (gather_next (live_at t) (task_bytes t) k)

  -- all of them
  pub sheet_done : (live k : ℕ) → k ≡ 32 → live ≡ count (live_in t.tasks) 32
      → head_bytes (flagged t.opened) live ++ gather (live_at t) (task_bytes t) k ≡ sheet_of t
  unfolding sheet_of
  sheet_done live k q e =
      let opens = listed_same (flagged t.opened) (open_at t) number_bytes number_bytes 16 open_read (λ p h b. refl) in
      let lives = e ∙ count_same (live_in t.tasks) (live_at t) 32 (λ i h. ap is_live (sym (state_in t i h))) in
      let tasks = listed_done (live_at t) (task_bytes t) 32 k live q lives in
      three_parts (number_bytes 1) (listed (flagged t.opened) number_bytes 16) (number_bytes live) (gather (live_at t) (task_bytes t) k) opens tasks
    where
      open_read : (p : ℕ) → p < 16 → flagged t.opened p ≡ open_at t p
      open_read p h = sym (open_in_lem t p h)
