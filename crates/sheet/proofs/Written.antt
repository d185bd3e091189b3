-- Reading the sheet of a sound table gives that table.
use Prim.Native.Nat.{ℕ, zero, suc, ◌+◌, ◌*◌, ◌≤◌, ◌<◌}
use mathlib.Core.Path.{◌≡◌, refl, sym, ap, ◌∙◌}
use mathlib.Core.List.{List, [], ◌++◌, append_assoc, append-nil}
use mathlib.Core.Bool.{Bool, true, false}
use native.Mathlib.Omega.{arith}
use lib.ListN.{length, get_or, set, take, drop, replicate, length-append, length-replicate, drop_of_length-le}
use lib.Seq.{take_all, take-suc, drop-cons, drop-drop, drop-append_seam, length-take-le, set_at}
use borrow.Author.Tests.{le-ltb}
use Rattle.states.specs.State.{largest_phase, phase0, free_task, event, is_live}
use Rattle.hall.specs.Table.{state_at, open_at, member_at, phase_at, entry_of, Shaped}
use Rattle.hall.specs.Effects.{with_state, with_entry}
use Rattle.hall.specs.Sound.{Sound}
use Rattle.states.specs.declared.state.State.{State}
use Rattle.states.specs.declared.state.State.TheVariants.{Free, Running, Blocked}
use Rattle.hall.specs.declared.table.Table.{Table}
use Rattle.states.proofs.Truth.{clash}
use Rattle.hall.proofs.Places.{state_in, open_in_lem, member_in, phase_in_lem, open_below}
use Rattle.hall.proofs.Soundness.{get_d_all}
use Rattle.fields.specs.Got.{Got, value, refused, onward, times, Rising, rising, each}
use Rattle.fields.specs.Number.{number_at, number_bytes}
use Rattle.sheet.specs.Head.{open_step, opens_at, count_at, lists_at, head_at}
use Rattle.sheet.specs.Entry.{phase_on, event_at, blocked_at, state_on, count_on, entry_on, entry_at}
use Rattle.sheet.specs.Reader.{member_step, members_at, task_step, no_tasks, tasks_at, entries_at, table_at}
use Rattle.sheet.specs.Written.{count, gather, listed, state_bytes, member_bytes, task_bytes, live_at, sheet_of}
use Rattle.sheet.proofs.Numbers.{any_number, read_plain, read_number, read_rising}
use Rattle.sheet.proofs.Gather.{count_le}
use Rattle.sheet.proofs.Tables.{absent}

-- ---- the first i of xs, and of ys the others
abbrev mix : {A : Type 0} → ℕ → List A → List A → List A
mix i xs ys = take i xs ++ drop i ys

module _ {A : Type 0} (d : A) (xs ys : List A) (long : length xs ≡ length ys) where
  mix_set : (i : ℕ) {x : A} → x ≡ get_or xs i d → i < length xs → set (mix i xs ys) i x ≡ mix (suc i) xs ys
  mix_set i e h =
      let l : i < length ys = omega arith in
      rw (
        e,
        drop-cons ys i d l,
        set_at (take i xs) (get_or ys i d) (drop (suc i) ys) (get_or xs i d) i (length-take-le i xs (omega arith)),
        take-suc xs i d h,
        append_assoc,
      )

  mix_skip : (i : ℕ) → i < length xs → get_or xs i d ≡ get_or ys i d → mix i xs ys ≡ mix (suc i) xs ys
  mix_skip i h e =
      let l : i < length ys = omega arith in
      rw (drop-cons ys i d l, take-suc xs i d h, append_assoc, e)

  mix_all : (i : ℕ) → length xs ≤ i → mix i xs ys ≡ xs
  mix_all i h = rw (take_all i xs h, drop_of_length-le ys {i = i} (omega arith), append-nil)

-- one step more, at the end
module _ {A : Type 0} (f : A → ℕ → Got A) where
  last_none : (g : Got A) → onward g (λ b mid. value b mid) ≡ g
  last_none (value b mid) = refl
  last_none (refused n) = refl

  last_more : (n : ℕ) (g : Got A) → ((b : A) (mid : ℕ) → times f (n + 1) b mid ≡ onward (times f n b mid) f)
      → onward g (times f (n + 1)) ≡ onward (onward g (times f n)) f
  last_more n (value b mid) h = h b mid
  last_more n (refused m) h = refl

  times_last : (n : ℕ) (a : A) (at : ℕ) → times f (n + 1) a at ≡ onward (times f n a at) f
  times_last zero a at = last_none (f a at)
  times_last (suc n) a at = let z : suc n + 1 ≡ suc (n + 1) = omega arith in rw z (last_more n (f a at) (times_last n))

-- how many, and all of them: shut, since a count up to 16 grows large where it unfolds
many : (ℕ → Bool) → ℕ → ℕ
many F N = count F N

whole : (ℕ → Bool) → (ℕ → List ℕ) → ℕ → List ℕ
whole F G N = gather F G N

many_few : (F : ℕ → Bool) (N : ℕ) → many F N ≤ N
unfolding many
many_few F N = count_le F N

list_parts : (F : ℕ → Bool) (G : ℕ → List ℕ) (N : ℕ) → listed F G N ≡ number_bytes (many F N) ++ whole F G N
unfolding listed many whole
list_parts F G N = refl

module _ (s : List ℕ) where
  behind : (at : ℕ) (a b : List ℕ) → drop at s ≡ a ++ b → drop (at + length a) s ≡ b
  behind at a b e = sym (drop-drop (length a) at s) ∙ ap (drop (length a)) e ∙ drop-append_seam a b

  -- ---- a rising list that stands on the sheet is read: what is read so far goes from X 0 to X N
  module _ {A : Type 0} (f : Rising A → ℕ → Got (Rising A)) (F : ℕ → Bool) (G : ℕ → List ℕ) (X : ℕ → A) (N : ℕ)
      (step : (i at floor : ℕ) (rest : List ℕ) → i < N → F i ≡ true → floor ≤ i → drop at s ≡ G i ++ rest
      → f (rising floor (X i)) at ≡ value (rising (i + 1) (X (suc i))) (at + length (G i)))
      (skip : (i : ℕ) → i < N → F i ≡ false → X i ≡ X (suc i)) where
    -- those below j are read
    abbrev Reached : ℕ → ℕ → Type 0
    Reached at j = (floor : ℕ) × (floor ≤ j) × (times f (count F j) (rising 0 (X 0)) at ≡ value (rising floor (X j)) (at + length (gather F G j)))

    run : (at j : ℕ) → j ≤ N → (rest : List ℕ) → drop at s ≡ gather F G j ++ rest → Reached at j
    run at zero h rest e = (0, omega arith, let z : at + 0 ≡ at = omega arith in rw z)
    run at (suc j) h rest e = go (F j) refl (run at j (omega arith))
      where
        go : (b : Bool) → F j ≡ b → ((rest : List ℕ) → drop at s ≡ gather F G j ++ rest → Reached at j) → Reached at (suc j)
        go true x ih =
            let g = gather F G j in
            let e1 : drop at s ≡ g ++ (G j ++ rest) = (rw x at e) ∙ append_assoc g (G j) rest in
            let r = ih (G j ++ rest) e1 in
            let w : at + length g + length (G j) ≡ at + length (g ++ G j) = omega (arith, length-append g (G j)) in
            let last = step j (at + length g) r.0 rest (omega arith) x r.1 (behind at g (G j ++ rest) e1) in
            (j + 1, omega arith, rw (x, times_last f (count F j) (rising 0 (X 0)) at, r.2, last, w))
        go false x ih =
            let r = ih rest (rw x at e) in
            (r.0, omega (arith, r.1), rw (x, ← skip j (omega arith) x) r.2)

    read_each : (at : ℕ) (rest : List ℕ) → drop at s ≡ whole F G N ++ rest → each f (many F N) (X 0) at ≡ value (X N) (at + length (whole F G N))
    unfolding each many whole
    read_each at rest e = rw (run at N (omega arith) rest e).2

    read_list : (m at : ℕ) (rest : List ℕ) → N ≤ m → m ≤ any_number → drop at s ≡ listed F G N ++ rest
        → onward (number_at s m at) (λ n first. each f n (X 0) first) ≡ value (X N) (at + length (listed F G N))
    read_list m at rest l a e =
        let n = number_bytes (many F N) in
        let g = whole F G N in
        let e1 : drop at s ≡ n ++ (g ++ rest) = (rw (list_parts F G N) at e) ∙ append_assoc n g rest in
        let w : at + length n + length g ≡ at + length (n ++ g) = omega (arith, length-append n g) in
        rw (
          list_parts F G N,
          read_number (many F N) s at (g ++ rest) e1 m a (omega (arith, many_few F N)),
          read_each (at + length n) rest (behind at n (g ++ rest) e1),
          w,
        )

-- ---- a sound table, and a sheet on which it stands
module _ (t : Table) (h : Sound t) (sh : Shaped t) (s : List ℕ) where
  -- the first j tasks of t, and its entries before that of task k and phaser p
  up_to : ℕ → ℕ → ℕ → Table
  up_to j k p = record {
    tasks = mix j t.tasks (replicate 32 free_task);
    opened = t.opened;
    phases = mix (k * 16 + p) t.phases (replicate 512 phase0);
    members = mix (k * 16 + p) t.members (replicate 512 false);
  }

  same_tasks : length t.tasks ≡ length (replicate 32 free_task)
  same_tasks = sh.tasks ∙ sym (length-replicate 32 free_task)

  same_phases : length t.phases ≡ length (replicate 512 phase0)
  same_phases = sh.phases ∙ sym (length-replicate 512 phase0)

  same_members : length t.members ≡ length (replicate 512 false)
  same_members = sh.members ∙ sym (length-replicate 512 false)

  read_event : (p n floor at : ℕ) (rest : List ℕ) → open_at t p ≡ true → n ≤ largest_phase → floor ≤ p
      → drop at s ≡ (number_bytes p ++ number_bytes n) ++ rest
      → event_at s t.opened floor at ≡ value (event p n) (at + length (number_bytes p ++ number_bytes n))
  unfolding event_at phase_on
  read_event p n floor at rest o l f e =
      let e1 : drop at s ≡ number_bytes p ++ (number_bytes n ++ rest) = e ∙ append_assoc (number_bytes p) (number_bytes n) rest in
      let i = open_below t p o in
      let w : at + length (number_bytes p) + length (number_bytes n) ≡ at + length (number_bytes p ++ number_bytes n) =
      omega (arith, length-append (number_bytes p) (number_bytes n)) in
      rw (
        read_rising p s at (number_bytes n ++ rest) e1 15 floor (omega arith) (omega arith) f,
        sym (open_in_lem t p i) ∙ o,
        read_number n s (at + length (number_bytes p)) rest (behind s at (number_bytes p) (number_bytes n ++ rest) e1) largest_phase (omega arith) l,
        w,
      )

  module _ (k : ℕ) (hk : k < 32) where
    -- ---- its memberships
    phase_flat : (p : ℕ) → p < 16 → record { 0 = phase_at t k p } ≡ get_or t.phases (k * 16 + p) phase0
    phase_flat p l = ap (λ (n : ℕ). record { 0 = n }) (phase_in_lem t k p hk l)

    joined : (p : ℕ) → p < 16 → member_at t k p ≡ true → with_entry (up_to (suc k) k p) k p (entry_of true (phase_at t k p)) ≡ up_to (suc k) k (suc p)
    unfolding up_to with_entry
    joined p l m =
        let i = k * 16 + p in
        let z : k * 16 + suc p ≡ suc (k * 16 + p) = omega arith in
        let x = mix_set phase0 t.phases (replicate 512 phase0) same_phases i (phase_flat p l) (omega (arith, sh.phases)) in
        let y = mix_set false t.members (replicate 512 false) same_members i (sym m ∙ member_in t k p hk l) (omega (arith, sh.members)) in
        rw (z, x, y)

    passed : (p : ℕ) → p < 16 → member_at t k p ≡ false → up_to (suc k) k p ≡ up_to (suc k) k (suc p)
    unfolding up_to
    passed p l m =
        let i = k * 16 + p in
        let z : k * 16 + suc p ≡ suc (k * 16 + p) = omega arith in
        let n : get_or t.phases i phase0 ≡ phase0 = sym (phase_flat p l) ∙ ap (λ (n : ℕ). record { 0 = n }) (h.no_member k p m) in
        let x = mix_skip phase0 t.phases (replicate 512 phase0) same_phases i (omega (arith, sh.phases)) (n ∙ sym (get_d_all 512 i phase0)) in
        let y = mix_skip false t.members (replicate 512 false) same_members i (omega (arith, sh.members))
        (sym (member_in t k p hk l) ∙ m ∙ sym (get_d_all 512 i false)) in
        rw (z, x, y)

    all_passed : (p : ℕ) → p ≤ 16 → ((q : ℕ) → member_at t k q ≡ false) → up_to (suc k) k 0 ≡ up_to (suc k) k p
    all_passed zero l m = refl
    all_passed (suc p) l m = all_passed p (omega arith) m ∙ passed p (omega arith) (m p)

    read_member : (p at floor : ℕ) (rest : List ℕ) → p < 16 → member_at t k p ≡ true → floor ≤ p → drop at s ≡ member_bytes t k p ++ rest
        → member_step s t.opened k (rising floor (up_to (suc k) k p)) at ≡ value (rising (p + 1) (up_to (suc k) k (suc p))) (at + length (member_bytes t k p))
    unfolding member_step
    read_member p at floor rest l m f e =
        rw (read_event p (phase_at t k p) floor at rest (h.open_member k p m) (h.kept k p) f e, joined p l m)

    -- ---- its state
    state_flat : record { state = state_at t k } ≡ get_or t.tasks k free_task
    state_flat = ap (λ (x : State). record { state = x }) (state_in t k hk)

    stated : with_state (up_to k k 0) k (state_at t k) ≡ up_to (suc k) k 0
    unfolding up_to with_state
    stated = rw (mix_set free_task t.tasks (replicate 32 free_task) same_tasks k state_flat (omega (arith, sh.tasks)))

    free : (x : State) → is_live x ≡ false → x ≡ Free
    free Free e = refl
    free Running e = absurd (clash refl e)
    free (Blocked v) e = absurd (clash refl e)

    unstated : live_at t k ≡ false → up_to k k 0 ≡ up_to (suc k) k 0
    unfolding up_to
    unstated l =
        let e : get_or t.tasks k free_task ≡ free_task = sym state_flat ∙ ap (λ (x : State). record { state = x }) (free (state_at t k) l) in
        rw (mix_skip free_task t.tasks (replicate 32 free_task) same_tasks k (omega (arith, sh.tasks)) (e ∙ sym (get_d_all 32 k free_task)))

    read_state : (x : State) (at : ℕ) (rest : List ℕ) → state_at t k ≡ x → is_live x ≡ true → drop at s ≡ state_bytes x ++ rest
        → state_on s t.opened at ≡ value x (at + length (state_bytes x))
    unfolding state_on blocked_at
    read_state Free at rest x l e = absurd (clash l refl)
    read_state Running at rest x l e = rw (read_plain 0 s at rest e (omega arith))
    read_state (Blocked v) at rest x l e =
        let b = number_bytes v.phaser.0 ++ number_bytes v.phase.0 in
        let e1 : drop at s ≡ number_bytes 1 ++ (b ++ rest) = e ∙ append_assoc (number_bytes 1) b rest in
        let w : at + length (number_bytes 1) + length b ≡ at + length (number_bytes 1 ++ b) = omega (arith, length-append (number_bytes 1) b) in
        rw (
          read_plain 1 s at (b ++ rest) e1 (omega arith),
          read_event v.phaser.0 v.phase.0 0 (at + length (number_bytes 1)) rest
              (h.open_awaited k v x) (h.awaited k v x) (omega arith) (behind s at (number_bytes 1) (b ++ rest) e1),
          w,
        )

    -- ---- number, state, how many memberships, and each
    next_task : up_to (suc k) k 16 ≡ up_to (suc k) (suc k) 0
    unfolding up_to
    next_task = let z : suc k * 16 + 0 ≡ k * 16 + 16 = omega arith in rw z

    read_task : (at floor : ℕ) (rest : List ℕ) → live_at t k ≡ true → floor ≤ k → drop at s ≡ task_bytes t k ++ rest
        → task_step s t.opened (rising floor (up_to k k 0)) at ≡ value (rising (k + 1) (up_to (suc k) (suc k) 0)) (at + length (task_bytes t k))
    unfolding task_step entry_at entry_on count_on members_at
    read_task at floor rest l f e =
        let n = number_bytes k in
        let x = state_bytes (state_at t k) in
        let c = number_bytes (many (member_at t k) 16) in
        let m = whole (member_at t k) (member_bytes t k) 16 in
        let e1 : drop at s ≡ n ++ (x ++ (c ++ (m ++ rest))) = (rw (list_parts (member_at t k) (member_bytes t k) 16) at e) ∙ simp append_assoc in
        let e2 = behind s at n (x ++ (c ++ (m ++ rest))) e1 in
        let e3 = behind s (at + length n) x (c ++ (m ++ rest)) e2 in
        let e4 = behind s (at + length n + length x) c (m ++ rest) e3 in
        let w : at + length n + length x + length c + length m ≡ at + length (n ++ (x ++ (c ++ m))) =
        rw (length-append n (x ++ (c ++ m)), length-append x (c ++ m), length-append c m) (omega arith) in
        rw (
          list_parts (member_at t k) (member_bytes t k) 16,
          read_rising k s at (x ++ (c ++ (m ++ rest))) e1 31 floor (omega arith) (omega arith) f,
          read_state (state_at t k) (at + length n) (c ++ (m ++ rest)) refl l e2,
          read_number (many (member_at t k) 16) s (at + length n + length x) (m ++ rest) e3 16 (omega arith) (many_few (member_at t k) 16),
          stated,
          read_each s (member_step s t.opened k) (member_at t k) (member_bytes t k) (up_to (suc k) k) 16 read_member passed
              (at + length n + length x + length c) rest e4,
          next_task,
          w,
        )

    task_passed : live_at t k ≡ false → up_to k k 0 ≡ up_to (suc k) (suc k) 0
    task_passed l = unstated l ∙ all_passed 16 (omega arith) (absent t h k l) ∙ next_task

  -- ---- the tasks
  none_yet : no_tasks t.opened ≡ up_to 0 0 0
  unfolding up_to
  none_yet = refl

  all_tasks : up_to 32 32 0 ≡ t
  unfolding up_to
  all_tasks =
      rw (
        mix_all free_task t.tasks (replicate 32 free_task) same_tasks 32 (omega (arith, sh.tasks)),
        mix_all phase0 t.phases (replicate 512 phase0) same_phases 512 (omega (arith, sh.phases)),
        mix_all false t.members (replicate 512 false) same_members 512 (omega (arith, sh.members)),
      )

  abbrev tasks : List ℕ
  tasks = whole (live_at t) (task_bytes t) 32

  read_tasks : (at : ℕ) (rest : List ℕ) → drop at s ≡ tasks ++ rest
      → tasks_at s (record { version = 1; opened = t.opened; count = many (live_at t) 32 }) at ≡ value t (at + length tasks)
  unfolding tasks_at
  read_tasks at rest e =
      rw none_yet
      (read_each s (task_step s t.opened) (live_at t) (task_bytes t) (λ k. up_to k k 0) 32
      (λ k at floor rest hk. read_task k hk at floor rest) task_passed at rest e)
      ∙ ap (λ u. value u (at + length tasks)) all_tasks

  -- ---- the head
  open_up_to : ℕ → List Bool
  open_up_to p = mix p t.opened (replicate 16 false)

  same_opened : length t.opened ≡ length (replicate 16 false)
  same_opened = sh.opened ∙ sym (length-replicate 16 false)

  read_open : (p at floor : ℕ) (rest : List ℕ) → p < 16 → open_at t p ≡ true → floor ≤ p → drop at s ≡ number_bytes p ++ rest
      → open_step s (rising floor (open_up_to p)) at ≡ value (rising (p + 1) (open_up_to (suc p))) (at + length (number_bytes p))
  unfolding open_step open_up_to
  read_open p at floor rest l o f e =
      let y = mix_set false t.opened (replicate 16 false) same_opened p (sym o ∙ open_in_lem t p l) (omega (arith, sh.opened)) in
      rw (read_rising p s at rest e 15 floor (omega arith) (omega arith) f, y)

  open_passed : (p : ℕ) → p < 16 → open_at t p ≡ false → open_up_to p ≡ open_up_to (suc p)
  unfolding open_up_to
  open_passed p l o =
      mix_skip false t.opened (replicate 16 false) same_opened p (omega (arith, sh.opened)) (sym (open_in_lem t p l) ∙ o ∙ sym (get_d_all 16 p false))

  none_open : replicate 16 false ≡ open_up_to 0
  unfolding open_up_to
  none_open = refl

  all_open : open_up_to 16 ≡ t.opened
  unfolding open_up_to
  all_open = mix_all false t.opened (replicate 16 false) same_opened 16 (omega (arith, sh.opened))

  abbrev opens : List ℕ
  opens = listed (open_at t) number_bytes 16

  read_opens : (at : ℕ) (rest : List ℕ) → drop at s ≡ opens ++ rest → opens_at s at ≡ value t.opened (at + length opens)
  unfolding opens_at
  read_opens at rest e =
      rw none_open
      (read_list s (open_step s) (open_at t) number_bytes open_up_to 16 read_open open_passed 16 at rest (omega arith) (omega arith) e
      ∙ ap (λ o. value o (at + length opens)) all_open)

  -- ---- version, open phasers, how many tasks, and each
  parts : sheet_of t ≡ number_bytes 1 ++ (opens ++ (number_bytes (many (live_at t) 32) ++ tasks))
  unfolding sheet_of
  parts = rw (list_parts (live_at t) (task_bytes t) 32)

  read_sheet : s ≡ sheet_of t → table_at s ≡ value t (length s)
  unfolding table_at head_at lists_at count_at entries_at
  read_sheet e =
      let v = number_bytes 1 in
      let o = opens in
      let n = number_bytes (many (live_at t) 32) in
      let g = tasks in
      let e0 : drop 0 s ≡ v ++ (o ++ (n ++ (g ++ []))) = e ∙ parts ∙ rw (append-nil g) in
      let e1 = behind s 0 v (o ++ (n ++ (g ++ []))) e0 in
      let e2 = behind s (0 + length v) o (n ++ (g ++ [])) e1 in
      let e3 = behind s (0 + length v + length o) n (g ++ []) e2 in
      let w : 0 + length v + length o + length n + length g ≡ length s =
      rw (e, parts, length-append v (o ++ (n ++ g)), length-append o (n ++ g), length-append n g) (omega arith) in
      rw (
        read_plain 1 s 0 (o ++ (n ++ (g ++ []))) e0 (omega arith),
        read_opens (0 + length v) (n ++ (g ++ [])) e1,
        read_number (many (live_at t) 32) s (0 + length v + length o) (g ++ []) e2 32 (omega arith) (many_few (live_at t) 32),
        read_tasks (0 + length v + length o + length n) [] e3,
        w,
        le-ltb (length s) (length s) (omega arith),
      )

pub written : (t : Table) → Sound t → Shaped t → table_at (sheet_of t) ≡ value t (length (sheet_of t))
written t h sh = read_sheet t h sh (sheet_of t) refl
