-- Sixteen sets, one for each phaser, into which some tasks go one by one: who goes where is any relation `Sits u q`.
use mathlib.Core.Path.{◌≡◌, refl, sym, ap, ◌∙◌, subst}
use mathlib.Core.Bool.{Bool, true, false}
use mathlib.Core.List.{List}
use mathlib.Core.Logic.{◌↔◌, ◌⊎◌, inl, inr, ⊎_elim}
use Prim.Native.Nat.{ℕ, ◌+◌, ◌*◌, ◌%◌, ◌<◌}
use native.Mathlib.Decide.{ℕ_discrete}
use native.Mathlib.Omega.{arith}
use lib.ListN.{replicate, get_or, length, set, length-set, get_or-replicate}
use lib.Seq.{get_or-set_same, get_or-set_other}
use Rattle.sets.specs.Set.{Has}
use Rattle.sets.proofs.Members.{Marked, Taken, none_has, taken_out}
use Rattle.states.specs.Waiting.{Awaited}

-- the sixteen sets have exactly those whom `In` puts there
pub record Sets (In : ℕ → ℕ → Type 0) (sets : List ℕ) : Type 0 where
  pub long : length sets ≡ 16
  pub iff : (q u : ℕ) → q < 16 → Has (get_or sets q 0) u ↔ In q u

-- the same sets, told otherwise
sets_along : {In Then : ℕ → ℕ → Type 0} {sets : List ℕ} → ((q u : ℕ) → q < 16 → In q u ↔ Then q u) → Sets In sets → Sets Then sets
sets_along f g = record {
  long = g.long;
  iff = λ q u l. (λ h. (f q u l).0 ((g.iff q u l).0 h), λ h. (g.iff q u l).1 ((f q u l).1 h));
}

-- one of the sets with t in it or not, as told
sets_marked : {In Then : ℕ → ℕ → Type 0} {sets : List ℕ} (place t r : ℕ) (b : Bool) → Sets In sets → place < 16
    → Marked (get_or sets place 0) t b r
    → ((q u : ℕ) → (q ≡ place → ⊥) → In q u ↔ Then q u)
    → ((u : ℕ) → (((u < 32) × (u ≡ t) × (b ≡ true)) ⊎ (In place u × (u ≡ t → ⊥))) ↔ Then place u)
    → Sets Then (set sets place r)
sets_marked {In} {Then} {sets} place t r b g l marked other here =
    record { long = length-set sets place r ∙ g.long; iff = λ q u h. each q u h (ℕ_discrete q place) }
  where
    mine : (u : ℕ) → Has r u ↔ Then place u
    mine u = (
      λ h. (here u).0 (⊎_elim (λ p. inl p) (λ p. inr ((g.iff place u l).0 p.0, p.1)) ((marked u).0 h)),
      λ h. (marked u).1 (⊎_elim (λ p. inl p) (λ p. inr ((g.iff place u l).1 p.0, p.1)) ((here u).1 h)),
    )

    each : (q u : ℕ) → q < 16 → Dec (q ≡ place) → Has (get_or (set sets place r) q 0) u ↔ Then q u
    each q u h (yes e) =
        let z = g.long in
        subst (λ i. Has (get_or (set sets place r) i 0) u ↔ Then i u) (sym e) (rw (get_or-set_same sets place r 0 (omega arith)) (mine u))
    each q u h (no e) =
        let p = g.iff q u h in
        rw (get_or-set_other sets place q r 0 e) (λ x. (other q u e).0 (p.0 x), λ x. p.1 ((other q u e).1 x))

module _ (all : ℕ) (Sits : ℕ → ℕ → Type 0) where
  -- of all, those that are not left have gone to their sets
  abbrev pub Gone : ℕ → ℕ → ℕ → Type 0
  Gone left q u = Has all u × (Has left u → ⊥) × Sits u q

  -- and t, which is not left either, to those of its sets that are below p only
  abbrev pub Going : ℕ → ℕ → ℕ → ℕ → ℕ → Type 0
  Going left t p q u = (Gone left q u × (u ≡ t → ⊥)) ⊎ ((u ≡ t) × (q < p) × Sits u q)

  pub gone_start : Sets (Gone all) (replicate 16 0)
  gone_start = record {
    long = refl;
    iff = λ q u l. (λ h. absurd (none_has u (rw (get_or-replicate {A = ℕ} 16 q 0 0 l) at h)), λ h. absurd (h.1 h.0));
  }

  pub gone_done : {sets : List ℕ} → Sets (Gone 0) sets → (q u : ℕ) → q < 16 → Has (get_or sets q 0) u ↔ (Has all u × Sits u q)
  gone_done g q u l = let p = g.iff q u l in (λ h. let x = p.0 h in (x.0, x.2), λ h. p.1 (h.0, none_has u, h.1))

  going_more : {sets : List ℕ} (left t p r : ℕ) (b : Bool) → t < 32 → Sets (Going left t p) sets → p < 16 → ((b ≡ true) ↔ Sits t p)
      → Marked (get_or sets p 0) t b r → Sets (Going left t (p + 1)) (set sets p r)
  going_more left t p r b near g l iff marked = sets_marked p t r b g l marked other here
    where
      other : (q u : ℕ) → (q ≡ p → ⊥) → Going left t p q u ↔ Going left t (p + 1) q u
      other q u n = (
        ⊎_elim (λ h. inl h) (λ h. inr (h.0, omega arith, h.2)),
        ⊎_elim (λ h. inl h) (λ h. inr (h.0, omega arith, h.2)),
      )

      here : (u : ℕ) → (((u < 32) × (u ≡ t) × (b ≡ true)) ⊎ (Going left t p p u × (u ≡ t → ⊥))) ↔ Going left t (p + 1) p u
      here u = (
        ⊎_elim
            (λ h. inr (h.1, omega arith, subst (λ k. Sits k p) (sym h.1) (iff.0 h.2)))
            (λ h. ⊎_elim (λ x. inl x) (λ x. absurd (h.1 x.0)) h.0),
        ⊎_elim (λ h. inr (inl h, h.1)) (λ h. inl (omega arith, h.0, iff.1 (subst (λ k. Sits k p) h.0 h.2))),
      )

  module _ (left t : ℕ) (inside : Has left t) where
    module _ (rest : ℕ) (within : Has all t) (taken : Taken left t rest) where
      -- who is not in what is left now is t, or was gone before
      later : (q u : ℕ) → Gone rest q u → (u ≡ t) ⊎ (Has left u → ⊥)
      later q u h = taken_out left t rest u taken h.1

      before : (q u : ℕ) → Gone left q u → Gone rest q u
      before q u h = (h.0, λ x. h.1 ((taken u).0 x).0, h.2)

      pub going_start : {sets : List ℕ} → Sets (Gone left) sets → Sets (Going rest t 0) sets
      going_start g = sets_along (λ q u l. (into q u, ⊎_elim (λ h. from q u h) (λ h. absurd (omega arith)))) g
        where
          into : (q u : ℕ) → Gone left q u → Going rest t 0 q u
          into q u h = inl (before q u h, λ e. h.1 (subst (Has left) (sym e) inside))

          from : (q u : ℕ) → Gone rest q u × (u ≡ t → ⊥) → Gone left q u
          from q u h = (h.0.0, λ x. h.0.1 ((taken u).1 (x, h.1)), h.0.2)

      pub going_done : {sets : List ℕ} → Sets (Going rest t 16) sets → Sets (Gone rest) sets
      going_done g = sets_along (λ q u l. (into q u, λ h. from q u l h (ℕ_discrete u t))) g
        where
          into : (q u : ℕ) → Going rest t 16 q u → Gone rest q u
          into q u (inl h) = h.0
          into q u (inr h) = (subst (Has all) (sym h.0) within, λ r. ((taken u).0 r).1 h.0, h.2)

          from : (q u : ℕ) → q < 16 → Gone rest q u → Dec (u ≡ t) → Going rest t 16 q u
          from q u l h (yes e) = inr (e, l, h.2)
          from q u l h (no n) = inl (h, n)

      -- where t has one place only, it is gone at once
      pub gone_more : {sets : List ℕ} (place r : ℕ) → t < 32 → Sets (Gone left) sets → place < 16
          → ((q : ℕ) → Sits t q ↔ (q ≡ place)) → Marked (get_or sets place 0) t true r → Sets (Gone rest) (set sets place r)
      gone_more place r near g l only marked = sets_marked place t r true g l marked other here
        where
          other : (q u : ℕ) → (q ≡ place → ⊥) → Gone left q u ↔ Gone rest q u
          other q u n = (
            before q u,
            λ h. ⊎_elim (λ e. absurd (n ((only q).0 (subst (λ k. Sits k q) e h.2)))) (λ x. (h.0, x, h.2)) (later q u h),
          )

          here : (u : ℕ) → (((u < 32) × (u ≡ t) × (true ≡ true)) ⊎ (Gone left place u × (u ≡ t → ⊥))) ↔ Gone rest place u
          here u = (
            ⊎_elim
                (λ h. (subst (Has all) (sym h.1) within, λ x. ((taken u).0 x).1 h.1, subst (λ k. Sits k place) (sym h.1) ((only place).1 refl)))
                (λ h. before place u h.0),
            λ h. ⊎_elim (λ e. inl (omega arith, e, refl)) (λ x. inr ((h.0, x, h.2), λ e. x (subst (Has left) (sym e) inside))) (later place u h),
          )

-- a task's event has one column
pub one_place : {e f : Awaited} {place : ℕ} → e ≡ f → place ≡ e.phaser.0 % 16 → (q : ℕ) → (f.phaser.0 % 16 ≡ q) ↔ (q ≡ place)
one_place {e} {f} {place} is column q =
    let z = ap (λ (e : Awaited). e.phaser.0 % 16) is in
    (λ h. sym h ∙ sym z ∙ sym column, λ h. sym z ∙ sym column ∙ sym h)

-- who has an entry sits there: t goes by the entry that the code reads, at whatever number it reckons the place to be
module _ (entries : List Bool) (all left t : ℕ) where
  abbrev Entered : ℕ → ℕ → Type 0
  Entered u q = get_or entries (u * 16 + q) false ≡ true

  pub going_entry : {sets : List ℕ} (p i r : ℕ) → t < 32 → Sets (Going all Entered left t p) sets → p < 16 → i ≡ t * 16 + p
      → Marked (get_or sets p 0) t (get_or entries i false) r → Sets (Going all Entered left t (p + 1)) (set sets p r)
  going_entry p i r near g l e marked =
      let z = ap (λ i. get_or entries i false) e in
      going_more all Entered left t p r (get_or entries i false) near g l (λ h. sym z ∙ h, λ h. z ∙ h) marked
