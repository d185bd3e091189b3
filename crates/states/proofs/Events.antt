-- Laws of states and events.
use mathlib.Core.Path.{◌≡◌, refl, sym, ap, ◌∙◌}
use mathlib.Core.Bool.{true, false}
use mathlib.Core.Logic.{◌↔◌}
use lib.Dec.{eqb}
use borrow.Author.Tests.{eqb-true, eq-eqb}
use Rattle.states.specs.Parts.{event_of, same_of, awaits_of}
use Rattle.states.specs.State.{is_free, is_live, is_running, is_blocked}
use Rattle.states.specs.Waiting.{Awaited, awaiting}
use Rattle.states.specs.declared.state.Event.{Event}
use Rattle.states.specs.declared.state.State.{State}
use Rattle.states.specs.declared.state.State.TheVariants.{Free, Running, Blocked}
use Rattle.states.proofs.Truth.{and_left, and_right, clash}

-- ---- what a test tells of a state
pub is_running_lem : (s : State) → is_running s ≡ true → s ≡ Running
is_running_lem Free e = absurd (clash e refl)
is_running_lem Running e = refl
is_running_lem (Blocked x) e = absurd (clash e refl)

pub is_free_lem : (s : State) → is_free s ≡ true → s ≡ Free
is_free_lem Free e = refl
is_free_lem Running e = absurd (clash e refl)
is_free_lem (Blocked x) e = absurd (clash e refl)

-- a live one that is not blocked runs
pub is_awake : (s : State) → is_live s ≡ true → is_blocked s ≡ false → s ≡ Running
is_awake Free x y = absurd (clash x refl)
is_awake Running x y = refl
is_awake (Blocked e) x y = absurd (clash refl y)

pub is_blocked_lem : (s : State) → is_blocked s ≡ true → (e : Awaited) × (s ≡ awaiting e)
is_blocked_lem Free e = absurd (clash e refl)
is_blocked_lem Running e = absurd (clash e refl)
is_blocked_lem (Blocked x) e = (x, refl)

pub not_free : (s : State) → (s ≡ Free → ⊥) → is_free s ≡ false
not_free Free n = absurd (n refl)
not_free Running n = refl
not_free (Blocked e) n = refl

-- ---- what is awaited
-- a state is a wait for one thing only
pub one_awaited : (s : State) (e f : Awaited) → s ≡ awaiting e → s ≡ awaiting f → e ≡ f
one_awaited s e f x y = let z : Blocked e ≡ Blocked f = sym x ∙ y in cc

pub event_is : (s : State) (e : Awaited) → s ≡ awaiting e → event_of s ≡ e
unfolding event_of
event_is s e h = rw h refl

same_inv : (e f : Event) → same_of e f ≡ true → e ≡ f
unfolding same_of
same_inv e f h =
    let a = eqb e.phaser.0 f.phaser.0 in
    let b = eqb e.phase.0 f.phase.0 in
    let p = eqb-true e.phaser.0 f.phaser.0 (and_left a b h) in
    let n = eqb-true e.phase.0 f.phase.0 (and_right a b h) in
    λ i. record { phaser = record { 0 = p i }; phase = record { 0 = n i } }

pub awaits_iff : (s : State) (e : Awaited) → (awaits_of s e ≡ true) ↔ (s ≡ awaiting e)
unfolding awaits_of same_of
awaits_iff s e = (into s, from s)
  where
    into : (s : State) → awaits_of s e ≡ true → s ≡ Blocked e
    into Free h = absurd (clash h refl)
    into Running h = absurd (clash h refl)
    into (Blocked f) h = ap Blocked (same_inv f e h)

    from : (s : State) → s ≡ Blocked e → awaits_of s e ≡ true
    from s h = rw (h, eq-eqb e.phaser.0 e.phaser.0 refl, eq-eqb e.phase.0 e.phase.0 refl) refl
