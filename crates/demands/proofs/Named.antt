-- What is told by its number is one: a kind of call, a route; and the next task of a set, with what is left after it.
use mathlib.Core.Path.{◌≡◌, refl, ap, sym, ◌∙◌}
use Prim.Native.Nat.{ℕ}
use native.Mathlib.Nat.{le_antisymm}
use native.Mathlib.Omega.{arith}
use Rattle.std.proofs.Common.{cond, eqb, Option, None, Some, Result, Ok, Err}
use Rattle.answers.specs.declared.Refusal.{Refusal}
use Rattle.sets.specs.Rising.{Next}
use Rattle.sets.proofs.Members.{none_has}
use Rattle.sets.proofs.Widths.{same_members}
use Rattle.hall.specs.Kind.{kind_number, KindOf}
use Rattle.hall.specs.declared.kind.Kind.{Kind}
use Rattle.hall.specs.declared.kind.Kind.TheVariants.{OpenTask, EndTask, OpenPhaser, ClosePhaser, Admit, Leave, Arrive, Wait, WaitAt, Release}
use Rattle.hall.proofs.Numbered.{kind_below}
use Rattle.judge.specs.Route.{route_number, RouteOf}
use Rattle.judge.specs.declared.route.Route.{Route}
use Rattle.judge.specs.declared.route.Route.TheVariants.{Tasks, Events, Fewer}
use Rattle.judge.proofs.Routed.{route_within}

-- the kind with a number
abbrev kind_at : ℕ → Kind
kind_at n =
    cond (eqb n 1) EndTask (cond (eqb n 2) OpenPhaser (cond (eqb n 3) ClosePhaser (cond (eqb n 4) Admit (cond (eqb n 5) Leave (
    cond (eqb n 6) Arrive (cond (eqb n 7) Wait (cond (eqb n 8) WaitAt (cond (eqb n 9) Release OpenTask))))))))

at_kind : (kind : Kind) → kind_at (kind_number kind) ≡ kind
at_kind OpenTask = refl
at_kind EndTask = refl
at_kind OpenPhaser = refl
at_kind ClosePhaser = refl
at_kind Admit = refl
at_kind Leave = refl
at_kind Arrive = refl
at_kind Wait = refl
at_kind WaitAt = refl
at_kind Release = refl

pub kind_one : (n : ℕ) (r r' : Result Kind Refusal) → KindOf n r → KindOf n r' → r ≡ r'
kind_one n (Ok a) (Ok b) p q = ap Ok (sym (at_kind a) ∙ (ap kind_at (p ∙ sym q) ∙ at_kind b))
kind_one n (Ok a) (Err y) p q = let l = kind_below a in absurd (omega (arith, p, q.1))
kind_one n (Err x) (Ok b) p q = let l = kind_below b in absurd (omega (arith, q, p.1))
kind_one n (Err x) (Err y) p q = ap Err (p.0 ∙ sym q.0)

abbrev route_at : ℕ → Route
route_at n = cond (eqb n 1) Events (cond (eqb n 2) Fewer Tasks)

at_route : (route : Route) → route_at (route_number route) ≡ route
at_route Tasks = refl
at_route Events = refl
at_route Fewer = refl

pub route_one : (n : ℕ) (r r' : Result Route Refusal) → RouteOf n r → RouteOf n r' → r ≡ r'
route_one n (Ok a) (Ok b) p q = ap Ok (sym (at_route a) ∙ (ap route_at (p ∙ sym q) ∙ at_route b))
route_one n (Ok a) (Err y) p q = let l = route_within a in absurd (omega (arith, p, q.1))
route_one n (Err x) (Ok b) p q = let l = route_within b in absurd (omega (arith, q, p.1))
route_one n (Err x) (Err y) p q = ap Err (p.0 ∙ sym q.0)

pub next_one : (left : ℕ) (r r' : Option ℕ) (after after' : ℕ) → Next left r after → Next left r' after' → (r ≡ r') × (after ≡ after')
next_one left None None after after' p q = (refl, p.1 ∙ sym q.1)
next_one left None (Some u) after after' p q = absurd (none_has u (rw p.0 at q.1.holds))
next_one left (Some t) None after after' p q = absurd (none_has t (rw q.0 at p.1.holds))
next_one left (Some t) (Some u) after after' p q =
    let same : t ≡ u = le_antisymm (p.1.lowest u q.1.holds) (q.1.lowest t p.1.holds) in
    (ap Some same, same_members _ after after' p.2 (rw (← same) at q.2))
