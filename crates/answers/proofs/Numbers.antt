-- Of the refusals' numbers: they are 10 or more, and no two refusals have the same one.
use Rattle.std.proofs.Common.{◌≡◌, ℕ, ◌≤◌, refl, sym, ap, ◌∙◌, cond, eqb}
use native.Mathlib.Omega.{arith}
use Rattle.answers.specs.Answers.{number_of}
use Rattle.answers.specs.declared.Refusal.{Refusal}
use Rattle.answers.specs.declared.Refusal.TheVariants.{NoTask, NoPhaser, CallerBlocked, TargetBlocked, NotMember, AlreadyMember}
use Rattle.answers.specs.declared.Refusal.TheVariants.{PhaseTooLarge, NoneFree, NotBlocked, NotReached, InUse, NoStep}
use Rattle.answers.specs.declared.Refusal.TheVariants.{EndsInside, NeedlessGroup, TooLarge, NotRising, Unknown, BytesAfter}
use Rattle.answers.specs.declared.Refusal.TheVariants.{NotOpen, ShortStrip, NoRoute, NoKind, NotSound, ShortBuffer}

pub number_high : (r : Refusal) → 10 ≤ number_of r
number_high NoTask = omega arith
number_high NoPhaser = omega arith
number_high CallerBlocked = omega arith
number_high TargetBlocked = omega arith
number_high NotMember = omega arith
number_high AlreadyMember = omega arith
number_high PhaseTooLarge = omega arith
number_high NoneFree = omega arith
number_high NotBlocked = omega arith
number_high NotReached = omega arith
number_high InUse = omega arith
number_high NoStep = omega arith
number_high EndsInside = omega arith
number_high NeedlessGroup = omega arith
number_high TooLarge = omega arith
number_high NotRising = omega arith
number_high Unknown = omega arith
number_high BytesAfter = omega arith
number_high NotOpen = omega arith
number_high ShortStrip = omega arith
number_high NoRoute = omega arith
number_high NoKind = omega arith
number_high NotSound = omega arith
number_high ShortBuffer = omega arith

-- the refusal with a number; where there is none, the first
abbrev refusal_at : ℕ → Refusal
refusal_at n =
    cond (eqb n 11) NoPhaser (
    cond (eqb n 12) CallerBlocked (
    cond (eqb n 20) TargetBlocked (
    cond (eqb n 13) NotMember (
    cond (eqb n 14) AlreadyMember (
    cond (eqb n 15) PhaseTooLarge (
    cond (eqb n 16) NoneFree (
    cond (eqb n 17) NotBlocked (
    cond (eqb n 18) NotReached (
    cond (eqb n 19) InUse (
    cond (eqb n 22) NoStep (
    cond (eqb n 30) EndsInside (
    cond (eqb n 31) NeedlessGroup (
    cond (eqb n 32) TooLarge (
    cond (eqb n 33) NotRising (
    cond (eqb n 34) Unknown (
    cond (eqb n 35) BytesAfter (
    cond (eqb n 36) NotOpen (
    cond (eqb n 40) ShortStrip (
    cond (eqb n 41) NoRoute (
    cond (eqb n 42) NoKind (
    cond (eqb n 44) NotSound (
    cond (eqb n 43) ShortBuffer
    NoTask))))))))))))))))))))))

at_number : (r : Refusal) → refusal_at (number_of r) ≡ r
at_number NoTask = refl
at_number NoPhaser = refl
at_number CallerBlocked = refl
at_number TargetBlocked = refl
at_number NotMember = refl
at_number AlreadyMember = refl
at_number PhaseTooLarge = refl
at_number NoneFree = refl
at_number NotBlocked = refl
at_number NotReached = refl
at_number InUse = refl
at_number NoStep = refl
at_number EndsInside = refl
at_number NeedlessGroup = refl
at_number TooLarge = refl
at_number NotRising = refl
at_number Unknown = refl
at_number BytesAfter = refl
at_number NotOpen = refl
at_number ShortStrip = refl
at_number NoRoute = refl
at_number NoKind = refl
at_number NotSound = refl
at_number ShortBuffer = refl

pub number_one : (a b : Refusal) → number_of a ≡ number_of b → a ≡ b
number_one a b e = sym (at_number a) ∙ (ap refusal_at e ∙ at_number b)
