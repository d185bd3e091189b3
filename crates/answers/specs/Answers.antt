-- Document 01, 'Answer numbers', in its order. From 10 up they are refusals.
use Rattle.std.specs.Prelude.{Bool, false, ◌||◌, List, [], ◌∷◌, ℕ, eqb, Result, Ok, Err}
use Rattle.answers.specs.declared.Refusal.{Refusal}
use Rattle.answers.specs.declared.Refusal.TheVariants.{NoTask, NoPhaser, CallerBlocked, TargetBlocked, NotMember, AlreadyMember}
use Rattle.answers.specs.declared.Refusal.TheVariants.{PhaseTooLarge, NoneFree, NotBlocked, NotReached, InUse, NoStep}
use Rattle.answers.specs.declared.Refusal.TheVariants.{EndsInside, NeedlessGroup, TooLarge, NotRising, Unknown, BytesAfter}
use Rattle.answers.specs.declared.Refusal.TheVariants.{NotOpen, ShortStrip, NoRoute, NoKind, NotSound, ShortBuffer}

-- 0 / 1 / 2: done / wait passed / now blocked
abbrev pub done : ℕ
done = 0

abbrev pub wait_passed : ℕ
wait_passed = 1

abbrev pub now_blocked : ℕ
now_blocked = 2

-- 10 / 11: no such live task / no such open phaser
abbrev pub no_task : ℕ
no_task = 10

abbrev pub no_phaser : ℕ
no_phaser = 11

-- 12 / 20: caller is blocked / target is blocked
abbrev pub caller_blocked : ℕ
caller_blocked = 12

abbrev pub target_blocked : ℕ
target_blocked = 20

-- 13 / 14: caller not a member / target already one
abbrev pub not_member : ℕ
not_member = 13

abbrev pub already_member : ℕ
already_member = 14

-- 15: phase would exceed, or exceeds, 65,535
abbrev pub phase_too_large : ℕ
phase_too_large = 15

-- 16: no free number of that sort
abbrev pub none_free : ℕ
none_free = 16

-- 17: task to release is not blocked
abbrev pub not_blocked : ℕ
not_blocked = 17

-- 18: some member has not reached the awaited phase
abbrev pub not_reached : ℕ
not_reached = 18

-- 19: phaser has a member, or a task is blocked on it
abbrev pub in_use : ℕ
in_use = 19

-- 22: the ring walk finds no named task to step to
abbrev pub no_step : ℕ
no_step = 22

-- 30: sheet ends inside a number, or before one
abbrev pub ends_inside : ℕ
ends_inside = 30

-- 31: number with a needless last group
abbrev pub needless_group : ℕ
needless_group = 31

-- 32: number too large
abbrev pub too_large : ℕ
too_large = 32

-- 33: list not rising (a repeat doesn't rise)
abbrev pub not_rising : ℕ
not_rising = 33

-- 34: version not 1, or task state not 0 or 1
abbrev pub unknown : ℕ
unknown = 34

-- 35: bytes after the sheet
abbrev pub bytes_after : ℕ
bytes_after = 35

-- 36: sheet speaks of a phaser that isn't open
abbrev pub not_open : ℕ
not_open = 36

-- 40 / 41: answer strip under 38 bytes / route over 2 (document 02, M-101)
abbrev pub short_strip : ℕ
short_strip = 40

abbrev pub no_route : ℕ
no_route = 41

-- 42 / 44: no such kind of call / table not sound
abbrev pub no_kind : ℕ
no_kind = 42

abbrev pub not_sound : ℕ
not_sound = 44

-- document 02, M-100: 43 if the buffer is shorter than the sheet
abbrev pub short_buffer : ℕ
short_buffer = 43

-- the number of each refusal
abbrev pub number_of : Refusal → ℕ
number_of NoTask = no_task
number_of NoPhaser = no_phaser
number_of CallerBlocked = caller_blocked
number_of TargetBlocked = target_blocked
number_of NotMember = not_member
number_of AlreadyMember = already_member
number_of PhaseTooLarge = phase_too_large
number_of NoneFree = none_free
number_of NotBlocked = not_blocked
number_of NotReached = not_reached
number_of InUse = in_use
number_of NoStep = no_step
number_of EndsInside = ends_inside
number_of NeedlessGroup = needless_group
number_of TooLarge = too_large
number_of NotRising = not_rising
number_of Unknown = unknown
number_of BytesAfter = bytes_after
number_of NotOpen = not_open
number_of ShortStrip = short_strip
number_of NoRoute = no_route
number_of NoKind = no_kind
number_of NotSound = not_sound
number_of ShortBuffer = short_buffer

-- n is one of the list
abbrev pub among : ℕ → List ℕ → Bool
among n [] = false
among n (x ∷ l) = eqb n x || among n l

-- a refusal's number, or 0 where nothing is refused
abbrev pub answer_of : {A : Type 0} → Result A Refusal → ℕ
answer_of (Ok a) = done
answer_of (Err r) = number_of r
