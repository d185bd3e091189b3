-- Document 01, 'The hall sheet': "A number is groups of seven bits, low group first; the top bit of a byte says that another group follows."
use Rattle.std.specs.Prelude.{cond, List, [], ◌∷◌, ℕ, zero, suc, ◌+◌, ◌-◌, ◌*◌, ◌/◌, ◌%◌, ltb, leb, eqb, length, get_or}
use Rattle.answers.specs.Answers.{number_of, ends_inside, needless_group, too_large, not_rising}
use Rattle.fields.specs.declared.number.Number.{Number}
use Rattle.fields.specs.declared.number.Number.TheVariants.{Value, Refused}
use Rattle.fields.specs.Figures.{further}
use Rattle.fields.specs.Got.{Got, value, refused, onward}

-- "Reading a number answers either its value and the next place, or its refusal": the two cases of the code's enum, a refusal by its number
abbrev pub outcome : Number → Got ℕ
outcome (Value v next) = value v next
outcome (Refused r) = refused (number_of r)

-- a group, and the number of those that follow it: "31 if there is more than one group and the last is 0", for then that number is 0
abbrev pub carried : ℕ → Got ℕ → Got ℕ
carried low g = onward g (λ high next. cond (eqb high 0) (refused needless_group) (value (low + high * 128) next))

-- the groups at a place, so many at most: "30; 32 if the third byte has its top bit set"
abbrev pub groups_at : ℕ → List ℕ → ℕ → Got ℕ
groups_at zero s at = refused too_large
groups_at (suc more) s at =
    cond (leb (length s) at) (refused ends_inside)
    (cond (ltb (get_or s at 0) 128) (value (get_or s at 0) (at + 1)) (carried (get_or s at 0 - 128) (groups_at more s (at + 1))))

-- a number of a field that has no largest value of its own
unfoldable pub plain_at : List ℕ → ℕ → Got ℕ
plain_at s at = groups_at (suc further) s at

-- "then 32 if over its field's largest value"
unfoldable pub number_at : List ℕ → ℕ → ℕ → Got ℕ
number_at s largest at = onward (plain_at s at) (λ v next. cond (leb v largest) (value v next) (refused too_large))

-- "Then .. 33": a number that is to be `floor` or more, which is one more than the number before it
unfoldable pub rising_at : List ℕ → ℕ → ℕ → ℕ → Got ℕ
rising_at s largest floor at = onward (number_at s largest at) (λ v next. cond (ltb v floor) (refused not_rising) (value v next))

-- the groups of a number, so many at most
abbrev pub groups_of : ℕ → ℕ → List ℕ
groups_of zero n = []
groups_of (suc more) n = cond (ltb n 128) (n ∷ []) ((n % 128 + 128) ∷ groups_of more (n / 128))

-- a number as it is written: ten groups hold any number of 64 bits, and how many a reader takes is no matter of the writer's
unfoldable pub number_bytes : ℕ → List ℕ
number_bytes n = groups_of 10 n
