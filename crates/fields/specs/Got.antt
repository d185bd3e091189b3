-- Document 01: "Reading a number answers either its value and the next place, or its refusal." So does the reading of each part of a sheet.
use Rattle.std.specs.Prelude.{ℕ, zero, suc, Result, Ok, Err}
use Rattle.answers.specs.Answers.{number_of}
use Rattle.answers.specs.declared.Refusal.{Refusal}

pub data Got (A : Type 0) : Type 0 where
  value : A → ℕ → Got A
  refused : ℕ → Got A

-- the two cases of the code's result, a refusal by its number
abbrev pub got : {A : Type 0} → Result (A × ℕ) Refusal → Got A
got (Ok read) = value read.0 read.1
got (Err r) = refused (number_of r)

-- go on with what was read, at the next place, or hand its refusal on: "The first fault in byte order decides"
abbrev pub onward : {A B : Type 0} → Got A → (A → ℕ → Got B) → Got B
onward (value a next) k = k a next
onward (refused n) k = refused n

-- so many steps, each at the place where the one before ended
abbrev pub times : {A : Type 0} → (A → ℕ → Got A) → ℕ → A → ℕ → Got A
times step zero a at = value a at
times step (suc n) a at = onward (step a at) (times step n)

-- what is read so far of a rising list, and the least number that rises
pub record Rising (A : Type 0) : Type 0 where
  pub floor : ℕ
  pub sofar : A

abbrev pub rising : {A : Type 0} → ℕ → A → Rising A
rising floor sofar = record { floor = floor; sofar = sofar }

-- so many of a rising list
unfoldable pub each : {A : Type 0} → (Rising A → ℕ → Got (Rising A)) → ℕ → A → ℕ → Got A
each step n none at = onward (times step n (rising 0 none) at) (λ r next. value r.sofar next)
