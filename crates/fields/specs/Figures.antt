-- Document 01, 'The hall sheet': its figures.
use Rattle.std.specs.Prelude.{ℕ}

-- "The longest sheet has 2,291 bytes."
abbrev pub longest_sheet : ℕ
longest_sheet = 2291

-- "So reading 2,292 settles any input."
abbrev pub settling_bytes : ℕ
settling_bytes = 2292

-- "At most three groups": so many may follow the first
abbrev pub further : ℕ
further = 2
