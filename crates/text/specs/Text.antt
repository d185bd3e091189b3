-- A text as bytes in ASCII: words, numbers and lines, and the buffer that holds it.
use Rattle.std.specs.Prelude.{cond, List, [], ◌∷◌, ◌++◌, ℕ, zero, suc, ◌+◌, ◌-◌, ◌/◌, ◌%◌, ltb, length, replicate, take}
use Rattle.text.specs.declared.text.Text.{Text}

-- a digit in ASCII: `0` is 48
abbrev pub digit : ℕ → ℕ
digit d = 48 + d

-- the decimal digits of n, the highest first and no needless 0; so many at most
unfoldable pub digits_of : ℕ → ℕ → List ℕ
digits_of zero n = []
digits_of (suc more) n = cond (ltb n 10) (digit n ∷ []) (digits_of more (n / 10) ++ (digit (n % 10) ∷ []))

-- "the number", in decimal: 20 digits hold any below 2 ^ 64
unfoldable pub decimal : ℕ → List ℕ
decimal n = digits_of 20 n

-- "one blank before each number"
unfoldable pub numbered : List ℕ → List ℕ
numbered [] = []
numbered (n ∷ rest) = (32 ∷ decimal n) ++ numbered rest

-- "a line `named` .. with its task numbers": a word, its numbers, and the line's end
abbrev pub line : List ℕ → List ℕ → List ℕ
line word numbers = word ++ numbered numbers ++ (10 ∷ [])

-- the text that says l: its first 256 bytes, filled up with 0, and how many they are
unfoldable pub text_with : List ℕ → Text
text_with l = record { bytes = take 256 l ++ replicate (256 - length l) 0; length = length (take 256 l) }
