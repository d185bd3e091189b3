-- The measure is the number.
use Rattle.text.proofs.text.Text.+digits.Given as goal

abbrev pub decreases-digits : goal.decreases-digits
decreases-digits l = l.number
