-- The measure of the call of itself is the number.
use Rattle.listing.proofs.storing.Lines.+put_decimal.Given as goal

abbrev pub decreases-put_decimal : goal.decreases-put_decimal
decreases-put_decimal l = l.n
