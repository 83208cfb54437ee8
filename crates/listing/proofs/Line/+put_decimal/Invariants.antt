-- `listing::put_decimal` ends: each call has a smaller number to write.
use Rattle.listing.proofs.Line.+put_decimal.Given as goal

abbrev pub decreases-put_decimal : goal.decreases-put_decimal
decreases-put_decimal l = l.n
