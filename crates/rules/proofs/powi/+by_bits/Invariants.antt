-- The measure of the cycle of calls {by_bits} is the exponent: its half is less, where that is not 0.
use Rattle.rules.proofs.powi.+by_bits.Given as goal

abbrev pub decreases-by_bits : goal.decreases-by_bits
decreases-by_bits g l = l.n
