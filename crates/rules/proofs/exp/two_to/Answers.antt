-- `rules::two_to` meets its contract: a power of 2 is its exponent field. Assumes nothing.
use Rattle.rules.proofs.Exps.{two_of, no_nan_of}
use Rattle.rules.proofs.exp.two_to.Goals as goal

pub float_from_bits-result : goal.float_from_bits-result
float_from_bits-result c = no_nan_of c.args.k c.requires c.ranges.k

pub returns : goal.returns
returns c = two_of c.args.k c.requires c.ranges.k
