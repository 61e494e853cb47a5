-- `common::or_nan` meets its contract: the bits of f64::NAN are those of a NaN. Assumes nothing.
use lib.Ieee.{of_bits}
use borrow.Author.Rules.{rules}
use Rattle.common.proofs.or_nan.Goals as goal

pub returns-in-Err : goal.returns-in-Err
unfolding of_bits
returns-in-Err c = search rules
