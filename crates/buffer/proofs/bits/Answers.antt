-- `buffer::bits` meets its contract: a NaN is the one NaN. Assumes nothing.
use mathlib.Core.Path.{sym, ap, ◌∙◌}
use lib.Ieee.{binary64, to_bits}
use Rattle.buffer.proofs.Laws.{only_nan}
use Rattle.buffer.proofs.bits.Goals as goal

pub returns-then-is_nan : goal.returns-then-is_nan
unfolding to_bits
returns-then-is_nan c = ap (to_bits binary64) (sym (only_nan c.args.x (sym c.is_nan.ensures.value ∙ c.if-is_nan.true)))
