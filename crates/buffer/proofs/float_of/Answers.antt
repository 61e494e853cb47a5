-- `buffer::float_of` meets its contract: the number of its bits. Assumes nothing.
use mathlib.Core.Path.{sym, subst, ◌∙◌}
use mathlib.Core.Bool.{Bool, not}
use lib.Dec.{T}
use lib.Ieee.{binary64, div, of_bits}
use lib.Ieee.Bits.{nan_bits_above}
use borrow.Author.Tests.{lt-ltb, le-ltb}
use Rattle.buffer.proofs.Laws.{nan_read}
use Rattle.buffer.proofs.float_of.Goals as goal

pub returns-then-n-gt9218868437227405312 : goal.returns-then-n-gt9218868437227405312
unfolding div of_bits
returns-then-n-gt9218868437227405312 c = nan_read binary64 c.args.n (lt-ltb _ _ c.if-n-gt9218868437227405312.true)

pub float_from_bits-result : goal.float_from_bits-result
float_from_bits-result c = subst (λ (b : Bool). T (not b)) (sym (nan_bits_above binary64 c.args.n ∙ le-ltb _ _ c.if-n-gt9218868437227405312.false)) tt
