-- `inverses::high` meets its contract: the products of r's two parts fit, and their sum is the whole part. Assumes nothing.
use Rattle.inverses.proofs.Halves.{high_is}
use Rattle.inverses.proofs.sqrt.high.Goals as goal

pub returns : goal.returns
returns c = high_is c.args.r c.args.t
