-- `border::beside` meets its contract: by squares, or by the root. Assumes nothing.
use mathlib.Core.Path.{ap, ◌∙◌}
use mathlib.Core.Bool.{Bool, cond}
use lib.Ieee.{of_bits, round}
use Rattle.common.specs.Outcome.{value, refused}
use Rattle.common.specs.Decimal.{scaled, decimal, plus}
use Rattle.border.proofs.Squares as squares
use Rattle.border.proofs.beside.Goals as goal

pub returns-then-t-d : goal.returns-then-t-d
unfolding plus scaled round of_bits
returns-then-t-d c = squares.beside c.args.p c.args.t c.requires c.if-d-q.true c.if-t-d.true

pub returns-then-e-t : goal.returns-then-e-t
unfolding plus decimal scaled round of_bits
returns-then-e-t c = squares.beyond c.args.p c.args.t c.requires c.if-q-e.true c.if-e-t.true

pub returns : goal.returns
unfolding plus scaled round of_bits
returns c = ap (λ (r : Bool). cond r (value tt) (refused 8)) c.by_root.ensures ∙ squares.by_root c.args.p c.args.t c.requires
