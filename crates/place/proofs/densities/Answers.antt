-- `place::densities` meets its contract: the border's p, then the two densities. Assumes nothing.
use mathlib.Core.Path.{sym}
use lib.Ieee.{of_bits, round}
use Rattle.common.specs.Decimal.{whole, scaled}
use Rattle.common.proofs.Calls.{passed_on}
use Rattle.place.specs.AcceptedPlace.{densities_at}
use Rattle.place.proofs.Laws.{T2p_settled, answered}
use Rattle.place.proofs.densities.Goals as goal

pub returns-in_err-p : goal.returns-in_err-p
unfolding densities_at
returns-in_err-p c = passed_on _ _ _ c.from_residual.ensures.1 (sym (answered (T2p_settled c.args.t.0) c.raw_B23_T2p.ensures c.in_err-p.ensures))

pub returns-in_err-first : goal.returns-in_err-first
unfolding densities_at
returns-in_err-first c =
    rw (answered (T2p_settled c.args.t.0) c.raw_B23_T2p.ensures c.in_ok-p.ensures) (passed_on _ _ _ c.from_residual-in_err-first.ensures.1 c.in_err-first.ensures)

pub returns-in_err-second : goal.returns-in_err-second
unfolding densities_at of_bits whole scaled round
returns-in_err-second c =
    rw (answered (T2p_settled c.args.t.0) c.raw_B23_T2p.ensures c.in_ok-p.ensures, sym c.in_ok-first.ensures)
    (passed_on _ _ _ c.from_residual-in_err-second.ensures.1 c.in_err-second.ensures)

pub returns : goal.returns
unfolding densities_at of_bits whole scaled round
returns c = rw (answered (T2p_settled c.args.t.0) c.raw_B23_T2p.ensures c.in_ok-p.ensures, sym c.in_ok-first.ensures, sym c.in_ok-second.ensures)
