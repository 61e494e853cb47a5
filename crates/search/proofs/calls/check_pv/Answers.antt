-- `search::check_pv` meets its contract: each return by the tests that led there. Assumes nothing.
use mathlib.Core.Path.{sym}
use lib.Ieee.{of_bits, round}
use Rattle.common.specs.Decimal.{decimal, whole, scaled}
use Rattle.search.proofs.calls.check_pv.Goals as goal

pub returns-then-not-in_d : goal.returns-then-not-in_d
unfolding of_bits decimal whole scaled round
returns-then-not-in_d c =
    rw (
      sym c.if-not-is_finite.ensures,
      sym c.if-not-is_finite-2.ensures,
      sym c.if-not-in_p.ensures,
      sym c.if-not-in_d.ensures,
    )

pub returns : goal.returns
unfolding of_bits decimal whole scaled round
returns c =
    rw (
      sym c.if-not-is_finite.ensures,
      sym c.if-not-is_finite-2.ensures,
      sym c.if-not-in_p.ensures,
      sym c.if-not-in_d.ensures,
    )
