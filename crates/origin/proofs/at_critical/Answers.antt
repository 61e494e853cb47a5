-- `origin::at_critical` meets its contract: its constants are the printed decimals. Assumes nothing.
use lib.Ieee.{of_bits, round}
use Rattle.std.proofs.Common.{rules}
use Rattle.common.specs.Decimal.{decimal, whole, scaled}
use Rattle.origin.proofs.at_critical.Goals as goal

pub returns-in_err-near : goal.returns-in_err-near
unfolding of_bits decimal whole scaled round
returns-in_err-near c = search rules

pub returns-in_err-near-2 : goal.returns-in_err-near-2
unfolding of_bits decimal whole scaled round
returns-in_err-near-2 c = search rules

pub returns-in_ok-near-2 : goal.returns-in_ok-near-2
unfolding of_bits decimal whole scaled round
returns-in_ok-near-2 c = search rules

pub returns-else-branch : goal.returns-else-branch
unfolding of_bits decimal whole scaled round
returns-else-branch c = search rules
