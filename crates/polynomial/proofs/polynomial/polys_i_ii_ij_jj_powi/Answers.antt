-- `polynomial::polys_i_ii_ij_jj_powi` meets its contract: four sums settled where the columns are of one length, and a refusal where not.
use mathlib.Core.Path.{◌∙◌}
use mathlib.Core.List.{List}
use lib.Ieee.{Float}
use Rattle.common.specs.Outcome.{Outcome}
use Rattle.algo.specs.Table.{Row, rows_of}
use Rattle.algo.specs.Joint.{share_rule}
use Rattle.algo.specs.declared.Order.TheVariants.{Zero}
use Rattle.algo.specs.declared.Share.{Share}
use Rattle.algo.specs.declared.Share.TheVariants.{I, Ii, Ij, Jj}
use Rattle.joint.specs.declared.Four.{Four}
use Rattle.polynomial.specs.Columns.{four_of, four_table}
use Rattle.algo.proofs.Settled.{share_settled}
use Rattle.polynomial.proofs.Lengths.{of_one_length, of_unequal}
use Rattle.polynomial.proofs.polynomial.polys_i_ii_ij_jj_powi.Goals as goal

-- the four sums of the rows
abbrev the_four : Float → Float → List Row → Outcome Four
the_four vi vj rs = four_of (share_rule Zero I vi vj rs) (share_rule Zero Ii vi vj rs) (share_rule Zero Ij vi vj rs) (share_rule Zero Jj vi vj rs)

pub returns : goal.returns
unfolding four_table
returns c =
    let a = c.args in
    let p = c.raw_four.ensures in
    let settled : (s : Share) → _ = λ s. share_settled Zero s a.vi a.vj (rows_of a.is.now a.js.now a.ns.now) in
    c.settle_four.ensures
    ∙ (rw (p.0, p.1, p.2, p.3, settled I, settled Ii, settled Ij, settled Jj))
    ∙ of_one_length (the_four a.vi a.vj) a.is.now a.js.now a.ns.now c.in_ok-check_lengths.ensures

pub returns-in_err-check_lengths : goal.returns-in_err-check_lengths
unfolding four_table
returns-in_err-check_lengths c =
    let a = c.args in
    of_unequal (the_four a.vi a.vj) a.is.now a.js.now a.ns.now _ _ c.from_residual.ensures.1 c.in_err-check_lengths.ensures
