-- `extended::region3_Td_ext::raw_ec`: the proof is the formula, tested once at its end.
use Rattle.common.proofs.Formulas.{raw_check, ◌*ʳ◌}
use Rattle.extended.specs.Ext.{Td2ec}
use Rattle.common.proofs.Numbers.{tested}
use Rattle.extended.proofs.region3_Td_ext.raw_ec.Goals as goal

pub returns : goal.returns
unfolding Td2ec
returns c = tested (raw_check c.args.d.0 *ʳ c.raw_dvdtcp.ensures.raw) c.finite_or_nan.ensures
