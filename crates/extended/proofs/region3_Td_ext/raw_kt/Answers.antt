-- `extended::region3_Td_ext::raw_kt`: the proof is the formula, tested once at its end.
use Rattle.common.proofs.Formulas.{raw_minus, raw_check, ◌*ʳ◌}
use Rattle.extended.specs.Ext.{Td2kt}
use Rattle.common.proofs.Numbers.{tested}
use Rattle.extended.proofs.region3_Td_ext.raw_kt.Goals as goal

pub returns : goal.returns
unfolding Td2kt
returns c = tested (raw_minus (raw_check c.args.d.0) *ʳ c.raw_dvdpct.ensures.raw) c.finite_or_nan.ensures
