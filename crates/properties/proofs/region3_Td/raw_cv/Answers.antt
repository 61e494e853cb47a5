-- `properties::region3_Td::raw_cv`: the proof is the formula, tested once at its end.
use Rattle.common.proofs.Formulas.{raw_minus, at, ◌*ʳ◌}
use lib.Ieee.{of_bits}
use Rattle.common.specs.Decimal.{decimal, scaled}
use Rattle.helmholtz.specs.Hfe.{phi_tautau}
use Rattle.properties.specs.Td.{Td2cv}
use Rattle.helmholtz.proofs.Steps.{R}
use Rattle.common.proofs.Numbers.{tested}
use Rattle.properties.proofs.region3_Td.raw_cv.Goals as goal

pub returns : goal.returns
unfolding of_bits decimal scaled Td2cv
returns c =
    let τ = c.tau_of-tau.ensures.raw in
    let δ = c.delta_of-delta.ensures.raw in
    tested (R *ʳ (raw_minus τ *ʳ τ *ʳ at phi_tautau δ τ c.phi_tautau_reg3.ensures.raw)) c.finite_or_nan.ensures
