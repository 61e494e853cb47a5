-- To believe: the eleven further properties that work no p, by the formulas of r3/region3_Td_ext.rs: IAPWS does not define all of them, so the Rust's
-- formulas are the definitions.
use Rattle.common.specs.Formula.{◌⊕◌, ◌⊖◌, ◌⊗◌, ◌⊘◌, minus_of}
use Rattle.common.specs.Outcome.{value}
use Rattle.common.specs.Decimal.{decimal, whole}
use Rattle.common.specs.Constant.{dc_water, TT}
use Rattle.rules.specs.Formula.{exponential_of}
use Rattle.helmholtz.specs.Hfe.{Reduced, phi, phi_delta, phi_deltadelta, phi_tau, phi_tautau, phi_deltatau}
use Rattle.properties.specs.Td.{Formula, R, reduced_density, inverse_temperature, Td2v, Td2cp}

-- φ_δ - τ φ_δτ and 2 φ_δ + δ φ_δδ, which several share
abbrev pub thermal : Reduced
thermal δ τ = phi_delta δ τ ⊖ τ ⊗ phi_deltatau δ τ

abbrev pub elastic : Reduced
elastic δ τ = value (whole 2) ⊗ phi_delta δ τ ⊕ δ ⊗ phi_deltadelta δ τ

-- OF, the specific Helmholtz free energy, kJ/kg
unfoldable pub Td2f : Formula
Td2f T d =
    let δ = reduced_density d in
    let τ = inverse_temperature T in
    R ⊗ T ⊗ phi δ τ

-- OG, the specific Gibbs free energy, kJ/kg
unfoldable pub Td2g : Formula
Td2g T d =
    let δ = reduced_density d in
    let τ = inverse_temperature T in
    R ⊗ T ⊗ (phi δ τ ⊕ δ ⊗ phi_delta δ τ)

-- ODVDP, (∂v/∂p)_T, m3/(kg MPa)
unfoldable pub Td2dvdpct : Formula
Td2dvdpct T d =
    let δ = reduced_density d in
    let τ = inverse_temperature T in
    minus_of (value (whole 1000)) ⊗ value dc_water ⊘ d ⊘ d ⊘ (d ⊗ R ⊗ T ⊗ elastic δ τ)

-- OKT, the isothermal compressibility, 1/MPa
unfoldable pub Td2kt : Formula
Td2kt T d = minus_of d ⊗ Td2dvdpct T d

-- ODVDT, (∂v/∂T)_p, m3/(kg K)
unfoldable pub Td2dvdtcp : Formula
Td2dvdtcp T d =
    let δ = reduced_density d in
    let τ = inverse_temperature T in
    thermal δ τ ⊘ elastic δ τ ⊘ T ⊘ d

-- OEC, the isobaric expansion coefficient, 1/K
unfoldable pub Td2ec : Formula
Td2ec T d = d ⊗ Td2dvdtcp T d

-- ODPDT, (∂p/∂T)_v, MPa/K
unfoldable pub Td2dpdtcv : Formula
Td2dpdtcv T d =
    let δ = reduced_density d in
    let τ = inverse_temperature T in
    value (decimal 0_001 3) ⊗ R ⊗ d ⊗ δ ⊗ thermal δ τ

-- OJTC, the Joule-Thomson coefficient, K/MPa, with a cp of its own
unfoldable pub Td2joule : Formula
Td2joule T d =
    let δ = reduced_density d in
    let τ = inverse_temperature T in
    let a = δ ⊗ thermal δ τ in
    let b = δ ⊗ elastic δ τ in
    let cp = R ⊗ (minus_of (value (whole 1)) ⊗ τ ⊗ τ ⊗ phi_tautau δ τ ⊕ a ⊗ a ⊘ b) in
    value (whole 1000) ⊗ (Td2v T d ⊘ cp) ⊗ (T ⊗ (thermal δ τ ⊘ elastic δ τ ⊘ T) ⊖ value (whole 1))

-- OIJTC, the isothermal throttling coefficient
unfoldable pub Td2iJTC : Formula
Td2iJTC T d = minus_of (Td2cp T d) ⊗ Td2joule T d ⊘ value (whole 1000)

-- OE, the specific exergy as the Rust has it, τ times (φ_τ - φ), kJ/kg
unfoldable pub Td2e : Formula
Td2e T d =
    let δ = reduced_density d in
    let τ = inverse_temperature T in
    R ⊗ (T ⊗ (phi δ τ ⊕ δ ⊗ phi_delta δ τ) ⊕ (T ⊖ value TT) ⊗ τ ⊗ (phi_tau δ τ ⊖ phi δ τ))

-- OFI, the fugacity coefficient as the Rust has it
unfoldable pub Td2fi : Formula
Td2fi T d = exponential_of (Td2g T d ⊘ R ⊘ T)
