-- To believe: the properties from T and d, R7-97(2012), table 31, in the order of operations of r3/region3_Td.rs. A formula's operands are what T and d come to.
-- Every refusal here is 5 but the one that `state_pressure` adds, so it does not matter which operand is worked first.
use Rattle.common.specs.Formula.{◌⊕◌, ◌⊖◌, ◌⊗◌, ◌⊘◌, minus_of}
use Rattle.std.specs.Prelude.{Float}
use Rattle.common.specs.Outcome.{Outcome, value}
use Rattle.common.specs.Decimal.{decimal, whole}
use Rattle.common.specs.Constant.{rgas_water, tc_water, dc_water}
use Rattle.inverses.specs.Formula.{root_of}
use Rattle.record.specs.State.{pressure_of}
use Rattle.helmholtz.specs.Hfe.{phi_delta, phi_tau, phi_tautau, joint_phi, joint_tau, joint_delta, four_delta, four_deltadelta, four_deltatau, four_tautau}

abbrev pub Formula : Type 0
Formula = Outcome Float → Outcome Float → Outcome Float

abbrev pub R : Outcome Float
R = value rgas_water

-- δ = ρ/ρ* and τ = T*/T
abbrev pub reduced_density : Outcome Float → Outcome Float
reduced_density d = d ⊘ value dc_water

abbrev pub inverse_temperature : Outcome Float → Outcome Float
inverse_temperature T = value tc_water ⊘ T

-- specific volume, m3/kg
unfoldable pub Td2v : Formula
Td2v T d = value (whole 1) ⊘ d

-- pressure, MPa
unfoldable pub Td2p : Formula
Td2p T d =
    let δ = reduced_density d in
    let τ = inverse_temperature T in
    value (decimal 0_001 3) ⊗ d ⊗ R ⊗ T ⊗ δ ⊗ phi_delta δ τ

-- specific enthalpy, kJ/kg
unfoldable pub Td2h : Formula
Td2h T d =
    let δ = reduced_density d in
    let τ = inverse_temperature T in
    R ⊗ T ⊗ (τ ⊗ joint_tau δ τ ⊕ δ ⊗ joint_delta δ τ)

-- specific entropy, kJ/(kg K)
unfoldable pub Td2s : Formula
Td2s T d =
    let δ = reduced_density d in
    let τ = inverse_temperature T in
    R ⊗ (τ ⊗ joint_tau δ τ ⊖ joint_phi δ τ)

-- specific internal energy, kJ/kg
unfoldable pub Td2u : Formula
Td2u T d =
    let δ = reduced_density d in
    let τ = inverse_temperature T in
    R ⊗ T ⊗ τ ⊗ phi_tau δ τ

-- specific isochoric heat capacity, kJ/(kg K)
unfoldable pub Td2cv : Formula
Td2cv T d =
    let δ = reduced_density d in
    let τ = inverse_temperature T in
    R ⊗ (minus_of τ ⊗ τ ⊗ phi_tautau δ τ)

-- what the four joint sums come to, from which cp and w are worked
pub record Sums : Type 0 where
  pub delta : Outcome Float
  pub deltadelta : Outcome Float
  pub deltatau : Outcome Float
  pub tautau : Outcome Float

abbrev pub sums : Outcome Float → Outcome Float → Sums
sums δ τ = record { delta = four_delta δ τ; deltadelta = four_deltadelta δ τ; deltatau = four_deltatau δ τ; tautau = four_tautau δ τ }

-- the steps of cp over any four sums
abbrev pub cp_over : Sums → Outcome Float → Outcome Float → Outcome Float
cp_over φ δ τ =
    let a = δ ⊗ (φ.delta ⊖ τ ⊗ φ.deltatau) in
    let b = δ ⊗ (value (whole 2) ⊗ φ.delta ⊕ δ ⊗ φ.deltadelta) in
    R ⊗ (minus_of τ ⊗ τ ⊗ φ.tautau ⊕ a ⊗ a ⊘ b)

-- the steps of w over any four sums, at a temperature
abbrev pub w_over : Outcome Float → Sums → Outcome Float → Outcome Float → Outcome Float
w_over T φ δ τ =
    let a = δ ⊗ φ.delta ⊖ δ ⊗ τ ⊗ φ.deltatau in
    let b = value (whole 2) ⊗ δ ⊗ φ.delta ⊕ δ ⊗ δ ⊗ φ.deltadelta in
    root_of (value (whole 1000) ⊗ R ⊗ T ⊗ (b ⊖ a ⊗ a ⊘ (τ ⊗ τ ⊗ φ.tautau)))

-- specific isobaric heat capacity, kJ/(kg K)
unfoldable pub Td2cp : Formula
Td2cp T d =
    let δ = reduced_density d in
    let τ = inverse_temperature T in
    cp_over (sums δ τ) δ τ

-- speed of sound, m/s
unfoldable pub Td2w : Formula
Td2w T d =
    let δ = reduced_density d in
    let τ = inverse_temperature T in
    w_over T (sums δ τ) δ τ

-- the p that a call works out: 4 where it lies outside its range
unfoldable pub state_pressure : Formula
state_pressure T d = pressure_of (Td2p T d)
