-- To believe: the six further properties that work p, by the formulas of r3/region3_Td_ext.rs: IAPWS does not define all of them, so the Rust's formulas
-- are the definitions. The p is range-tested (4), after what the Rust works before it and before what follows.
use Rattle.common.specs.Formula.{◌⊗◌, ◌⊘◌}
use Rattle.std.specs.Prelude.{false}
use Rattle.common.specs.Outcome.{value, then}
use Rattle.common.specs.Decimal.{whole, scaled, negative}
use Rattle.properties.specs.Td.{Formula, R, Td2v, Td2w, state_pressure}
use Rattle.extended.specs.Ext.{Td2ec, Td2kt, Td2dpdtcv, Td2fi}

-- OZ, the compressibility factor: v, then p
unfoldable pub Td2z : Formula
Td2z T d = then (Td2v T d) (λ v. then (state_pressure T d) (λ p. value (whole 1000) ⊗ value p ⊗ value v ⊘ R ⊘ T))

-- OKS, the isentropic exponent: w, then p
unfoldable pub Td2ks : Formula
Td2ks T d = then (Td2w T d) (λ w. then (state_pressure T d) (λ p. value (scaled false 1 0 (negative 6)) ⊗ value w ⊗ value w ⊗ d ⊘ value p))

-- OBETAP, the isothermal stress coefficient, kg/m3: kt, then p
unfoldable pub Td2batap : Formula
Td2batap T d = then (Td2kt T d) (λ kt. then (state_pressure T d) (λ p. d ⊘ (value p ⊗ value kt)))

-- OFU, the fugacity as the Rust has it, MPa: fi, then p
unfoldable pub Td2fu : Formula
Td2fu T d = then (Td2fi T d) (λ fi. then (state_pressure T d) (λ p. value p ⊗ value fi))

-- OPC, the isochoric pressure coefficient, 1/K: p first
unfoldable pub Td2pc : Formula
Td2pc T d = then (state_pressure T d) (λ p. value (whole 1) ⊘ value p ⊗ Td2dpdtcv T d)

-- OALFAP, the relative pressure coefficient, 1/K: p first
unfoldable pub Td2alfap : Formula
Td2alfap T d = then (state_pressure T d) (λ p. Td2ec T d ⊘ value p ⊘ Td2kt T d)
