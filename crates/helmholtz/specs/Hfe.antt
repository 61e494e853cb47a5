-- To believe: the dimensionless Helmholtz free energy φ of region 3 and its derivatives: R7-97(2012), equation 28 and table 32, in the order of operations of
-- r3/region3_hfe.rs. Every refusal here is 5, so it does not matter which operand is worked first. Assumes nothing: these are definitions.
use Rattle.common.specs.Formula.{◌⊕◌, ◌⊗◌, ◌⊘◌, minus_of}
use Rattle.std.specs.Prelude.{Float}
use Rattle.common.specs.Outcome.{Outcome, value, then}
use Rattle.inverses.specs.Formula.{logarithm_of}
use Rattle.algo.specs.declared.Order.{Order}
use Rattle.algo.specs.declared.Order.TheVariants.{Zero, One, Two}
use Rattle.algo.specs.declared.Share.{Share}
use Rattle.algo.specs.declared.Share.TheVariants.{Whole, I, J, Ii, Ij, Jj}
use Rattle.algo.specs.Table.{differentiated, sum_rule}
use Rattle.algo.specs.Joint.{share_rule}
use Rattle.printed.specs.Table30.{n1, table30}

-- of what δ and τ come to
abbrev pub Reduced : Type 0
Reduced = Outcome Float → Outcome Float → Outcome Float

-- ---- table 30, each sum by itself: the term n δ^I τ^J differentiated so often by δ and by τ

unfoldable pub slope : Order → Order → Reduced
slope a b δ τ = then δ (λ x. then τ (λ y. sum_rule (differentiated a b) x y table30))

-- equation 28
unfoldable pub phi : Reduced
phi δ τ = value n1 ⊗ logarithm_of δ ⊕ slope Zero Zero δ τ

unfoldable pub phi_delta : Reduced
phi_delta δ τ = value n1 ⊘ δ ⊕ slope One Zero δ τ

unfoldable pub phi_deltadelta : Reduced
phi_deltadelta δ τ = minus_of (value n1) ⊘ δ ⊘ δ ⊕ slope Two Zero δ τ

abbrev pub phi_tau : Reduced
phi_tau = slope Zero One

abbrev pub phi_tautau : Reduced
phi_tautau = slope Zero Two

abbrev pub phi_deltatau : Reduced
phi_deltatau = slope One One

-- ---- the joint sums, which share the term n δ^I τ^J, multiply it by I and J, and divide by δ and τ once

unfoldable pub share : Share → Reduced
share s δ τ = then δ (λ x. then τ (λ y. share_rule Zero s x y table30))

-- `polys_0_j_powi_reg3`
unfoldable pub joint_phi : Reduced
joint_phi δ τ = share Whole δ τ ⊕ value n1 ⊗ logarithm_of δ

-- `polys_0_j_powi_reg3` and `polys_i_j_powi_reg3`
abbrev pub joint_tau : Reduced
joint_tau = share J

-- `polys_i_j_powi_reg3`
unfoldable pub joint_delta : Reduced
joint_delta δ τ = share I δ τ ⊕ value n1 ⊘ δ

-- `polys_i_ii_ij_jj_powi_reg3`
unfoldable pub four_delta : Reduced
four_delta δ τ = value n1 ⊘ δ ⊕ share I δ τ

unfoldable pub four_deltadelta : Reduced
four_deltadelta δ τ = minus_of (value n1) ⊘ δ ⊘ δ ⊕ share Ii δ τ

abbrev pub four_deltatau : Reduced
four_deltatau = share Ij

abbrev pub four_tautau : Reduced
four_tautau = share Jj
