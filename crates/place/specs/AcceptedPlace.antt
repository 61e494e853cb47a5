-- To believe: from a curve, with what is asked of it, to the place that the check accepts, in the order of docs/SCOPE.md: the start points of
-- r3/region3_pair_ext.rs, the search, the proposal's range, the check. Assumes nothing: these are definitions.
use Rattle.std.specs.Prelude.{Bool, cond, Float}
use Rattle.common.specs.Outcome.{Outcome, value, refused, then}
use Rattle.common.specs.Formula.{◌⊘◌}
use Rattle.common.specs.Decimal.{whole}
use Rattle.common.specs.Constant.{p_range_to, t_range_from, t_range_to, d_range_from, d_range_to}
use Rattle.common.specs.Range.{within}
use Rattle.border.specs.Border.{B23_T2p, B23_p2T}
use Rattle.volume_at.specs.Volumes.{pT2v_at}
use Rattle.secant.specs.Secant.{proposal_rule}
use Rattle.secant.specs.declared.Proposal.{Proposal}
use Rattle.secant.specs.declared.Curve.{Curve}
use Rattle.secant.specs.declared.Curve.TheVariants.{Isochore, Enthalpy, Entropy}
use Rattle.checks.specs.Checks.{check_p_rule, check_h_rule, check_s_rule}
use Rattle.place.specs.declared.Starts.{Starts}

-- ---- the start points

-- 1/v by the Rust's pT2v_reg3: with the critical point and the letter choice, and with no range test
unfoldable pub density_at : Float → Float → Outcome Float
density_at p t = value (whole 1) ⊘ pT2v_at p t

-- on an isotherm: the densities at the border with region 2 and at 100 MPa
unfoldable pub densities_at : Float → Outcome Starts
unfolding density_at
densities_at t =
    then (B23_T2p t) (λ p. then (density_at p t) (λ d1. then (density_at p_range_to t) (λ d2. value (record { first = d1; second = d2 }))))

-- on an isochore: 623.15 K and the border with region 2 at the asked p
abbrev pub temperatures_at : Float → Outcome Starts
temperatures_at p = then (B23_p2T p) (λ t. value (record { first = t_range_from; second = t }))

unfoldable pub starts_of : Curve → Outcome Starts
unfolding densities_at
starts_of (Isochore d p) = temperatures_at p.0
starts_of (Enthalpy t h) = densities_at t.0
starts_of (Entropy t s) = densities_at t.0

unfoldable pub proposed_for : Curve → Outcome Proposal
unfolding starts_of
proposed_for curve = then (starts_of curve) (λ s. proposal_rule curve s.first s.second)

-- ---- the proposal's range, 4 outside, and then the check

-- T on an isochore, d on an isotherm
abbrev pub in_range : Curve → Float → Bool
in_range (Isochore d p) x = within t_range_from t_range_to x
in_range (Enthalpy t h) x = within d_range_from d_range_to x
in_range (Entropy t s) x = within d_range_from d_range_to x

-- the check at the T and d of a place
abbrev pub check_on : Curve → Float → Outcome Unit
check_on (Isochore d p) x = check_p_rule x d.0 p.0
check_on (Enthalpy t h) x = check_h_rule t.0 x h.0
check_on (Entropy t s) x = check_s_rule t.0 x s.0

unfoldable pub accepted_at : Curve → Float → Outcome Unit
accepted_at curve x = cond (in_range curve x) (check_on curve x) (refused 4)

unfoldable pub found_on : Curve → Outcome Proposal
unfolding proposed_for accepted_at
found_on curve = then (proposed_for curve) (λ q. then (accepted_at curve q.place) (λ _. value q))
