-- Each contract admits one answer. Assumes nothing.
use mathlib.Core.Path.{sym, ◌∙◌}
use Rattle.common.proofs.Same.{One, same_result}
use Rattle.boundaries.proofs.temperatures as own

pub T_atRegionBoundary_one : One 0 own.T_atRegionBoundary.Kinds.ps own.T_atRegionBoundary.Kinds.r own.T_atRegionBoundary.Reads.Post
T_atRegionBoundary_one κs a e x y p q = same_result _ x y p q

pub raw_boundary_one : One 0 own.raw_boundary.Kinds.ps own.raw_boundary.Kinds.r own.raw_boundary.Reads.Post
raw_boundary_one κs a e x y p q = p ∙ sym q

pub bare_boundary_one : One 0 own.bare_boundary.Kinds.ps own.bare_boundary.Kinds.r own.bare_boundary.Reads.Post
bare_boundary_one κs a e x y p q = p ∙ sym q
