-- Each contract admits one answer. Assumes nothing.
use mathlib.Core.Path.{sym, ◌∙◌}
use Rattle.common.proofs.Same.{One, same_result}
use Rattle.r4.proofs as r4

pub p_saturation_one : One 0 r4.p_saturation.Kinds.ps r4.p_saturation.Kinds.r r4.p_saturation.Reads.Post
p_saturation_one κs a e x y p q = same_result _ x y p q

pub T_saturation_one : One 0 r4.T_saturation.Kinds.ps r4.T_saturation.Kinds.r r4.T_saturation.Reads.Post
T_saturation_one κs a e x y p q = same_result _ x y p q

pub raw_T_saturation_one : One 0 r4.raw_T_saturation.Kinds.ps r4.raw_T_saturation.Kinds.r r4.raw_T_saturation.Reads.Post
raw_T_saturation_one κs a e x y p q = p ∙ sym q
