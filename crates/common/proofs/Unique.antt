-- Each contract admits one answer. The theorems are about the contracts' own readings, `Reads.Post`, and not about a copy of them.
-- Assumes nothing.
use mathlib.Core.Path.{sym, ◌∙◌}
use Rattle.common.proofs.Same.{One, same_result}
use denote.RattleType.{RattleType}
use denote.Param.Laws.{Laws}
use mir.Syntax.{Dict}
use Rattle.common.proofs as common

pub constants_one : One 0 common.constants.Kinds.ps common.constants.Kinds.r common.constants.Reads.Post
constants_one κs a e x y p q = p ∙ sym q

pub property_numbers_one : One 0 common.property_numbers.Kinds.ps common.property_numbers.Kinds.r common.property_numbers.Reads.Post
property_numbers_one κs a e x y p q = p ∙ sym q

pub is_finite_one : One 0 common.is_finite.Kinds.ps common.is_finite.Kinds.r common.is_finite.Reads.Post
is_finite_one κs a e x y p q = p ∙ sym q

pub settle_one : One 0 common.settle.Kinds.ps common.settle.Kinds.r common.settle.Reads.Post
settle_one κs a e x y p q = same_result _ x y p q

pub or_nan_one : One 0 common.or_nan.Kinds.ps common.or_nan.Kinds.r common.or_nan.Reads.Post
or_nan_one κs a e x y p q = p ∙ sym q

pub finite_or_nan_one : One 0 common.finite_or_nan.Kinds.ps common.finite_or_nan.Kinds.r common.finite_or_nan.Reads.Post
finite_or_nan_one κs a e x y p q = p ∙ sym q

pub over_one : One 0 common.over.Kinds.ps common.over.Kinds.r common.over.Reads.Post
over_one κs a e x y p q = p ∙ sym q

pub size_one : One 0 common.size.Kinds.ps common.size.Kinds.r common.size.Reads.Post
size_one κs a e x y p q = p ∙ sym q

pub check_only_one : One 0 common.check_only.Kinds.ps common.check_only.Kinds.r common.check_only.Reads.Post
check_only_one κs a e x y p q = same_result _ x y p q

pub check_pair_one : One 0 common.check_pair.Kinds.ps common.check_pair.Kinds.r common.check_pair.Reads.Post
check_pair_one κs a e x y p q = same_result _ x y p q

pub in_p_one : One 0 common.in_p.Kinds.ps common.in_p.Kinds.r common.in_p.Reads.Post
in_p_one κs a e x y p q = p ∙ sym q

pub in_t_one : One 0 common.in_t.Kinds.ps common.in_t.Kinds.r common.in_t.Reads.Post
in_t_one κs a e x y p q = p ∙ sym q

pub in_d_one : One 0 common.in_d.Kinds.ps common.in_d.Kinds.r common.in_d.Reads.Post
in_d_one κs a e x y p q = p ∙ sym q

pub check_Td_one : One 0 common.check_Td.Kinds.ps common.check_Td.Kinds.r common.check_Td.Reads.Post
check_Td_one κs a e x y p q = same_result _ x y p q

pub check_pT_one : One 0 common.check_pT.Kinds.ps common.check_pT.Kinds.r common.check_pT.Reads.Post
check_pT_one κs a e x y p q = same_result _ x y p q

pub check_ph_one : One 0 common.check_ph.Kinds.ps common.check_ph.Kinds.r common.check_ph.Reads.Post
check_ph_one κs a e x y p q = same_result _ x y p q

pub check_ps_one : One 0 common.check_ps.Kinds.ps common.check_ps.Kinds.r common.check_ps.Reads.Post
check_ps_one κs a e x y p q = same_result _ x y p q

pub check_hs_one : One 0 common.check_hs.Kinds.ps common.check_hs.Kinds.r common.check_hs.Reads.Post
check_hs_one κs a e x y p q = same_result _ x y p q

pub refusal_byte_one : (T : RattleType) (L : Laws T) (D : Dict) → One 1 (common.refusal_byte.Kinds.ps T L) (common.refusal_byte.Kinds.r T L) (common.refusal_byte.Reads.Post T L D)
refusal_byte_one T L D κs a e x y p q = p ∙ sym q

pub contains_one : One 0 common.Interval.contains.Kinds.ps common.Interval.contains.Kinds.r common.Interval.contains.Reads.Post
contains_one κs a e x y p q = p ∙ sym q

pub from_one : One 0 common.U8FromRefusal.from.Kinds.ps common.U8FromRefusal.from.Kinds.r common.U8FromRefusal.from.Reads.Post
from_one κs a e x y p q = p ∙ sym q
