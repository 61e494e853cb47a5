-- Each contract admits one answer. Assumes nothing.
use mathlib.Core.Path.{sym, ◌∙◌}
use Rattle.common.proofs.Same.{One}
use Rattle.choosers.proofs as own

pub by_ab_one : One 0 own.letter_by.by_ab.Kinds.ps own.letter_by.by_ab.Kinds.r own.letter_by.by_ab.Reads.Post
by_ab_one κs a e x y p q = p ∙ sym q

pub by_cdef_one : One 0 own.letter_by.by_cdef.Kinds.ps own.letter_by.by_cdef.Kinds.r own.letter_by.by_cdef.Reads.Post
by_cdef_one κs a e x y p q = p ∙ sym q

pub by_chijk_one : One 0 own.letter_by.by_chijk.Kinds.ps own.letter_by.by_chijk.Kinds.r own.letter_by.by_chijk.Reads.Post
by_chijk_one κs a e x y p q = p ∙ sym q

pub by_clmnopjk_one : One 0 own.letter_by.by_clmnopjk.Kinds.ps own.letter_by.by_clmnopjk.Kinds.r own.letter_by.by_clmnopjk.Reads.Post
by_clmnopjk_one κs a e x y p q = p ∙ sym q

pub by_csrk_one : One 0 own.letter_by.by_csrk.Kinds.ps own.letter_by.by_csrk.Kinds.r own.letter_by.by_csrk.Reads.Post
by_csrk_one κs a e x y p q = p ∙ sym q

pub by_cst_one : One 0 own.letter_by.by_cst.Kinds.ps own.letter_by.by_cst.Kinds.r own.letter_by.by_cst.Reads.Post
by_cst_one κs a e x y p q = p ∙ sym q

pub by_ct_one : One 0 own.letter_by.by_ct.Kinds.ps own.letter_by.by_ct.Kinds.r own.letter_by.by_ct.Reads.Post
by_ct_one κs a e x y p q = p ∙ sym q

pub round_critical_one : One 0 own.letter_by.round_critical.Kinds.ps own.letter_by.round_critical.Kinds.r own.letter_by.round_critical.Reads.Post
round_critical_one κs a e x y p q = p ∙ sym q

pub by_uvwx_one : One 0 own.letter_by.by_uvwx.Kinds.ps own.letter_by.by_uvwx.Kinds.r own.letter_by.by_uvwx.Reads.Post
by_uvwx_one κs a e x y p q = p ∙ sym q

pub by_uyzx_one : One 0 own.letter_by.by_uyzx.Kinds.ps own.letter_by.by_uyzx.Kinds.r own.letter_by.by_uyzx.Reads.Post
by_uyzx_one κs a e x y p q = p ∙ sym q

pub by_saturated_one : One 0 own.letter_by.by_saturated.Kinds.ps own.letter_by.by_saturated.Kinds.r own.letter_by.by_saturated.Reads.Post
by_saturated_one κs a e x y p q = p ∙ sym q
