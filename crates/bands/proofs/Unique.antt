-- Each contract admits one answer. Assumes nothing.
use mathlib.Core.Path.{sym, ◌∙◌}
use Rattle.common.proofs.Same.{One, same_result}
use Rattle.bands.proofs as own

pub answered_one : One 0 own.answered.Kinds.ps own.answered.Kinds.r own.answered.Reads.Post
answered_one κs a e x y p q = same_result _ x y p q

pub band_ab_one : One 0 own.band_ab.Kinds.ps own.band_ab.Kinds.r own.band_ab.Reads.Post
band_ab_one κs a e x y p q = same_result _ x y p q

pub band_cdef_one : One 0 own.band_cdef.Kinds.ps own.band_cdef.Kinds.r own.band_cdef.Reads.Post
band_cdef_one κs a e x y p q = same_result _ x y p q

pub band_chijk_one : One 0 own.band_chijk.Kinds.ps own.band_chijk.Kinds.r own.band_chijk.Reads.Post
band_chijk_one κs a e x y p q = p ∙ sym q

pub band_clmnopjk_one : One 0 own.band_clmnopjk.Kinds.ps own.band_clmnopjk.Kinds.r own.band_clmnopjk.Reads.Post
band_clmnopjk_one κs a e x y p q = same_result _ x y p q

pub band_csrk_one : One 0 own.band_csrk.Kinds.ps own.band_csrk.Kinds.r own.band_csrk.Reads.Post
band_csrk_one κs a e x y p q = same_result _ x y p q

pub band_cst_one : One 0 own.band_cst.Kinds.ps own.band_cst.Kinds.r own.band_cst.Reads.Post
band_cst_one κs a e x y p q = same_result _ x y p q

pub band_ct_one : One 0 own.band_ct.Kinds.ps own.band_ct.Kinds.r own.band_ct.Reads.Post
band_ct_one κs a e x y p q = same_result _ x y p q
