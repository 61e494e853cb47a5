-- Each contract admits one answer. The theorems are about the contracts' own readings, `Reads.Post`, and not about a copy of them.
-- Assumes nothing.
use Rattle.common.proofs.Same.{One, same_result}
use Rattle.polynomial.proofs as polynomial

pub poly_powi_one : One 3 polynomial.polynomial.poly_powi.Kinds.ps polynomial.polynomial.poly_powi.Kinds.r polynomial.polynomial.poly_powi.Reads.Post
poly_powi_one κs a e x y p q = same_result _ x y p q

pub poly_i_powi_one : One 3 polynomial.polynomial.poly_i_powi.Kinds.ps polynomial.polynomial.poly_i_powi.Kinds.r polynomial.polynomial.poly_i_powi.Reads.Post
poly_i_powi_one κs a e x y p q = same_result _ x y p q

pub poly_ii_powi_one : One 3 polynomial.polynomial.poly_ii_powi.Kinds.ps polynomial.polynomial.poly_ii_powi.Kinds.r polynomial.polynomial.poly_ii_powi.Reads.Post
poly_ii_powi_one κs a e x y p q = same_result _ x y p q

pub poly_ij_powi_one : One 3 polynomial.polynomial.poly_ij_powi.Kinds.ps polynomial.polynomial.poly_ij_powi.Kinds.r polynomial.polynomial.poly_ij_powi.Reads.Post
poly_ij_powi_one κs a e x y p q = same_result _ x y p q

pub poly_j_powi_one : One 3 polynomial.polynomial.poly_j_powi.Kinds.ps polynomial.polynomial.poly_j_powi.Kinds.r polynomial.polynomial.poly_j_powi.Reads.Post
poly_j_powi_one κs a e x y p q = same_result _ x y p q

pub poly_jj_powi_one : One 3 polynomial.polynomial.poly_jj_powi.Kinds.ps polynomial.polynomial.poly_jj_powi.Kinds.r polynomial.polynomial.poly_jj_powi.Reads.Post
poly_jj_powi_one κs a e x y p q = same_result _ x y p q

pub polys_0_j_powi_one : One 3 polynomial.polynomial.polys_0_j_powi.Kinds.ps polynomial.polynomial.polys_0_j_powi.Kinds.r polynomial.polynomial.polys_0_j_powi.Reads.Post
polys_0_j_powi_one κs a e x y p q = same_result _ x y p q

pub polys_i_j_powi_one : One 3 polynomial.polynomial.polys_i_j_powi.Kinds.ps polynomial.polynomial.polys_i_j_powi.Kinds.r polynomial.polynomial.polys_i_j_powi.Reads.Post
polys_i_j_powi_one κs a e x y p q = same_result _ x y p q

pub polys_i_ij_powi_one : One 3 polynomial.polynomial.polys_i_ij_powi.Kinds.ps polynomial.polynomial.polys_i_ij_powi.Kinds.r polynomial.polynomial.polys_i_ij_powi.Reads.Post
polys_i_ij_powi_one κs a e x y p q = same_result _ x y p q

pub polys_i_ii_powi_one : One 3 polynomial.polynomial.polys_i_ii_powi.Kinds.ps polynomial.polynomial.polys_i_ii_powi.Kinds.r polynomial.polynomial.polys_i_ii_powi.Reads.Post
polys_i_ii_powi_one κs a e x y p q = same_result _ x y p q

pub polys_i_ii_ij_jj_powi_one : One 3 polynomial.polynomial.polys_i_ii_ij_jj_powi.Kinds.ps polynomial.polynomial.polys_i_ii_ij_jj_powi.Kinds.r polynomial.polynomial.polys_i_ii_ij_jj_powi.Reads.Post
polys_i_ii_ij_jj_powi_one κs a e x y p q = same_result _ x y p q
