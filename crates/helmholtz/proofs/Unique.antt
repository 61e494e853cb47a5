-- Each contract admits one answer. The theorems are about the contracts' own readings, `Reads.Post`, and not about a copy of them.
use Rattle.common.proofs.Same.{One}
use Rattle.common.proofs.Numbers.{one_number}
use Rattle.helmholtz.proofs as own

pub phi_reg3_one : One 0 own.region3_hfe.phi_reg3.Kinds.ps own.region3_hfe.phi_reg3.Kinds.r own.region3_hfe.phi_reg3.Reads.Post
phi_reg3_one κs a e x y p q = one_number p q

pub phi_delta_reg3_one : One 0 own.region3_hfe.phi_reg3.Kinds.ps own.region3_hfe.phi_reg3.Kinds.r own.region3_hfe.phi_delta_reg3.Reads.Post
phi_delta_reg3_one κs a e x y p q = one_number p q

pub phi_deltadelta_reg3_one : One 0 own.region3_hfe.phi_reg3.Kinds.ps own.region3_hfe.phi_reg3.Kinds.r own.region3_hfe.phi_deltadelta_reg3.Reads.Post
phi_deltadelta_reg3_one κs a e x y p q = one_number p q

pub phi_tau_reg3_one : One 0 own.region3_hfe.phi_reg3.Kinds.ps own.region3_hfe.phi_reg3.Kinds.r own.region3_hfe.phi_tau_reg3.Reads.Post
phi_tau_reg3_one κs a e x y p q = one_number p q

pub phi_tautau_reg3_one : One 0 own.region3_hfe.phi_reg3.Kinds.ps own.region3_hfe.phi_reg3.Kinds.r own.region3_hfe.phi_tautau_reg3.Reads.Post
phi_tautau_reg3_one κs a e x y p q = one_number p q

pub phi_deltatau_reg3_one : One 0 own.region3_hfe.phi_reg3.Kinds.ps own.region3_hfe.phi_reg3.Kinds.r own.region3_hfe.phi_deltatau_reg3.Reads.Post
phi_deltatau_reg3_one κs a e x y p q = one_number p q

pub polys_0_j_powi_reg3_one : One 0 own.region3_hfe.polys_0_j_powi_reg3.Kinds.ps own.region3_hfe.polys_0_j_powi_reg3.Kinds.r own.region3_hfe.polys_0_j_powi_reg3.Reads.Post
polys_0_j_powi_reg3_one κs a e x y p q = rw (p.0.is, p.1.is, q.0.is, q.1.is)

pub polys_i_j_powi_reg3_one : One 0 own.region3_hfe.polys_i_j_powi_reg3.Kinds.ps own.region3_hfe.polys_i_j_powi_reg3.Kinds.r own.region3_hfe.polys_i_j_powi_reg3.Reads.Post
polys_i_j_powi_reg3_one κs a e x y p q = rw (p.0.is, p.1.is, q.0.is, q.1.is)

pub polys_i_ii_ij_jj_powi_reg3_one : One 0 own.region3_hfe.polys_i_ii_ij_jj_powi_reg3.Kinds.ps own.region3_hfe.polys_i_ii_ij_jj_powi_reg3.Kinds.r own.region3_hfe.polys_i_ii_ij_jj_powi_reg3.Reads.Post
polys_i_ii_ij_jj_powi_reg3_one κs a e x y p q = rw (p.0.is, p.1.is, p.2.is, p.3.is, q.0.is, q.1.is, q.2.is, q.3.is)
