-- `properties::region3_Td::raw_cp_w`: each half over the four sums that were worked (Worked), as the joint definition has it.
use Rattle.properties.proofs.Worked.{cp_worked, w_worked}
use Rattle.properties.proofs.region3_Td.raw_cp_w.Goals as goal

pub returns : goal.returns
returns c =
    let a = c.args in
    let τ = c.tau_of-tau.ensures.raw in
    let δ = c.delta_of-delta.ensures.raw in
    let four = c.polys_i_ii_ij_jj_powi_reg3-phi.ensures in (
      cp_worked a.t.0 a.d.0 δ τ four.0.raw four.1.raw four.2.raw four.3.raw c.cp_over-cp.ensures,
      w_worked a.t.0 a.d.0 δ τ four.0.raw four.1.raw four.2.raw four.3.raw c.w_over-w.ensures,
    )
