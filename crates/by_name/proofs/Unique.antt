-- Each contract admits one answer: each is what a call of its formula answers (`by_name`), and of such a contract any two answers coincide (`called_one`).
-- The theorems are about the contracts' own readings, `Reads.Post`.
use mathlib.Core.Path.{◌≡◌, refl}
use borrow.Fn.Kinds.{Out}
use Rattle.common.specs.Answer.{paper}
use Rattle.common.proofs.Same.{One, same_result}
use Rattle.properties.specs.Td.{Formula, Td2v, Td2h, Td2s, Td2u, Td2cv, Td2cp, Td2w, state_pressure}
use Rattle.extended.specs.Ext.{Td2f, Td2g, Td2kt, Td2ec, Td2joule, Td2iJTC, Td2dvdpct, Td2dpdtcv, Td2dvdtcp, Td2e, Td2fi}
use Rattle.extended_with_p.specs.WithP.{Td2z, Td2ks, Td2pc, Td2batap, Td2fu, Td2alfap}
use Rattle.by_number.specs.Property.{called}
use Rattle.by_name.proofs as own

-- what a call of a formula promises
abbrev answers : Formula → Out 0 own.Td2p_reg3.Kinds.ps own.Td2p_reg3.Kinds.r
answers f κs a x e = paper x ≡ called f a.0.0 a.1.0.0

pub called_one : (f : Formula) → One 0 own.Td2p_reg3.Kinds.ps own.Td2p_reg3.Kinds.r (answers f)
called_one f κs a e x y p q = same_result _ x y p q

pub by_name :
    (own.Td2p_reg3.Reads.Post ≡ answers state_pressure) × (own.Td2v_reg3.Reads.Post ≡ answers Td2v) × (own.Td2h_reg3.Reads.Post ≡ answers Td2h)
    × (own.Td2s_reg3.Reads.Post ≡ answers Td2s) × (own.Td2e_reg3.Reads.Post ≡ answers Td2e) × (own.Td2u_reg3.Reads.Post ≡ answers Td2u) × (own.Td2cp_reg3.Reads.Post ≡ answers Td2cp)
    × (own.Td2cv_reg3.Reads.Post ≡ answers Td2cv) × (own.Td2w_reg3.Reads.Post ≡ answers Td2w) × (own.Td2ks_reg3.Reads.Post ≡ answers Td2ks) × (own.Td2f_reg3.Reads.Post ≡ answers Td2f)
    × (own.Td2g_reg3.Reads.Post ≡ answers Td2g) × (own.Td2z_reg3.Reads.Post ≡ answers Td2z) × (own.Td2ec_reg3.Reads.Post ≡ answers Td2ec) × (own.Td2kt_reg3.Reads.Post ≡ answers Td2kt)
    × (own.Td2dvdtcp_reg3.Reads.Post ≡ answers Td2dvdtcp) × (own.Td2dvdpct_reg3.Reads.Post ≡ answers Td2dvdpct) × (own.Td2dpdtcv_reg3.Reads.Post ≡ answers Td2dpdtcv)
    × (own.Td2iJTC_reg3.Reads.Post ≡ answers Td2iJTC) × (own.Td2joule_reg3.Reads.Post ≡ answers Td2joule) × (own.Td2pc_reg3.Reads.Post ≡ answers Td2pc)
    × (own.Td2batap_reg3.Reads.Post ≡ answers Td2batap) × (own.Td2fi_reg3.Reads.Post ≡ answers Td2fi) × (own.Td2fu_reg3.Reads.Post ≡ answers Td2fu)
    × (own.Td2alfap_reg3.Reads.Post ≡ answers Td2alfap)
by_name = (refl, refl, refl, refl, refl, refl, refl, refl, refl, refl, refl, refl, refl, refl, refl, refl, refl, refl, refl, refl, refl, refl, refl, refl, refl)
