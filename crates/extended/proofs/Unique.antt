-- Each contract admits one answer: each is that of its formula's number (`numbers`), and of such a contract any two results coincide (`number_one`). The theorems are about the contracts' own readings, `Reads.Post`.
use mathlib.Core.Path.{◌≡◌, refl}
use borrow.Fn.Kinds.{Out}
use Rattle.common.specs.Outcome.{check}
use Rattle.common.proofs.Same.{One}
use Rattle.common.specs.Number.{Number}
use Rattle.common.proofs.Numbers.{one_number}
use Rattle.properties.specs.Td.{Formula}
use Rattle.extended.specs.Ext.{Td2f, Td2g, Td2kt, Td2ec, Td2joule, Td2iJTC, Td2dvdpct, Td2dpdtcv, Td2dvdtcp, Td2e, Td2fi}
use Rattle.extended.proofs as own

abbrev number_of : Formula → Out 0 own.region3_Td_ext.raw_f.Kinds.ps own.region3_Td_ext.raw_f.Kinds.r
number_of f κs a x e = Number (f (check a.0.0) (check a.1.0.0)) x

pub number_one : (f : Formula) → One 0 own.region3_Td_ext.raw_f.Kinds.ps own.region3_Td_ext.raw_f.Kinds.r (number_of f)
number_one f κs a e x y p q = one_number p q

pub numbers :
    (own.region3_Td_ext.raw_f.Reads.Post ≡ number_of Td2f) × (own.region3_Td_ext.raw_g.Reads.Post ≡ number_of Td2g) × (own.region3_Td_ext.raw_dvdpct.Reads.Post ≡ number_of Td2dvdpct) × (own.region3_Td_ext.raw_kt.Reads.Post ≡ number_of Td2kt)
    × (own.region3_Td_ext.raw_dvdtcp.Reads.Post ≡ number_of Td2dvdtcp) × (own.region3_Td_ext.raw_ec.Reads.Post ≡ number_of Td2ec) × (own.region3_Td_ext.raw_dpdtcv.Reads.Post ≡ number_of Td2dpdtcv)
    × (own.region3_Td_ext.raw_joule.Reads.Post ≡ number_of Td2joule) × (own.region3_Td_ext.raw_iJTC.Reads.Post ≡ number_of Td2iJTC) × (own.region3_Td_ext.raw_e.Reads.Post ≡ number_of Td2e)
    × (own.region3_Td_ext.raw_fi.Reads.Post ≡ number_of Td2fi)
numbers = (refl, refl, refl, refl, refl, refl, refl, refl, refl, refl, refl)
