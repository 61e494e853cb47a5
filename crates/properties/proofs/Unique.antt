-- Each contract admits one answer. The theorems are about the contracts' own readings, `Reads.Post`.
use mathlib.Core.Path.{◌≡◌, refl, sym, ap, ◌∙◌}
use lib.Ieee.{Float}
use borrow.Fn.Kinds.{Out}
use Rattle.common.specs.Outcome.{check}
use Rattle.common.proofs.Same.{One, same_result}
use Rattle.common.specs.Number.{Number}
use Rattle.properties.specs.Td.{Formula, Td2v, Td2p, Td2u, Td2s, Td2h, Td2cv}
use Rattle.common.proofs.Numbers.{one_number}
use Rattle.properties.proofs as own

pub lost_or_one : One 0 own.lost.lost_or.Kinds.ps own.lost.lost_or.Kinds.r own.lost.lost_or.Reads.Post
lost_or_one κs a e x y p q = p ∙ sym q

pub tau_of_one : One 0 own.region3_Td.tau_of.Kinds.ps own.region3_Td.tau_of.Kinds.r own.region3_Td.tau_of.Reads.Post
tau_of_one κs a e x y p q = one_number p q

pub delta_of_one : One 0 own.region3_Td.delta_of.Kinds.ps own.region3_Td.delta_of.Kinds.r own.region3_Td.delta_of.Reads.Post
delta_of_one κs a e x y p q = one_number p q

-- each of table 31 is the number of its formula, and of such a contract any two results coincide
abbrev number_of : Formula → Out 0 own.region3_Td.raw_v.Kinds.ps own.region3_Td.raw_v.Kinds.r
number_of f κs a x e = Number (f (check a.0.0) (check a.1.0.0)) x

pub number_one : (f : Formula) → One 0 own.region3_Td.raw_v.Kinds.ps own.region3_Td.raw_v.Kinds.r (number_of f)
number_one f κs a e x y p q = one_number p q

pub numbers :
    (own.region3_Td.raw_v.Reads.Post ≡ number_of Td2v) × (own.region3_Td.raw_p.Reads.Post ≡ number_of Td2p) × (own.region3_Td.raw_u.Reads.Post ≡ number_of Td2u) × (own.region3_Td.raw_s.Reads.Post ≡ number_of Td2s)
    × (own.region3_Td.raw_h.Reads.Post ≡ number_of Td2h) × (own.region3_Td.raw_cv.Reads.Post ≡ number_of Td2cv)
numbers = (refl, refl, refl, refl, refl, refl)

-- half by half
pub raw_cp_w_one : One 0 own.region3_Td.raw_cp_w.Kinds.ps own.region3_Td.raw_cp_w.Kinds.r own.region3_Td.raw_cp_w.Reads.Post
raw_cp_w_one κs a e x y p q =
    ap (λ (cp : Float). record { cp = cp; w = x.w }) (one_number p.0 q.0) ∙ ap (λ (w : Float). record { cp = y.cp; w = w }) (one_number p.1 q.1)

pub state_p_one : One 0 own.region3_Td.state_p.Kinds.ps own.region3_Td.state_p.Kinds.r own.region3_Td.state_p.Reads.Post
state_p_one κs a e x y p q = same_result _ x y p q
