-- Each contract admits one answer: each is that of its formula (`answers`), and of such a contract any two results coincide (`answer_one`). The theorems are
-- about the contracts' own readings, `Reads.Post`.
use mathlib.Core.Path.{◌≡◌, refl}
use borrow.Fn.Kinds.{Out}
use Rattle.common.specs.Outcome.{check}
use Rattle.common.specs.Answer.{paper}
use Rattle.common.proofs.Same.{One, same_result}
use Rattle.properties.specs.Td.{Formula}
use Rattle.extended_with_p.specs.WithP.{Td2z, Td2ks, Td2batap, Td2fu, Td2pc, Td2alfap}
use Rattle.extended_with_p.proofs as own

abbrev answer_of : Formula → Out 0 own.state_z.Kinds.ps own.state_z.Kinds.r
answer_of f κs a x e = paper x ≡ f (check a.0.0) (check a.1.0.0)

pub answer_one : (f : Formula) → One 0 own.state_z.Kinds.ps own.state_z.Kinds.r (answer_of f)
answer_one f κs a e x y p q = same_result _ x y p q

pub answers :
    (own.state_z.Reads.Post ≡ answer_of Td2z) × (own.state_ks.Reads.Post ≡ answer_of Td2ks) × (own.state_batap.Reads.Post ≡ answer_of Td2batap) × (own.state_fu.Reads.Post ≡ answer_of Td2fu)
    × (own.state_pc.Reads.Post ≡ answer_of Td2pc) × (own.state_alfap.Reads.Post ≡ answer_of Td2alfap)
answers = (refl, refl, refl, refl, refl, refl)
