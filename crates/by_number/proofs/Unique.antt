-- Each public contract admits one answer. The theorems are about the contracts' own readings, `Reads.Post`. Assumes nothing.
use mathlib.Core.Path.{ap, ◌∙◌}
use lib.Ieee.{Float}
use Rattle.std.specs.Prelude.{Result}
use Rattle.common.specs.declared.Refusal.{Refusal}
use Rattle.properties.specs.Together.{CpAndW}
use Rattle.common.proofs.Same.{One, same_result}
use Rattle.by_number.proofs as own

-- half by half
pub Td2cp_w_reg3_one : One 0 own.property.Td2cp_w_reg3.Kinds.ps own.property.Td2cp_w_reg3.Kinds.r own.property.Td2cp_w_reg3.Reads.Post
Td2cp_w_reg3_one κs a e x y p q =
    let cp = same_result _ x.cp y.cp (ap (λ (r : CpAndW). r.cp) p) (ap (λ (r : CpAndW). r.cp) q) in
    let w = same_result _ x.w y.w (ap (λ (r : CpAndW). r.w) p) (ap (λ (r : CpAndW). r.w) q) in
    ap (λ (cp : Result Float Refusal). record { cp = cp; w = x.w }) cp ∙ ap (λ (w : Result Float Refusal). record { cp = y.cp; w = w }) w

pub Td_thermal_reg3_one : One 0 own.property.Td_thermal_reg3.Kinds.ps own.property.Td_thermal_reg3.Kinds.r own.property.Td_thermal_reg3.Reads.Post
Td_thermal_reg3_one κs a e x y p q = same_result _ x y p q
