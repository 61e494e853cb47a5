-- `by_number::property::Td_thermal_reg3`: cp and w, each the half of the joint call. The other arms need no answer.
use mathlib.Core.Path.{◌≡◌, refl}
use mir.Syntax.{w32}
use mir.Val.{of_z}
use Rattle.by_number.proofs.Numbers.{arm_cp, arm_w}
use Rattle.by_number.proofs.property.Td_thermal_reg3.Goals as goal

pub returns-in-8 : goal.returns-in-8
returns-in-8 c = let k : of_z w32 c.args.o_id ≡ 8 = cc in arm_cp _ _ c.ranges.o_id k c.Td2cp_w_reg3.ensures refl

pub returns-in-10 : goal.returns-in-10
returns-in-10 c = let k : of_z w32 c.args.o_id ≡ 10 = cc in arm_w _ _ c.ranges.o_id k c.Td2cp_w_reg3-in-10.ensures refl
