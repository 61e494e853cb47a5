-- The constants of the formulas as numbers that are worked with no check. Assumes nothing.
use mathlib.Core.Path.{refl}
use Rattle.common.specs.Outcome.{value}
use Rattle.common.specs.Decimal.{decimal, whole, scaled, plus}
use Rattle.common.specs.Constant.{rgas_water, tc_water, dc_water, TT}
use Rattle.common.specs.Formula.{Raw}
use Rattle.common.proofs.Formulas.{raw_value}
use Rattle.printed.specs.Table30.{n1}

pub R : Raw (value rgas_water) rgas_water
unfolding decimal scaled
R = raw_value rgas_water refl

pub Tc : Raw (value tc_water) tc_water
unfolding decimal scaled
Tc = raw_value tc_water refl

pub ρc : Raw (value dc_water) dc_water
unfolding whole scaled
ρc = raw_value dc_water refl

pub Tt : Raw (value TT) TT
unfolding decimal scaled
Tt = raw_value TT refl

pub n₁ : Raw (value n1) n1
unfolding plus scaled
n₁ = raw_value n1 refl
