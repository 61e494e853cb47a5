-- `volume::volume_by`: each arm's proof has the shape of its equation.
use Rattle.algo.proofs.Step.{raw_sum_of}
use Rattle.common.proofs.Formulas.{raw_first, raw_less, raw_times, named}
use Rattle.common.specs.Formula.{Raw}
use mathlib.Core.Path.{sym, subst}
use lib.Dec.{T}
use lib.IntN.{pos}
use lib.Ieee.{Float, binary64, div, sub, fits}
use lib.Ieee.Fits.{sub-fits}
use Rattle.rules.proofs.Formulas.{raw_power_of, raw_exponential_of}
use Rattle.inverses.proofs.Formulas.{raw_root_of}
use Rattle.volume.specs.Equation.{less, volume_by}
use Rattle.volume.proofs.region3_v_subregion_pT.volume_by.Goals as goal

-- p / p* - a and T / T* - b
reduced : (x s y : Float) → Raw (less x s y) (sub binary64 (div binary64 x s) y)
reduced x s y = raw_less y (raw_first (div binary64) x s)

-- an f64
of_f64 : (x s y : Float) → T (fits binary64 (sub binary64 (div binary64 x s) y))
of_f64 x s y = sub-fits binary64 (div binary64 x s) y

pub returns-in-Plain : goal.returns-in-Plain
unfolding volume_by
returns-in-Plain c = rw c.in-Plain.is (sym (raw_times _ (named c.letter_sum.ensures (raw_sum_of _ (reduced _ _ _) (reduced _ _ _)))).is)

pub returns-in-RootP : goal.returns-in-RootP
unfolding volume_by
returns-in-RootP c =
    rw c.in-RootP.is (sym (raw_times _ (named c.letter_sum-in-RootP.ensures (raw_sum_of _
    (named c.raw_root.ensures (raw_root_of (of_f64 _ _ _) (reduced _ _ _))) (reduced _ _ _)))).is)

pub returns-in-FourthRootT : goal.returns-in-FourthRootT
unfolding volume_by
returns-in-FourthRootT c =
    rw c.in-FourthRootT.is (sym (raw_times _ (named c.letter_sum-in-FourthRootT.ensures (raw_sum_of _ (reduced _ _ _)
    (named c.raw_root-in-FourthRootT-2.ensures (raw_root_of (subst T (sym c.raw_root-in-FourthRootT.type_inv) tt)
    (named c.raw_root-in-FourthRootT.ensures (raw_root_of (of_f64 _ _ _) (reduced _ _ _)))))))).is)

pub returns-in-Fourth : goal.returns-in-Fourth
unfolding volume_by
returns-in-Fourth c =
    rw c.in-Fourth.is (sym (raw_times _ (named c.raw_power.ensures (raw_power_of (pos 4)
    (named c.letter_sum-in-Fourth.ensures (raw_sum_of _ (reduced _ _ _) (reduced _ _ _)))))).is)

pub returns-in-RootPFourth : goal.returns-in-RootPFourth
unfolding volume_by
returns-in-RootPFourth c =
    rw c.in-RootPFourth.is (sym (raw_times _ (named c.raw_power-in-RootPFourth.ensures (raw_power_of (pos 4)
    (named c.letter_sum-in-RootPFourth.ensures (raw_sum_of _
    (named c.raw_root-in-RootPFourth.ensures (raw_root_of (of_f64 _ _ _) (reduced _ _ _))) (reduced _ _ _)))))).is)

pub returns-in-Exponential : goal.returns-in-Exponential
unfolding volume_by
returns-in-Exponential c =
    rw c.in-Exponential.is (sym (raw_times _ (named c.raw_exponential.ensures (raw_exponential_of
    (named c.letter_sum-in-Exponential.ensures (raw_sum_of _ (reduced _ _ _) (reduced _ _ _)))))).is)
