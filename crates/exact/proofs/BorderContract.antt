-- The exact border on the contracts themselves, for two f64s of the box. Below it by a millionth of a kelvin or more, `check_region3` accepts, and
-- `sub_region3_pT` does not refuse with 8; above it by as much, both refuse with 8. Assumes nothing.
use mathlib.Core.Path.{◌≡◌, refl, sym, ap, ◌∙◌, subst}
use Prim.Native.Nat.{ℕ}
use native.Mathlib.Omega.{arith}
use mathlib.Core.Bool.{Bool, true, false, ◌&&◌, cond}
use lib.Ieee.{Float, nan, inf, fin, le, lt}
use contract.Lifetimes.{Lfts}
use denote.Triple.Clauses.{AtExit}
use borrow.Fn.Kinds.{Dens, ended_of, res_t}
use Rattle.std.specs.Prelude.{Result, Ok, Err}
use Rattle.common.specs.Outcome.{Outcome, value, refused, check, then, or_nan}
use Rattle.common.specs.Decimal.{decimal}
use Rattle.common.specs.Answer.{number_of, paper}
use Rattle.common.proofs.Calls.{no_value}
use Rattle.common.proofs.Same.{kind_of, kind_number}
use Rattle.common.specs.declared.Refusal.{Refusal}
use Rattle.common.specs.declared.Refusal.TheVariants.{Border}
use Rattle.rounding.specs.Fraction.{scaled_by}
use Rattle.subregion.specs.declared.Letter.{Letter}
use Rattle.subregion.specs.declared.Letter.TheVariants.{C, K, Q, R}
use Rattle.r4.specs.Saturation.{T_saturation}
use Rattle.r4.proofs.Raw.{T_checked}
use Rattle.border.specs.Border.{region3_box}
use Rattle.border.proofs.check_region3.Kinds as check-kinds
use Rattle.border.proofs.check_region3.Reads as checked
use Rattle.boundaries.specs.Boundary.{boundary_of}
use Rattle.boundaries.specs.Raw.{raw_at}
use Rattle.boundaries.specs.declared.Boundary.{Boundary}
use Rattle.boundaries.specs.declared.Boundary.TheVariants.{Ab, Cd, Ef, Gh, Ij, Jk, Mn, Op, Qu, Rx, Uv, Wx}
use Rattle.boundaries.proofs.TableSums.{boundary_check}
use Rattle.choosers.specs.Choosers.{Band, ab, cdef, cghijk, clhijk, clmnopjk, cq_rk, csrk, cst, ct, band_of}
use Rattle.boundary.specs.Choice.{ab_rule, cdef_rule, chijk_rule, clmnopjk_rule, near_rule, cq_rk_rule, csrk_rule, cst_rule, ct_rule, in_band, limit, letter_at}
use Rattle.boundary.specs.Choice.{letter_rule}
use Rattle.boundary.proofs.Limit.{limit_is}
use Rattle.boundary.proofs.sub_region3_pT.Kinds as choice-kinds
use Rattle.boundary.proofs.sub_region3_pT.Reads as choice
use Rattle.distance.proofs.Contract.{taken}
use Rattle.exact.specs.Premises.{InBox, BorderClear}
use Rattle.exact.proofs.Border.{below_border, above_border}

-- ---- behind the border, no step of the letter choice refuses with 8
abbrev NotEight : {A : Type 0} → Outcome A → Type 0
NotEight {A} o = ◌≡◌ {A = Outcome A} o (refused 8) → ⊥

refused_same : {A : Type 0} {j k : ℕ} → ◌≡◌ {A = Outcome A} (refused j) (refused k) → j ≡ k
refused_same e = cc

then_not : {A B : Type 0} (o : Outcome A) (f : A → Outcome B) → NotEight o → ((x : A) → NotEight (f x)) → NotEight (then o f)
then_not (value x) f h k e = k x e
then_not (refused j) f h k e = h (ap refused (refused_same e))

FiveNot : {A : Type 0} → ◌≡◌ {A = Outcome A} (refused 5) (refused 8) → ⊥
FiveNot e = let z : ◌≡◌ {A = ℕ} 5 8 = refused_same e in omega arith

check_not : (x : Float) → NotEight (check x)
check_not nan e = FiveNot e
check_not (inf s) e = FiveNot e
check_not (fin s m d) e = no_value (sym e)

module _ (p t : Float) where
  line : {A : Type 0} (b : Boundary) (f : Float → Outcome A) → ((x : Float) → NotEight (f x)) → NotEight (then (boundary_of b p) f)
  line b f h = then_not (boundary_of b p) f (subst NotEight (boundary_check b p) (check_not (raw_at b p))) h

  saturated : {A : Type 0} (f : Float → Outcome A) → ((x : Float) → NotEight (f x)) → NotEight (then (T_saturation p) f)
  saturated f h = then_not (T_saturation p) f (subst NotEight (T_checked p refl) (check_not (or_nan (T_saturation p)))) h

  either : {A : Type 0} (b : Bool) {x y : Outcome A} → NotEight x → NotEight y → NotEight (cond b x y)
  either true h k = h
  either false h k = k

  letter : (l : Letter) → NotEight (value l)
  letter l e = no_value (sym e)

  near_not : NotEight (near_rule p t)
  unfolding near_rule
  near_not =
      line Uv _ (λ tuv. line Wx _ (λ twx. line Ef _ (λ tef.
      either (lt (decimal 22_11 2) p) (letter _) (either (lt (decimal 22_064 3) p) (letter _) (saturated _ (λ tsat. letter _))))))

  band_not : (b : Band) → NotEight (in_band b p t)
  unfolding ab_rule cdef_rule chijk_rule clmnopjk_rule cq_rk_rule csrk_rule cst_rule ct_rule
  band_not ab = line Ab _ (λ tab. letter _)
  band_not cdef = line Ab _ (λ tab. line Cd _ (λ tcd. line Ef _ (λ tef. letter _)))
  band_not cghijk = line Cd _ (λ tcd. line Ef _ (λ tef. line Gh _ (λ tgh. line Ij _ (λ tij. line Jk _ (λ tjk. letter _)))))
  band_not clhijk = line Cd _ (λ tcd. line Ef _ (λ tef. line Gh _ (λ tgh. line Ij _ (λ tij. line Jk _ (λ tjk. letter _)))))
  band_not clmnopjk =
      line Cd _ (λ tcd. line Ef _ (λ tef. line Gh _ (λ tgh. line Ij _ (λ tij. line Jk _ (λ tjk. line Mn _ (λ tmn. line Op _ (λ top. letter _)))))))
  band_not cq_rk =
      line Cd _ (λ tcd. line Qu _ (λ tqu. line Rx _ (λ trx. line Jk _ (λ tjk.
      either (le t tcd) (letter C) (either (le t tqu) (letter Q) (either (lt trx t && le t tjk) (letter R) (either (lt tjk t) (letter K) near_not)))))))
  band_not csrk = line Cd _ (λ tcd. line Jk _ (λ tjk. saturated _ (λ tsat. letter _)))
  band_not cst = line Cd _ (λ tcd. saturated _ (λ tsat. letter _))
  band_not ct = saturated _ (λ tsat. letter _)

  choice_not : NotEight (letter_at p t)
  unfolding letter_at
  choice_not = then_not limit _ (subst NotEight (sym limit_is) (λ e. no_value (sym e))) (λ l. band_not (band_of l p))

  -- a letter, or a refusal with another number, where the border lets T pass
  pub passed_not : region3_box p t ≡ value tt → NotEight (letter_rule p t)
  unfolding letter_rule
  passed_not e = subst NotEight (sym (ap (λ (o : Outcome Unit). then o (λ _. letter_at p t)) e)) choice_not

  pub stopped : region3_box p t ≡ refused 8 → letter_rule p t ≡ refused 8
  unfolding letter_rule
  stopped e = ap (λ (o : Outcome Unit). then o (λ _. letter_at p t)) e

-- ---- the answers that say so
eight_is : (k : Refusal) → number_of k ≡ 8 → k ≡ Border
eight_is k e = sym (kind_number k) ∙ ap kind_of e ∙ kind_number Border

refused_with_8 : {A : Type 0} (r : Result A Refusal) → paper r ≡ refused 8 → r ≡ Err Border
refused_with_8 (Ok x) e = absurd (no_value (sym e))
refused_with_8 (Err k) e = ap Err (eight_is k (refused_same e))

-- ---- `check_region3`
module _ (κs : Lfts 0) (a : Dens κs check-kinds.ps) (e : AtExit (ended_of 0 check-kinds.ps check-kinds.r) κs) (r : (res_t check-kinds.r κs).Denot)
    (post : checked.Post κs a r e) (i : InBox a.0.0 a.1.0.0) where
  pub check_below : BorderClear true (scaled_by 48 a.0.0) (scaled_by 43 a.1.0.0) → r ≡ Ok tt
  check_below s = taken r tt (post ∙ below_border a.0.0 a.1.0.0 i s)

  pub check_above : BorderClear false (scaled_by 48 a.0.0) (scaled_by 43 a.1.0.0) → r ≡ Err Border
  check_above s = refused_with_8 r (post ∙ above_border a.0.0 a.1.0.0 i s)

-- ---- `sub_region3_pT`
module _ (κs : Lfts 0) (a : Dens κs choice-kinds.ps) (e : AtExit (ended_of 0 choice-kinds.ps choice-kinds.r) κs) (r : (res_t choice-kinds.r κs).Denot)
    (post : choice.Post κs a r e) (i : InBox a.0.0 a.1.0.0) where
  pub choice_below : BorderClear true (scaled_by 48 a.0.0) (scaled_by 43 a.1.0.0) → r ≡ Err Border → ⊥
  choice_below s h = passed_not a.0.0 a.1.0.0 (below_border a.0.0 a.1.0.0 i s) (sym post ∙ ap paper h)

  pub choice_above : BorderClear false (scaled_by 48 a.0.0) (scaled_by 43 a.1.0.0) → r ≡ Err Border
  choice_above s = refused_with_8 r (post ∙ stopped a.0.0 a.1.0.0 (above_border a.0.0 a.1.0.0 i s))
