-- The rule of each band, every boundary checked as it is worked, is its boundaries worked raw, and those that can be lost tested together. Assumes nothing.
use mathlib.Core.Path.{◌≡◌, refl, ap}
use mathlib.Core.Bool.{Bool, true, false, ◌&&◌, cond}
use lib.Dec.{T}
use lib.Ieee.{Float, lt}
use Rattle.common.specs.Outcome.{Outcome, value, refused, finite, check, then}
use Rattle.common.specs.Decimal.{decimal}
use Rattle.common.specs.Sum.{every}
use Rattle.common.proofs.Laws.{check_kept}
use Rattle.sizes.proofs.Band.{Band}
use Rattle.subregion.specs.declared.Letter.{Letter}
use Rattle.r4.specs.Saturation.{T_saturation}
use Rattle.r4.proofs.Raw.{T_checked}
use Rattle.choosers.specs.Choosers.{around}
use Rattle.choosers.proofs.Tests.{gate}
use Rattle.boundaries.specs.Boundary.{boundary_of}
use Rattle.boundaries.specs.Raw.{raw_at, bare_at}
use Rattle.boundaries.specs.declared.Boundary.{Boundary}
use Rattle.boundaries.specs.declared.Boundary.TheVariants.{Ab, Cd, Ef, Gh, Ij, Jk, Mn, Op, Qu, Rx, Uv, Wx}
use Rattle.boundaries.proofs.TableSums.{boundary_check, polynomial, polynomial_check}
use Rattle.boundaries.proofs.Kept.{bare, polynomial_kept}
use Rattle.bands.specs.Bands.{saturated, raw_ab, raw_cdef, raw_chijk, raw_clmnopjk, raw_csrk, raw_cst, raw_ct}
use Rattle.boundary.specs.Choice.{ab_rule, cdef_rule, chijk_rule, clmnopjk_rule, near_rule, cq_rk_rule, csrk_rule, cst_rule, ct_rule}
use Rattle.boundary.specs.Raw.{raw_near, raw_cq_rk}

-- One boundary, whose number x checked is what it comes to: what follows it is r if the test b passes and else refused with 5, and so is the whole, if
-- b and the number's own test pass.
next : {A : Type 0} {o : Outcome Float} (x : Float) (f : Float → Outcome A) (b : Bool) (r : Outcome A) → check x ≡ o → f x ≡ cond b r (refused 5) →
    then o f ≡ cond (finite x && b) r (refused 5)
next x f b r e h = rw (← e) (gate x f b r h)

-- one that is not lost
kept : {A : Type 0} {o : Outcome Float} (x : Float) (f : Float → Outcome A) (r : Outcome A) → check x ≡ o → finite x ≡ true → f x ≡ r → then o f ≡ r
kept x f r e k h = rw (← e, check_kept x k) h

at_saturation : (p : Float) → check (saturated p) ≡ T_saturation p
at_saturation p = T_checked p refl

module _ (p t : Float) where
  pub ab_raw : ab_rule p t ≡ raw_ab p t
  unfolding ab_rule every
  ab_raw = next (raw_at Ab p) _ _ _ (boundary_check Ab p) refl

  pub cdef_raw : cdef_rule p t ≡ raw_cdef p t
  unfolding cdef_rule every
  cdef_raw = next (raw_at Ab p) _ _ _ (boundary_check Ab p) (next (raw_at Cd p) _ _ _ (boundary_check Cd p) (next (raw_at Ef p) _ _ _ (boundary_check Ef p) refl))

  pub ct_raw : ct_rule p t ≡ raw_ct p t
  unfolding ct_rule every
  ct_raw = next (saturated p) _ _ _ (at_saturation p) refl

module _ (p t : Float) (b : Band 7 p) where
  -- a polynomial in p is not lost
  in_p_lem : {A : Type 0} (l : Boundary) → T (polynomial l) → (f : Float → Outcome A) (r : Outcome A) → f (bare_at l p) ≡ r → then (boundary_of l p) f ≡ r
  in_p_lem l i f r h = kept (bare_at l p) f r (polynomial_check l p (bare p b) i) (polynomial_kept l p b i) h

  pub chijk_raw : (second : Letter) → chijk_rule second p t ≡ value (raw_chijk second p t)
  unfolding chijk_rule
  chijk_raw second = in_p_lem Cd tt _ _ (in_p_lem Ef tt _ _ (in_p_lem Gh tt _ _ (in_p_lem Ij tt _ _ (in_p_lem Jk tt _ _ refl))))

  pub clmnopjk_raw : clmnopjk_rule p t ≡ raw_clmnopjk p t
  unfolding clmnopjk_rule every
  clmnopjk_raw =
      in_p_lem Cd tt _ _ (in_p_lem Ef tt _ _ (in_p_lem Gh tt _ _ (in_p_lem Ij tt _ _ (in_p_lem Jk tt _ _ (in_p_lem Mn tt _ _
      (next (raw_at Op p) _ _ _ (boundary_check Op p) refl))))))

  -- 3uv, 3wx and 3ef, and what follows them
  near_three : (f : Float → Float → Float → Outcome Letter) (d : Bool) (r : Outcome Letter) →
      f (bare_at Uv p) (raw_at Wx p) (raw_at Ef p) ≡ cond d r (refused 5) →
      then (boundary_of Uv p) (λ tuv. then (boundary_of Wx p) (λ twx. then (boundary_of Ef p) (λ tef. f tuv twx tef)))
      ≡ cond (finite (raw_at Wx p) && d) r (refused 5)
  near_three f d r h = in_p_lem Uv tt _ _ (next (raw_at Wx p) _ _ _ (boundary_check Wx p) (in_p_lem Ef tt _ _ h))

  pub near_raw : near_rule p t ≡ raw_near p t
  unfolding near_rule every
  near_raw = by_p (lt (decimal 22_11 2) p) (lt (decimal 22_064 3) p) refl refl
    where
      by_p : (x y : Bool) → lt (decimal 22_11 2) p ≡ x → lt (decimal 22_064 3) p ≡ y → near_rule p t ≡ raw_near p t
      by_p true y e d = rw e (near_three _ true _ refl)
      by_p false true e d = rw (e, d) (near_three _ true _ refl)
      by_p false false e d = rw (e, d) (near_three _ (finite (saturated p) && true) _ (next (saturated p) _ _ _ (at_saturation p) refl))

  pub cq_rk_raw : cq_rk_rule p t ≡ raw_cq_rk p t
  unfolding cq_rk_rule
  cq_rk_raw =
      in_p_lem Cd tt _ _ (in_p_lem Qu tt _ _ (in_p_lem Rx tt _ _ (in_p_lem Jk tt _ _
      (ap (around (bare_at Cd p) (bare_at Qu p) (bare_at Rx p) (bare_at Jk p) t value) near_raw))))

  pub csrk_raw : csrk_rule p t ≡ raw_csrk p t
  unfolding csrk_rule every
  csrk_raw = in_p_lem Cd tt _ _ (in_p_lem Jk tt _ _ (next (saturated p) _ _ _ (at_saturation p) refl))

  pub cst_raw : cst_rule p t ≡ raw_cst p t
  unfolding cst_rule every
  cst_raw = in_p_lem Cd tt _ _ (next (saturated p) _ _ _ (at_saturation p) refl)
