-- To believe: the choice of a subregion's letter, as docs/SCOPE.md has it: the boundaries of a band worked out in the Rust's order, the first that is refused
-- deciding, and the letter by the chooser of the band. Assumes nothing: these are definitions.
use Rattle.std.specs.Prelude.{cond, Float}
use Rattle.std.specs.Float.Ieee.{lt}
use Rattle.common.specs.Outcome.{Outcome, value, then}
use Rattle.common.specs.Decimal.{decimal}
use Rattle.border.specs.Border.{region3_box}
use Rattle.subregion.specs.declared.Letter.{Letter}
use Rattle.subregion.specs.declared.Letter.TheVariants.{G, L}
use Rattle.r4.specs.Saturation.{p_saturation, T_saturation}
use Rattle.choosers.specs.Choosers.{Band, ab, cdef, cghijk, clhijk, clmnopjk, cq_rk, csrk, cst, ct, band_of, ab_by, cdef_by, chijk_by, clmnopjk_by, csrk_by, cst_by, ct_by, around, uvwx_by, uyzx_by, saturated_by}
use Rattle.boundaries.specs.Boundary.{boundary_of}
use Rattle.boundaries.specs.declared.Boundary.TheVariants.{Ab, Cd, Ef, Gh, Ij, Jk, Mn, Op, Qu, Rx, Uv, Wx}

-- ---- the boundaries worked out, in the Rust's order: the first that is refused decides

unfoldable pub ab_rule : Float → Float → Outcome Letter
ab_rule p t = then (boundary_of Ab p) (λ tab. value (ab_by tab t))

unfoldable pub cdef_rule : Float → Float → Outcome Letter
cdef_rule p t =
    then (boundary_of Ab p) (λ tab.
    then (boundary_of Cd p) (λ tcd.
    then (boundary_of Ef p) (λ tef.
    value (cdef_by tcd tab tef t))))

unfoldable pub chijk_rule : Letter → Float → Float → Outcome Letter
chijk_rule second p t =
    then (boundary_of Cd p) (λ tcd.
    then (boundary_of Ef p) (λ tef.
    then (boundary_of Gh p) (λ tgh.
    then (boundary_of Ij p) (λ tij.
    then (boundary_of Jk p) (λ tjk.
    value (chijk_by second tcd tgh tef tij tjk t))))))

unfoldable pub clmnopjk_rule : Float → Float → Outcome Letter
clmnopjk_rule p t =
    then (boundary_of Cd p) (λ tcd.
    then (boundary_of Ef p) (λ tef.
    then (boundary_of Gh p) (λ tgh.
    then (boundary_of Ij p) (λ tij.
    then (boundary_of Jk p) (λ tjk.
    then (boundary_of Mn p) (λ tmn.
    then (boundary_of Op p) (λ top.
    value (clmnopjk_by tcd tgh tmn tef top tij tjk t))))))))

unfoldable pub near_rule : Float → Float → Outcome Letter
near_rule p t =
    then (boundary_of Uv p) (λ tuv.
    then (boundary_of Wx p) (λ twx.
    then (boundary_of Ef p) (λ tef.
    cond (lt (decimal 22_11 2) p) (value (uvwx_by tuv tef twx t))
    (cond (lt (decimal 22_064 3) p) (value (uyzx_by tuv tef twx t))
    (then (T_saturation p) (λ tsat. value (saturated_by tsat tuv twx p t)))))))

unfoldable pub cq_rk_rule : Float → Float → Outcome Letter
unfolding near_rule
cq_rk_rule p t =
    then (boundary_of Cd p) (λ tcd.
    then (boundary_of Qu p) (λ tqu.
    then (boundary_of Rx p) (λ trx.
    then (boundary_of Jk p) (λ tjk.
    around tcd tqu trx tjk t value (near_rule p t)))))

unfoldable pub csrk_rule : Float → Float → Outcome Letter
csrk_rule p t =
    then (boundary_of Cd p) (λ tcd.
    then (boundary_of Jk p) (λ tjk.
    then (T_saturation p) (λ tsat.
    value (csrk_by tcd tsat tjk t))))

unfoldable pub cst_rule : Float → Float → Outcome Letter
cst_rule p t =
    then (boundary_of Cd p) (λ tcd.
    then (T_saturation p) (λ tsat.
    value (cst_by tcd tsat t)))

unfoldable pub ct_rule : Float → Float → Outcome Letter
ct_rule p t = then (T_saturation p) (λ tsat. value (ct_by tsat t))

abbrev pub in_band : Band → Float → Float → Outcome Letter
in_band ab p t = ab_rule p t
in_band cdef p t = cdef_rule p t
in_band cghijk p t = chijk_rule G p t
in_band clhijk p t = chijk_rule L p t
in_band clmnopjk p t = clmnopjk_rule p t
in_band cq_rk p t = cq_rk_rule p t
in_band csrk p t = csrk_rule p t
in_band cst p t = cst_rule p t
in_band ct p t = ct_rule p t

-- p_saturation(643.15)
unfoldable pub limit : Outcome Float
unfolding p_saturation
limit = p_saturation (decimal 643_15 2)

-- the letter by a choice of the band, which looks at the limit and p
abbrev pub letter_by : (Float → Float → Band) → Float → Float → Outcome Letter
letter_by band p t = then limit (λ l. in_band (band l p) p t)

-- the letter at p and t, inside another call
unfoldable pub letter_at : Float → Float → Outcome Letter
unfolding limit
letter_at p t = letter_by band_of p t

-- the call: the box and the border with region 2 first
unfoldable pub letter_rule : Float → Float → Outcome Letter
unfolding letter_at region3_box
letter_rule p t = then (region3_box p t) (λ _. letter_at p t)
