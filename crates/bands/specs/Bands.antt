-- Helps proofs only: the letter of each band by its boundaries worked raw, 5 where one of those that it tests is lost. The rules of the bands, every step
-- checked, are in boundary/specs/Choice. Assumes nothing: these are definitions.
use Rattle.std.specs.Prelude.{cond, List, [], ◌∷◌, Float}
use Rattle.common.specs.Outcome.{Outcome, value, refused, finite, or_nan}
use Rattle.common.specs.Sum.{every}
use Rattle.subregion.specs.declared.Letter.{Letter}
use Rattle.r4.specs.Saturation.{T_saturation}
use Rattle.boundaries.specs.Raw.{raw_at, bare_at}
use Rattle.boundaries.specs.declared.Boundary.TheVariants.{Ab, Cd, Ef, Gh, Ij, Jk, Mn, Op}
use Rattle.choosers.specs.Choosers.{ab_by, cdef_by, chijk_by, clmnopjk_by, csrk_by, cst_by, ct_by}

-- the letter, if no boundary is lost
abbrev pub if_all : List Float → Letter → Outcome Letter
if_all ts l = cond (every finite ts) (value l) (refused 5)

abbrev pub saturated : Float → Float
saturated p = or_nan (T_saturation p)

abbrev pub raw_ab : Float → Float → Outcome Letter
raw_ab p t = if_all (raw_at Ab p ∷ []) (ab_by (raw_at Ab p) t)

abbrev pub raw_cdef : Float → Float → Outcome Letter
raw_cdef p t =
    if_all (raw_at Ab p ∷ raw_at Cd p ∷ raw_at Ef p ∷ []) (cdef_by (raw_at Cd p) (raw_at Ab p) (raw_at Ef p) t)

abbrev pub raw_chijk : Letter → Float → Float → Letter
raw_chijk second p t = chijk_by second (bare_at Cd p) (bare_at Gh p) (raw_at Ef p) (bare_at Ij p) (bare_at Jk p) t

abbrev pub raw_clmnopjk : Float → Float → Outcome Letter
raw_clmnopjk p t =
    if_all (raw_at Op p ∷ [])
    (clmnopjk_by (bare_at Cd p) (bare_at Gh p) (bare_at Mn p) (raw_at Ef p) (raw_at Op p) (bare_at Ij p) (bare_at Jk p) t)

abbrev pub raw_csrk : Float → Float → Outcome Letter
raw_csrk p t = if_all (saturated p ∷ []) (csrk_by (bare_at Cd p) (saturated p) (bare_at Jk p) t)

abbrev pub raw_cst : Float → Float → Outcome Letter
raw_cst p t = if_all (saturated p ∷ []) (cst_by (bare_at Cd p) (saturated p) t)

abbrev pub raw_ct : Float → Float → Outcome Letter
raw_ct p t = if_all (saturated p ∷ []) (ct_by (saturated p) t)
