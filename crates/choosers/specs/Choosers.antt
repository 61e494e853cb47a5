-- To believe: the bands by p, and in each the letters by T, from the boundaries as numbers, whatever these are, a NaN too: what works the boundaries out is
-- in boundary/specs/Choice.antt. Assumes nothing: these are definitions.
use Rattle.std.specs.Prelude.{Bool, ◌&&◌, cond, List, [], ◌∷◌, Float}
use Rattle.std.specs.Float.Ieee.{le, lt}
use Rattle.common.specs.Decimal.{decimal, whole}
use Rattle.subregion.specs.declared.Letter.{Letter}
use Rattle.subregion.specs.declared.Letter.TheVariants.{A, B, C, D, E, F, H, I, J, K, L, M, N, O, P, Q, R, S, T, U, «V», W, X, Y, Z}

-- ---- the bands by p

-- a band has the name of its letters
pub data Band : Type 0 where
  ab cdef cghijk clhijk clmnopjk cq_rk csrk cst ct : Band

-- up to 23 MPa; limit is p_saturation(643.15)
abbrev pub band_to23 : Float → Float → Band
band_to23 limit p =
    cond (lt (decimal 22_5 1) p) clmnopjk
    (cond (lt limit p) cq_rk
    (cond (lt (decimal 20_5 1) p) csrk
    (cond (lt (decimal 19_00881189173929 14) p) cst
    ct)))

-- up to 40 MPa
abbrev pub band_to40 : Float → Float → Band
band_to40 limit p =
    cond (lt (whole 25) p) cdef
    (cond (lt (decimal 23_5 1) p) cghijk
    (cond (lt (whole 23) p) clhijk
    (band_to23 limit p)))

-- docs/SCOPE.md has no p above 100; the Rust gives it the second band
abbrev pub band_of : Float → Float → Band
band_of limit p = cond (lt (whole 40) p) (cond (le p (whole 100)) ab cdef) (band_to40 limit p)

-- ---- the letters by T, from the boundaries' numbers

-- a letter and where it ends: `upto` its boundary, which belongs to it, or strictly `under` it
pub data Step : Type 0 where
  upto under : Float → Letter → Step

abbrev pub ends : Step → Float → Bool
ends (upto b l) t = le t b
ends (under b l) t = lt t b

abbrev pub letter_of : Step → Letter
letter_of (upto b l) = l
letter_of (under b l) = l

-- the first letter that t does not lie beyond, or else the last
abbrev pub first : List Step → Letter → Float → Letter
first [] last t = last
first (s ∷ rest) last t = cond (ends s t) (letter_of s) (first rest last t)

-- b above the boundary and else a, so that a NaN gives a
abbrev pub ab_by : Float → Float → Letter
ab_by tab t = cond (lt tab t) B A

abbrev pub cdef_by : Float → Float → Float → Float → Letter
cdef_by tcd tab tef t = first (upto tcd C ∷ upto tab D ∷ upto tef E ∷ []) F t

-- second is g above 23.5 and l up to it
abbrev pub chijk_by : Letter → Float → Float → Float → Float → Float → Float → Letter
chijk_by second tcd tgh tef tij tjk t = first (upto tcd C ∷ upto tgh second ∷ upto tef H ∷ upto tij I ∷ upto tjk J ∷ []) K t

abbrev pub clmnopjk_by : Float → Float → Float → Float → Float → Float → Float → Float → Letter
clmnopjk_by tcd tgh tmn tef top tij tjk t =
    first (upto tcd C ∷ upto tgh L ∷ upto tmn M ∷ upto tef N ∷ upto top O ∷ upto tij P ∷ upto tjk J ∷ []) K t

abbrev pub csrk_by : Float → Float → Float → Float → Letter
csrk_by tcd tsat tjk t = first (upto tcd C ∷ upto tsat S ∷ upto tjk R ∷ []) K t

abbrev pub cst_by : Float → Float → Float → Letter
cst_by tcd tsat t = first (upto tcd C ∷ upto tsat S ∷ []) T t

abbrev pub ct_by : Float → Float → Letter
ct_by tsat t = first (upto tsat C ∷ []) T t

-- round the critical point: one of c, q, r, k, or the near-critical choice where none of the four tests holds
abbrev pub around : {A : Type 0} → Float → Float → Float → Float → Float → (Letter → A) → A → A
around tcd tqu trx tjk t found near =
    cond (le t tcd) (found C)
    (cond (le t tqu) (found Q)
    (cond (lt trx t && le t tjk) (found R)
    (cond (lt tjk t) (found K)
    near)))

-- above 22.11
abbrev pub uvwx_by : Float → Float → Float → Float → Letter
uvwx_by tuv tef twx t = first (upto tuv U ∷ under tef «V» ∷ under twx W ∷ []) X t

-- above 22.064 and up to 22.11
abbrev pub uyzx_by : Float → Float → Float → Float → Letter
uyzx_by tuv tef twx t = first (upto tuv U ∷ upto tef Y ∷ upto twx Z ∷ []) X t

-- up to 22.064: liquid up to the saturation temperature, steam above it
abbrev pub liquid_by : Float → Float → Float → Letter
liquid_by tuv p t = cond (lt (decimal 21_93161551 8) p) (first (under tuv U ∷ []) Y t) U

abbrev pub steam_by : Float → Float → Float → Letter
steam_by twx p t = cond (lt (decimal 21_90096265 8) p) (first (under twx Z ∷ []) X t) X

abbrev pub saturated_by : Float → Float → Float → Float → Float → Letter
saturated_by tsat tuv twx p t = cond (le t tsat) (liquid_by tuv p t) (steam_by twx p t)
