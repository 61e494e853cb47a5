-- Helps proofs only: the letter of each band round the critical point by its boundaries worked raw, 5 where one of those that it tests is lost; the other
-- bands are in bands/specs/Bands. Assumes nothing: these are definitions.
use Rattle.std.specs.Prelude.{cond, [], ◌∷◌, Float}
use Rattle.std.specs.Float.Ieee.{lt}
use Rattle.common.specs.Outcome.{Outcome, value}
use Rattle.common.specs.Decimal.{decimal}
use Rattle.subregion.specs.declared.Letter.{Letter}
use Rattle.choosers.specs.Choosers.{around, uvwx_by, uyzx_by, saturated_by}
use Rattle.boundaries.specs.Raw.{raw_at, bare_at}
use Rattle.boundaries.specs.declared.Boundary.TheVariants.{Cd, Ef, Jk, Qu, Rx, Uv, Wx}
use Rattle.bands.specs.Bands.{if_all, saturated}

-- the near-critical letters up to 22.11 MPa
abbrev pub raw_to2211 : Float → Float → Float → Float → Float → Outcome Letter
raw_to2211 tuv twx tef p t =
    cond (lt (decimal 22_064 3) p) (if_all (twx ∷ []) (uyzx_by tuv tef twx t))
    (if_all (twx ∷ saturated p ∷ []) (saturated_by (saturated p) tuv twx p t))

abbrev pub raw_near : Float → Float → Outcome Letter
raw_near p t =
    cond (lt (decimal 22_11 2) p) (if_all (raw_at Wx p ∷ []) (uvwx_by (bare_at Uv p) (raw_at Ef p) (raw_at Wx p) t))
    (raw_to2211 (bare_at Uv p) (raw_at Wx p) (raw_at Ef p) p t)

abbrev pub raw_cq_rk : Float → Float → Outcome Letter
raw_cq_rk p t = around (bare_at Cd p) (bare_at Qu p) (bare_at Rx p) (bare_at Jk p) t value (raw_near p t)
