-- To believe: the table of the boundaries between the subregions of region 3, S05rev, equations 1 and 2, as printed. 3ef, equation 3, stands in
-- boundaries/specs/Boundary. Assumes nothing: these are definitions.
use Rattle.std.specs.Prelude.{List, [], ◌∷◌, ℤ, pos, Float}
use Rattle.common.specs.Decimal.{negative, plus, minus}

-- a term: the exponent I and the coefficient n
pub data Term : Type 0 where
  term : ℤ → Float → Term

-- what a sum is in: p (equation 1) or ln p (equation 2)
pub data Argument : Type 0 where
  in_p in_ln : Argument

-- a boundary's row: what its sum is in, and its terms
pub data Row : Type 0 where
  row : Argument → List Term → Row

-- the rows in the order of the document
unfoldable pub table : List Row
unfolding plus minus
table =
    row in_ln  -- 3ab
    (term (pos 0) (plus 15 0_154793642129415 (pos 4))
    ∷ term (pos 1) (minus 15 0_187661219490113 (pos 3))
    ∷ term (pos 2) (plus 15 0_213144632222113 (pos 2))
    ∷ term (negative 1) (minus 15 0_191887498864292 (pos 4))
    ∷ term (negative 2) (plus 15 0_918419702359447 (pos 3))
    ∷ [])
    ∷ row in_p  -- 3cd
    (term (pos 0) (plus 15 0_585276966696349 (pos 3))
    ∷ term (pos 1) (plus 15 0_278233532206915 (pos 1))
    ∷ term (pos 2) (minus 15 0_127283549295878 (negative 1))
    ∷ term (pos 3) (plus 15 0_159090746562729 (negative 3))
    ∷ [])
    ∷ row in_p  -- 3gh
    (term (pos 0) (minus 15 0_249284240900418 (pos 5))
    ∷ term (pos 1) (plus 15 0_428143584791546 (pos 4))
    ∷ term (pos 2) (minus 15 0_269029173140130 (pos 3))
    ∷ term (pos 3) (plus 15 0_751608051114157 (pos 1))
    ∷ term (pos 4) (minus 15 0_787105249910383 (negative 1))
    ∷ [])
    ∷ row in_p  -- 3ij
    (term (pos 0) (plus 15 0_584814781649163 (pos 3))
    ∷ term (pos 1) (minus 15 0_616179320924617 (pos 0))
    ∷ term (pos 2) (plus 15 0_260763050899562 (pos 0))
    ∷ term (pos 3) (minus 15 0_587071076864459 (negative 2))
    ∷ term (pos 4) (plus 15 0_515308185433082 (negative 4))
    ∷ [])
    ∷ row in_p  -- 3jk
    (term (pos 0) (plus 15 0_617229772068439 (pos 3))
    ∷ term (pos 1) (minus 15 0_770600270141675 (pos 1))
    ∷ term (pos 2) (plus 15 0_697072596851896 (pos 0))
    ∷ term (pos 3) (minus 15 0_157391839848015 (negative 1))
    ∷ term (pos 4) (plus 15 0_137897492684194 (negative 3))
    ∷ [])
    ∷ row in_p  -- 3mn
    (term (pos 0) (plus 15 0_535339483742384 (pos 3))
    ∷ term (pos 1) (plus 15 0_761978122720128 (pos 1))
    ∷ term (pos 2) (minus 15 0_158365725441648 (pos 0))
    ∷ term (pos 3) (plus 15 0_192871054508108 (negative 2))
    ∷ [])
    ∷ row in_ln  -- 3op
    (term (pos 0) (plus 15 0_969461372400213 (pos 3))
    ∷ term (pos 1) (minus 15 0_332500170441278 (pos 3))
    ∷ term (pos 2) (plus 15 0_642859598466067 (pos 2))
    ∷ term (negative 1) (plus 15 0_773845935768222 (pos 3))
    ∷ term (negative 2) (minus 15 0_152313732937084 (pos 4))
    ∷ [])
    ∷ row in_p  -- 3qu
    (term (pos 0) (plus 15 0_565603648239126 (pos 3))
    ∷ term (pos 1) (plus 15 0_529062258221222 (pos 1))
    ∷ term (pos 2) (minus 15 0_102020639611016 (pos 0))
    ∷ term (pos 3) (plus 15 0_122240301070145 (negative 2))
    ∷ [])
    ∷ row in_p  -- 3rx
    (term (pos 0) (plus 15 0_584561202520006 (pos 3))
    ∷ term (pos 1) (minus 15 0_102961025163669 (pos 1))
    ∷ term (pos 2) (plus 15 0_243293362700452 (pos 0))
    ∷ term (pos 3) (minus 15 0_294905044740799 (negative 2))
    ∷ [])
    ∷ row in_p  -- 3uv
    (term (pos 0) (plus 15 0_528199646263062 (pos 3))
    ∷ term (pos 1) (plus 15 0_890579602135307 (pos 1))
    ∷ term (pos 2) (minus 15 0_222814134903755 (pos 0))
    ∷ term (pos 3) (plus 15 0_286791682263697 (negative 2))
    ∷ [])
    ∷ row in_ln  -- 3wx
    (term (pos 0) (plus 15 0_728052609145380 (pos 1))
    ∷ term (pos 1) (plus 15 0_973505869861952 (pos 2))
    ∷ term (pos 2) (plus 15 0_147370491183191 (pos 2))
    ∷ term (negative 1) (plus 15 0_329196213998375 (pos 3))
    ∷ term (negative 2) (plus 15 0_873371668682417 (pos 3))
    ∷ [])
    ∷ []
