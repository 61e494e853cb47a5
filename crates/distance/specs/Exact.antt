-- To believe: the boundaries of region 3 that are polynomials in p, worked out exactly in whole numbers: S05rev, equations 1 and 3, with the coefficients
-- as printed. p is P / 2^48 MPa for a whole P; a temperature is (over - under) / scale K. Assumes nothing: these are definitions.
use Rattle.std.specs.Prelude.{ℕ, suc, ◌+◌, ◌-◌, ◌*◌, ◌^◌, Bool, true, false, cond, List, [], ◌∷◌, ℤ, pos, negsuc}
use Rattle.common.specs.Decimal.{negative}
use Rattle.rounding.specs.Fraction.{Fraction, sum_over}

-- a row: the exponent I of p and the coefficient ±0.digits * 10^e, with 15 digits
pub record Row : Type 0 where
  pub power : ℕ
  pub negative : Bool
  pub digits : ℕ
  pub exponent : ℤ

abbrev pub plus : ℕ → ℕ → ℤ → Row
plus i n e = record { power = i; negative = false; digits = n; exponent = e }

abbrev pub minus : ℕ → ℕ → ℤ → Row
minus i n e = record { power = i; negative = true; digits = n; exponent = e }

unfoldable pub exact3cd : List Row
exact3cd =
    plus 0 0_585276966696349 (pos 3)
    ∷ plus 1 0_278233532206915 (pos 1)
    ∷ minus 2 0_127283549295878 (negative 1)
    ∷ plus 3 0_159090746562729 (negative 3)
    ∷ []

unfoldable pub exact3gh : List Row
exact3gh =
    minus 0 0_249284240900418 (pos 5)
    ∷ plus 1 0_428143584791546 (pos 4)
    ∷ minus 2 0_269029173140130 (pos 3)
    ∷ plus 3 0_751608051114157 (pos 1)
    ∷ minus 4 0_787105249910383 (negative 1)
    ∷ []

unfoldable pub exact3ij : List Row
exact3ij =
    plus 0 0_584814781649163 (pos 3)
    ∷ minus 1 0_616179320924617 (pos 0)
    ∷ plus 2 0_260763050899562 (pos 0)
    ∷ minus 3 0_587071076864459 (negative 2)
    ∷ plus 4 0_515308185433082 (negative 4)
    ∷ []

unfoldable pub exact3jk : List Row
exact3jk =
    plus 0 0_617229772068439 (pos 3)
    ∷ minus 1 0_770600270141675 (pos 1)
    ∷ plus 2 0_697072596851896 (pos 0)
    ∷ minus 3 0_157391839848015 (negative 1)
    ∷ plus 4 0_137897492684194 (negative 3)
    ∷ []

unfoldable pub exact3mn : List Row
exact3mn =
    plus 0 0_535339483742384 (pos 3)
    ∷ plus 1 0_761978122720128 (pos 1)
    ∷ minus 2 0_158365725441648 (pos 0)
    ∷ plus 3 0_192871054508108 (negative 2)
    ∷ []

unfoldable pub exact3qu : List Row
exact3qu =
    plus 0 0_565603648239126 (pos 3)
    ∷ plus 1 0_529062258221222 (pos 1)
    ∷ minus 2 0_102020639611016 (pos 0)
    ∷ plus 3 0_122240301070145 (negative 2)
    ∷ []

unfoldable pub exact3rx : List Row
exact3rx =
    plus 0 0_584561202520006 (pos 3)
    ∷ minus 1 0_102961025163669 (pos 1)
    ∷ plus 2 0_243293362700452 (pos 0)
    ∷ minus 3 0_294905044740799 (negative 2)
    ∷ []

unfoldable pub exact3uv : List Row
exact3uv =
    plus 0 0_528199646263062 (pos 3)
    ∷ plus 1 0_890579602135307 (pos 1)
    ∷ minus 2 0_222814134903755 (pos 0)
    ∷ plus 3 0_286791682263697 (negative 2)
    ∷ []

abbrev pub Q : ℕ
Q = 2 ^ 48

-- 10^(4 + e), for an e from -4 up
abbrev pub lifted : ℤ → ℕ
lifted (pos k) = 10 ^ (4 + k)
lifted (negsuc k) = 10 ^ (4 - suc k)

-- 0.digits * 10^e * p^I without its sign, over 10^19 * Q^4
abbrev pub share : ℕ → Row → ℕ
share P r = r.digits * lifted r.exponent * (P ^ r.power * Q ^ (4 - r.power))

abbrev pub gain : ℕ → Row → ℕ
gain P r = cond r.negative 0 (share P r)

abbrev pub loss : ℕ → Row → ℕ
loss P r = cond r.negative (share P r) 0

-- equation 1
abbrev pub polynomial : List Row → ℕ → Fraction
polynomial rows P = record { over = sum_over (gain P) rows; under = sum_over (loss P) rows; scale = 10 ^ 19 * Q ^ 4 }

-- equation 3: 3.727888004 * (p - 22.064) + 647.096, over 10^12 * Q
abbrev pub line : ℕ → Fraction
line P = record { over = 3_727888004 * 10 ^ 3 * P + 647_096 * 10 ^ 9 * Q; under = 3_727888004 * 22_064 * Q; scale = 10 ^ 12 * Q }

-- a table of equation 1, or equation 3
pub data Form : Type 0 where
  tabled : List Row → Form
  straight : Form

pub data Polynomial : Type 0 where
  cd ef gh ij jk mn qu rx uv : Polynomial

unfoldable pub form : Polynomial → Form
unfolding exact3cd exact3gh exact3ij exact3jk exact3mn exact3qu exact3rx exact3uv
form cd = tabled exact3cd
form ef = straight
form gh = tabled exact3gh
form ij = tabled exact3ij
form jk = tabled exact3jk
form mn = tabled exact3mn
form qu = tabled exact3qu
form rx = tabled exact3rx
form uv = tabled exact3uv

abbrev pub value_of : Form → ℕ → Fraction
value_of (tabled rows) P = polynomial rows P
value_of straight P = line P

-- a boundary's temperature at p = P / 2^48
unfoldable pub temperature : Polynomial → ℕ → Fraction
unfolding form
temperature b P = value_of (form b) P
