-- To believe: the letter of 23 < p ≤ 25 by exact arithmetic, and the premises of demand 3: p is P / 2^48 MPa and T is t / 2^43 K, P and t whole.
-- Assumes nothing: these are definitions.
use Rattle.std.specs.Prelude.{cond, ℕ, ◌^◌, List, [], ◌∷◌, T, Float}
use Rattle.std.specs.Float.{binary64}
use Rattle.std.specs.Float.Ieee.{fits, le, lt}
use Rattle.common.specs.Outcome.{value_in}
use Rattle.common.specs.Decimal.{whole}
use Rattle.common.specs.Constant.{t_range_from, t_range_to}
use Rattle.border.specs.Border.{B23_p2T_rule}
use Rattle.rounding.specs.Fraction.{Fraction, ratio, at_most, Apart}
use Rattle.subregion.specs.declared.Letter.{Letter}
use Rattle.subregion.specs.declared.Letter.TheVariants.{C, G, H, I, J, K, L}
use Rattle.distance.specs.Exact.{Polynomial, cd, ef, gh, ij, jk, temperature, Q}

-- a fact of each element of a list
abbrev pub All : {A : Type 0} → (A → Type 0) → List A → Type 0
All F [] = Unit
All F (x ∷ xs) = F x × All F xs

-- the boundaries between the letters, in their order
abbrev pub five : List Polynomial
five = cd ∷ gh ∷ ef ∷ ij ∷ jk ∷ []

abbrev pub kelvin : ℕ → Fraction
kelvin t = ratio t (2 ^ 43)

-- S05rev: c up to 3cd, then up to 3gh the letter `second`, h up to 3ef, i up to 3ij, j up to 3jk, and k
unfoldable pub letters_with : Letter → ℕ → ℕ → Letter
letters_with second P t =
    cond (at_most (kelvin t) (temperature cd P)) C
    (cond (at_most (kelvin t) (temperature gh P)) second
    (cond (at_most (kelvin t) (temperature ef P)) H
    (cond (at_most (kelvin t) (temperature ij P)) I
    (cond (at_most (kelvin t) (temperature jk P)) J
    K))))

-- the second letter is l up to 23.5 MPa and g above
unfoldable pub exact_letter : ℕ → ℕ → Letter
unfolding letters_with
exact_letter P t = letters_with (cond (at_most (ratio P Q) (ratio 23_5 10)) L G) P t

-- two f64s, 23 < p ≤ 25 and 623.15 ≤ t ≤ 863.15, and t is not above the border with region 2 as `B23_p2T` answers it
pub record Inside (p t : Float) : Type 0 where
  pub p_f64 : T (fits binary64 p)
  pub t_f64 : T (fits binary64 t)
  pub p_above : T (lt (whole 23) p)
  pub p_upto : T (le p (whole 25))
  pub t_from : T (le t_range_from t)
  pub t_to : T (le t t_range_to)
  pub t_border : T (le t (value_in (B23_p2T_rule p)))

-- a millionth of a kelvin
abbrev pub tolerance : ℕ
tolerance = 1_000000

-- T lies 1 / tolerance K or more from the boundary
abbrev pub Off : Polynomial → ℕ → ℕ → Type 0
Off b P t = Apart (kelvin t) (temperature b P) 1 tolerance

-- from each of the five
abbrev pub Clear : ℕ → ℕ → Type 0
Clear P t = All (λ b. Off b P t) five
