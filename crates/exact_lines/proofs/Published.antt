-- The exact definitions give what the documents publish: the check values of the lines to the digits printed, and at the check points of the volume equations
-- the letter under which these are printed; and the letters at seventeen points more, worked a second time with 40 digits, so that each letter of each
-- band has one. Logarithms by 30 terms, roots by 60 binary digits. Computed. Assumes nothing.
use mathlib.Core.Path.{◌≡◌, refl}
use Prim.Native.Nat.{ℕ, ◌+◌, ◌*◌, ◌/◌, ◌^◌}
use mathlib.Core.Bool.{Bool, true, not, ◌&&◌}
use mathlib.Core.List.{List, [], ◌∷◌, map}
use lib.Dec.{leb}
use lib.Ieee.{Float, round, size}
use Rattle.common.specs.Decimal.{scaled, decimal, whole}
use Rattle.common.specs.Sum.{every}
use Rattle.inverses.specs.Root.{whole_root}
use Rattle.rounding.specs.Fraction.{Fraction, ratio, side, at_most, scaled_by, sum_over}
use Rattle.rounding.specs.Arithmetic.{root_at}
use Rattle.subregion.specs.declared.Letter.{Letter}
use Rattle.subregion.specs.declared.Letter.TheVariants as letters
use Rattle.distance.specs.Exact.{cd, ef, gh, ij, jk, mn, qu, rx, uv, temperature, Q}
use Rattle.distance.specs.Letter.{kelvin}
use Rattle.exact_lines.specs.Logarithm.{ln, nested}
use Rattle.exact_lines.specs.Line.{logarithmic, exact3ab, exact3op, exact3wx}
use Rattle.exact_lines.specs.Saturation.{saturation, limit}
use Rattle.exact_lines.specs.Border.{border}
use Rattle.exact_lines.specs.Letter.{in_p, line3ab, line3op, line3wx, saturation_line, line_at, exact_band, exact_letter}

-- ---- the lines
pub record Value : Type 0 where
  pub worked : Fraction
  pub digits : ℕ
  pub places : ℕ

abbrev prints : Fraction → ℕ → ℕ → Value
prints x digits places = record { worked = x; digits = digits; places = places }

-- to half a unit of the last place
abbrev agrees : Value → Bool
agrees v =
    let x = v.worked in
    let y = ratio v.digits (10 ^ v.places) in
    leb (2 * 10 ^ v.places * side x y) (2 * 10 ^ v.places * side y x + x.scale * y.scale)
    && leb (2 * 10 ^ v.places * side y x) (2 * 10 ^ v.places * side x y + x.scale * y.scale)

-- S05rev for the twelve boundaries; R7-97, table 36 and equation 6
pub values : List Value
unfolding line_at border saturation
values =
    prints (line_at line3ab (40 * Q) 30) 693_0341408 7
    ∷ prints (line_at (in_p cd) (25 * Q) 0) 649_3659208 7
    ∷ prints (line_at (in_p ef) (40 * Q) 0) 713_9593992 7
    ∷ prints (line_at (in_p gh) (23 * Q) 0) 649_8873759 7
    ∷ prints (line_at (in_p ij) (23 * Q) 0) 651_5778091 7
    ∷ prints (line_at (in_p jk) (23 * Q) 0) 655_8338344 7
    ∷ prints (line_at (in_p mn) (22_8 * Q / 10) 0) 649_6054133 7
    ∷ prints (line_at line3op (22_8 * Q / 10) 30) 650_0106943 7
    ∷ prints (line_at (in_p qu) (22 * Q) 0) 645_6355027 7
    ∷ prints (line_at (in_p rx) (22 * Q) 0) 648_2622754 7
    ∷ prints (line_at (in_p uv) (22_3 * Q / 10) 0) 647_7996121 7
    ∷ prints (line_at line3wx (22_3 * Q / 10) 30) 648_2049480 7
    ∷ prints (line_at saturation_line (Q / 10) 60) 372_755919 6
    ∷ prints (line_at saturation_line Q 60) 453_035632 6
    ∷ prints (line_at saturation_line (10 * Q) 60) 584_149488 6
    ∷ prints (border 60 (16_5291643 * Q / 10 ^ 7)) 623_150000 6
    ∷ []

pub values_agree : every agrees values ≡ true
unfolding values every line_at temperature sum_over logarithmic exact3ab exact3op exact3wx ln nested saturation border root_at whole_root size
values_agree = refl

-- ---- the letters
pub record Point : Type 0 where
  pub p : Float
  pub t : Float
  pub letter : Letter

abbrev pub at : Float → Float → Letter → Point
at p t l = record { p = p; t = t; letter = l }

-- the points at which S05rev prints check values of the volume equations
unfoldable pub published : List Point
unfolding decimal whole
published =
    at (whole 50) (whole 630) letters.A
    ∷ at (whole 80) (whole 670) letters.A
    ∷ at (whole 50) (whole 710) letters.B
    ∷ at (whole 80) (whole 750) letters.B
    ∷ at (whole 20) (whole 630) letters.C
    ∷ at (whole 30) (whole 650) letters.C
    ∷ at (whole 26) (whole 656) letters.D
    ∷ at (whole 30) (whole 670) letters.D
    ∷ at (whole 26) (whole 661) letters.E
    ∷ at (whole 30) (whole 675) letters.E
    ∷ at (whole 26) (whole 671) letters.F
    ∷ at (whole 30) (whole 690) letters.F
    ∷ at (decimal 23_6 1) (whole 649) letters.G
    ∷ at (whole 24) (whole 650) letters.G
    ∷ at (decimal 23_6 1) (whole 652) letters.H
    ∷ at (whole 24) (whole 654) letters.H
    ∷ at (decimal 23_6 1) (whole 653) letters.I
    ∷ at (whole 24) (whole 655) letters.I
    ∷ at (decimal 23_5 1) (whole 655) letters.J
    ∷ at (whole 24) (whole 660) letters.J
    ∷ at (whole 23) (whole 660) letters.K
    ∷ at (whole 24) (whole 670) letters.K
    ∷ at (decimal 22_6 1) (whole 646) letters.L
    ∷ at (whole 23) (whole 646) letters.L
    ∷ at (decimal 22_6 1) (decimal 648_6 1) letters.M
    ∷ at (decimal 22_8 1) (decimal 649_3 1) letters.M
    ∷ at (decimal 22_6 1) (whole 649) letters.N
    ∷ at (decimal 22_8 1) (decimal 649_7 1) letters.N
    ∷ at (decimal 22_6 1) (decimal 649_1 1) letters.O
    ∷ at (decimal 22_8 1) (decimal 649_9 1) letters.O
    ∷ at (decimal 22_6 1) (decimal 649_4 1) letters.P
    ∷ at (decimal 22_8 1) (decimal 650_2 1) letters.P
    ∷ at (decimal 21_1 1) (whole 640) letters.Q
    ∷ at (decimal 21_8 1) (whole 643) letters.Q
    ∷ at (decimal 21_1 1) (whole 644) letters.R
    ∷ at (decimal 21_8 1) (whole 648) letters.R
    ∷ at (decimal 19_1 1) (whole 635) letters.S
    ∷ at (whole 20) (whole 638) letters.S
    ∷ at (whole 17) (whole 626) letters.T
    ∷ at (whole 20) (whole 640) letters.T
    ∷ at (decimal 21_5 1) (decimal 644_6 1) letters.U
    ∷ at (whole 22) (decimal 646_1 1) letters.U
    ∷ at (decimal 22_5 1) (decimal 648_6 1) letters.«V»
    ∷ at (decimal 22_3 1) (decimal 647_9 1) letters.«V»
    ∷ at (decimal 22_15 2) (decimal 647_5 1) letters.W
    ∷ at (decimal 22_3 1) (decimal 648_1 1) letters.W
    ∷ at (decimal 22_11 2) (whole 648) letters.X
    ∷ at (decimal 22_3 1) (whole 649) letters.X
    ∷ at (whole 22) (decimal 646_84 2) letters.Y
    ∷ at (decimal 22_064 3) (decimal 647_05 2) letters.Y
    ∷ at (whole 22) (decimal 646_89 2) letters.Z
    ∷ at (decimal 22_064 3) (decimal 647_15 2) letters.Z
    ∷ []

-- the letters that these leave out of a band
unfoldable pub further : List Point
unfolding decimal whole
further =
    at (decimal 20_8 1) (whole 630) letters.C
    ∷ at (decimal 20_8 1) (whole 640) letters.S
    ∷ at (decimal 20_8 1) (decimal 642_5 1) letters.R
    ∷ at (decimal 20_8 1) (whole 650) letters.K
    ∷ at (whole 17) (whole 624) letters.C
    ∷ at (whole 20) (whole 625) letters.C
    ∷ at (whole 24) (whole 640) letters.C
    ∷ at (decimal 23_2 1) (whole 640) letters.C
    ∷ at (decimal 23_2 1) (whole 648) letters.L
    ∷ at (decimal 23_2 1) (whole 651) letters.H
    ∷ at (decimal 23_2 1) (whole 652) letters.I
    ∷ at (decimal 23_2 1) (whole 665) letters.K
    ∷ at (decimal 22_7 1) (whole 640) letters.C
    ∷ at (decimal 22_7 1) (whole 653) letters.J
    ∷ at (decimal 22_7 1) (whole 660) letters.K
    ∷ at (decimal 21_5 1) (whole 630) letters.C
    ∷ at (decimal 21_5 1) (whole 655) letters.K
    ∷ []

-- which side, at a depth that decides it
abbrev exact_at : Point → Letter
exact_at x =
    let P = scaled_by 48 x.p in
    exact_letter (not (at_most (ratio P Q) (limit 60))) (λ b. at_most (kelvin (scaled_by 43 x.t)) (line_at b P 30)) P

pub published_letters : map exact_at published ≡ map (λ x. x.letter) published
unfolding published exact_letter exact_band line_at temperature sum_over logarithmic exact3ab exact3op exact3wx ln nested saturation limit root_at whole_root size
    scaled_by scaled round decimal whole
published_letters = refl

pub further_letters : map exact_at further ≡ map (λ x. x.letter) further
unfolding further exact_letter exact_band line_at temperature sum_over logarithmic exact3ab exact3op exact3wx ln nested saturation limit root_at whole_root size
    scaled_by scaled round decimal whole
further_letters = refl
