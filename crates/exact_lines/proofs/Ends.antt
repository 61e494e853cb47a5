-- The ends of the bands, S05rev: at the last P / 2^48 that is not above a printed pressure the letter is that of the lower band, and at the
-- next that of the upper, with T below given lines and above the others. Computed. Assumes nothing.
use mathlib.Core.Path.{◌≡◌, refl}
use Prim.Native.Nat.{ℕ, ◌+◌, ◌*◌, ◌/◌, ◌^◌}
use mathlib.Core.Bool.{Bool, true, false, ◌||◌}
use mathlib.Core.List.{List, [], ◌∷◌, map}
use lib.Dec.{eqb}
use Rattle.subregion.specs.declared.Letter.{Letter}
use Rattle.subregion.specs.declared.Letter.TheVariants as letters
use Rattle.distance.specs.Exact.{Polynomial, cd, ef, gh, ij, jk, mn, qu, rx, uv, Q}
use Rattle.exact_lines.specs.Letter.{Line, in_p, line3ab, line3op, line3wx, saturation_line, exact_band, exact_letter}

-- a number for each line, to tell them apart
abbrev polynomial_number : Polynomial → ℕ
polynomial_number cd = 0
polynomial_number ef = 1
polynomial_number gh = 2
polynomial_number ij = 3
polynomial_number jk = 4
polynomial_number mn = 5
polynomial_number qu = 6
polynomial_number rx = 7
polynomial_number uv = 8

abbrev line_number : Line → ℕ
line_number (in_p b) = polynomial_number b
line_number line3ab = 9
line_number line3op = 10
line_number line3wx = 11
line_number saturation_line = 12

-- T below these lines and no other
abbrev below_these : List Line → Line → Bool
below_these [] b = false
below_these (a ∷ rest) b = eqb (line_number a) (line_number b) || below_these rest b

pub record End : Type 0 where
  pub digits : ℕ
  pub places : ℕ
  pub beyond : Bool
  pub below : List Line
  pub lower : Letter
  pub upper : Letter

abbrev end : ℕ → ℕ → Bool → List Line → Letter → Letter → End
end digits places beyond below lower upper = record { digits = digits; places = places; beyond = beyond; below = below; lower = lower; upper = upper }

-- T between 3qu and 3rx, below the lines given
abbrev near : List Line → List Line
near bs = in_p rx ∷ in_p jk ∷ bs

unfoldable pub ends : List End
ends =
    end 40 0 true [] letters.F letters.B
    ∷ end 25 0 true [] letters.K letters.F
    ∷ end 23_5 1 true (in_p gh ∷ []) letters.L letters.G
    ∷ end 23 0 true (in_p ef ∷ []) letters.N letters.H
    ∷ end 22_5 1 true (in_p qu ∷ in_p mn ∷ []) letters.Q letters.M
    ∷ end 22_11 2 true (near (in_p ef ∷ [])) letters.Y letters.«V»
    ∷ end 22_064 3 true (near (in_p ef ∷ [])) letters.X letters.Y
    ∷ end 21_93161551 8 true (near (saturation_line ∷ [])) letters.U letters.Y
    ∷ end 21_90096265 8 true (near (line3wx ∷ [])) letters.X letters.Z
    ∷ end 20_5 1 false [] letters.T letters.K
    ∷ end 19_00881189173929 14 false (saturation_line ∷ []) letters.C letters.S
    ∷ []

-- the letter k units of 2^-48 MPa above the end
abbrev letter_from : ℕ → End → Letter
letter_from k e = exact_letter e.beyond (below_these e.below) (e.digits * Q / 10 ^ e.places + k)

pub at_ends : map (letter_from 0) ends ≡ map (λ e. e.lower) ends
unfolding ends exact_letter exact_band
at_ends = refl

pub past_ends : map (letter_from 1) ends ≡ map (λ e. e.upper) ends
unfolding ends exact_letter exact_band
past_ends = refl
