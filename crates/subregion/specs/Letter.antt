-- To believe: the byte of each letter, and the letter of a byte. Assumes nothing: these are definitions.
use Rattle.std.specs.Prelude.{◌≡◌, ℕ, ◌-◌, ◌<◌, ◌⊎◌, List, [], ◌∷◌, get_or, Result, MatchResult}
use Rattle.common.specs.Outcome.{Outcome, value, refused}
use Rattle.subregion.specs.declared.Letter.{Letter}
use Rattle.subregion.specs.declared.Letter.TheVariants as letters
use Rattle.subregion.specs.declared.NoLetter.{NoLetter}

-- ASCII
abbrev pub ascii_of : Letter → ℕ
ascii_of letters.A = 97
ascii_of letters.B = 98
ascii_of letters.C = 99
ascii_of letters.D = 100
ascii_of letters.E = 101
ascii_of letters.F = 102
ascii_of letters.G = 103
ascii_of letters.H = 104
ascii_of letters.I = 105
ascii_of letters.J = 106
ascii_of letters.K = 107
ascii_of letters.L = 108
ascii_of letters.M = 109
ascii_of letters.N = 110
ascii_of letters.O = 111
ascii_of letters.P = 112
ascii_of letters.Q = 113
ascii_of letters.R = 114
ascii_of letters.S = 115
ascii_of letters.T = 116
ascii_of letters.U = 117
ascii_of letters.«V» = 118
ascii_of letters.W = 119
ascii_of letters.X = 120
ascii_of letters.Y = 121
ascii_of letters.Z = 122

-- in order
abbrev pub alphabet : List Letter
alphabet =
    letters.A ∷ letters.B ∷ letters.C ∷ letters.D ∷ letters.E ∷ letters.F ∷ letters.G ∷ letters.H ∷ letters.I ∷ letters.J ∷ letters.K ∷ letters.L ∷ letters.M
    ∷ letters.N ∷ letters.O ∷ letters.P ∷ letters.Q ∷ letters.R ∷ letters.S ∷ letters.T ∷ letters.U ∷ letters.«V» ∷ letters.W ∷ letters.X ∷ letters.Y ∷ letters.Z
    ∷ []

-- the letter of a byte, and a for a byte that is none's
abbrev pub of_byte : ℕ → Letter
of_byte b = get_or alphabet (b - 97) letters.A

-- the letter with this byte, or an error with a byte that is below a or above z
abbrev pub Decodes : ℕ → Result Letter NoLetter → Type 0
Decodes b r = MatchResult r (λ l. ascii_of l ≡ b) (λ e. (e.0 ≡ b) × ((b < 97) ⊎ (122 < b)))

-- a refused call has no letter
abbrev pub byte_in : Outcome Letter → ℕ
byte_in (value l) = ascii_of l
byte_in (refused k) = 0
