-- To believe: numbers in bytes, the little end first. Assumes nothing: these are definitions.
use Rattle.std.specs.Prelude.{cond, ℕ, zero, suc, ◌+◌, ◌*◌, ◌-◌, ◌/◌, ◌%◌, ◌^◌, List, [], ◌∷◌, ◌++◌, leb, ltb, ℤ, pos, negsuc, length, get_or, Float}
use Rattle.std.proofs.lemmas.List.Edits.{sets}
use Rattle.std.specs.Float.{binary64}
use Rattle.std.specs.Float.Ieee.{of_bits}
use Rattle.common.specs.Outcome.{zero_f}

-- the pieces 0 to n - 1, joined
unfoldable pub joined : {A : Type 0} → (ℕ → List A) → ℕ → List A
joined f zero = []
joined f (suc n) = joined f n ++ f n

-- four bytes from an index on, the little end first, as a number
abbrev pub half_at : List ℕ → ℕ → ℕ
half_at s i = get_or s i 0 + 256 * (get_or s (i + 1) 0 + 256 * (get_or s (i + 2) 0 + 256 * get_or s (i + 3) 0))

-- eight bytes
abbrev pub word_at : List ℕ → ℕ → ℕ
word_at s i = half_at s i + 2 ^ 32 * half_at s (i + 4)

-- the float of eight bytes: `of_bits` gives `nan` for each NaN pattern
unfoldable pub float_at : List ℕ → ℕ → Float
float_at s i = of_bits binary64 (word_at s i)

-- a number below 2^32 with a sign: from 2^31 on it stands for itself less 2^32
unfoldable pub signed : ℕ → ℤ
signed n = cond (ltb n (2 ^ 31)) (pos n) (negsuc (2 ^ 32 - suc n))

-- four bytes with a sign, and the float of eight: 0 where they do not lie in the bytes
abbrev pub int_in : List ℕ → ℕ → ℤ
int_in s i = cond (leb (i + 4) (length s)) (signed (half_at s i)) (pos 0)

abbrev pub float_in : List ℕ → ℕ → Float
float_in s i = cond (leb (i + 8) (length s)) (float_at s i) zero_f

-- the eight bytes of a number below 2^64
abbrev pub eight : ℕ → List ℕ
eight n =
    n % 256 ∷ n / 2 ^ 8 % 256 ∷ n / 2 ^ 16 % 256 ∷ n / 2 ^ 24 % 256
    ∷ n / 2 ^ 32 % 256 ∷ n / 2 ^ 40 % 256 ∷ n / 2 ^ 48 % 256 ∷ n / 2 ^ 56 % 256 ∷ []

-- xs stored from an index on, where all of it lies in the bytes
abbrev pub placed : List ℕ → ℕ → List ℕ → List ℕ
placed s i xs = cond (leb (i + length xs) (length s)) (sets s i xs) s
