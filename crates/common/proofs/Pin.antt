-- The pin of a list of numbers: one number modulo the prime 2^61 - 1, worked by Horner's rule over the list in its order, so that a digit that
-- moves an f64 and two entries that are exchanged give another one. tools/pins.py works the same from the text of the Rust.
use Prim.Native.Nat.{ℕ, ◌+◌, ◌-◌, ◌*◌, ◌%◌}
use mathlib.Core.Bool.{Bool, true, false}
use mathlib.Core.List.{List, [], ◌∷◌}
use lib.IntN.{ℤ, pos, negsuc}
use lib.Ieee.{Float, nan, inf, fin}

-- one more whole number
abbrev pub mix : ℕ → ℕ → ℕ
mix h c = (h * 1000003 + c) % 2305843009213693951

-- a whole number from -1999 up, as one from 1 up
abbrev pub shifted : ℤ → ℕ
shifted (pos k) = 2000 + k
shifted (negsuc k) = 1999 - k

abbrev signed : Bool → ℕ
signed true = 2
signed false = 1

-- the sign, the odd whole part and the power of two of a float
abbrev pub mix_float : ℕ → Float → ℕ
mix_float h nan = mix h 0
mix_float h (inf s) = mix h 3
mix_float h (fin s m e) = mix (mix (mix h (signed s)) m) (shifted e)

unfoldable pub pin_from : {A : Type 0} → (ℕ → A → ℕ) → ℕ → List A → ℕ
pin_from f h [] = h
pin_from f h (x ∷ xs) = pin_from f (f h x) xs

abbrev pub pin_numbers : List Float → ℕ
pin_numbers = pin_from mix_float 0
