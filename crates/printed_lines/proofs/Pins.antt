-- Each printed table is the Rust's, digit by digit and row by row: its pin (common/proofs/Pin.antt), computed of the definition, is the
-- number that tools/pins.py works from the text of the Rust. Written by that script.
use Prim.Native.Nat.{ℕ}
use mathlib.Core.Path.{◌≡◌, refl}
use mathlib.Core.List.{List, [], ◌∷◌}
use lib.Ieee.{Float}
use Rattle.common.specs.Decimal.{plus, minus, scaled}
use Rattle.common.proofs.Pin.{mix, shifted, mix_float, pin_from}
use Rattle.printed_lines.specs.Boundaries.{Term, term, Argument, in_p, in_ln, Row, row, table}

abbrev mix_term : ℕ → Term → ℕ
mix_term h (term i n) = mix_float (mix h (shifted i)) n

abbrev numbered : Argument → ℕ
numbered in_p = 1
numbered in_ln = 2

-- what the row's sum is in, and its terms
abbrev mix_row : ℕ → Row → ℕ
mix_row h (row a ts) = pin_from mix_term (mix h (numbered a)) ts

abbrev pin_rows : List Row → ℕ
pin_rows = pin_from mix_row 0

pub table_pin : pin_rows table ≡ 1147989198118488577
unfolding pin_from plus minus scaled table
table_pin = refl
