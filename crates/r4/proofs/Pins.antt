-- Each printed table is the Rust's, digit by digit and row by row: its pin (common/proofs/Pin.antt), computed of the definition, is the
-- number that tools/pins.py works from the text of the Rust. Written by that script.
use mathlib.Core.Path.{◌≡◌, refl}
use mathlib.Core.List.{List, [], ◌∷◌}
use lib.Ieee.{Float}
use Rattle.common.specs.Decimal.{plus, minus, scaled}
use Rattle.common.specs.Outcome.{value_in}
use Rattle.common.proofs.Pin.{pin_from, pin_numbers}
use Rattle.r4.specs.Saturation.{n1, n2, n3, n4, n5, n6, n7, n8, n9, n10}

-- table 34
abbrev table34 : List Float
table34 =
    value_in n1 ∷ value_in n2 ∷ value_in n3 ∷ value_in n4 ∷ value_in n5 ∷ value_in n6 ∷ value_in n7 ∷ value_in n8 ∷ value_in n9 ∷ value_in n10 ∷ []

pub table34_pin : pin_numbers table34 ≡ 481135907783814121
unfolding pin_from plus minus scaled
table34_pin = refl
