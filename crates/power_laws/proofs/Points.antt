-- Points of the laws, worked out by antt from the definitions: that their premises are met, and what breaks where one is left out. The numbers and bits of
-- the answers were worked by tools/rules_rows.py from the rule's words, with floats that are not antt's. Assumes nothing.
use mathlib.Core.Path.{◌≡◌, refl}
use mathlib.Core.Bool.{Bool, true, false}
use mathlib.Core.List.{List, [], ◌∷◌, map}
use Prim.Native.Nat.{ℕ, ◌+◌, ◌^◌}
use lib.IntN.{ℤ, pos, negsuc}
use lib.Ieee.{Float, inf, fin, binary64, to_bits, round, neg, add, sum, mul, div}
use Rattle.common.specs.Outcome.{Outcome, number_and_value, zero_f}
use Rattle.common.specs.Sum.{total, every}
use Rattle.rules.specs.Power.{power_rule}
use Rattle.algo.specs.declared.Order.TheVariants.{Zero}
use Rattle.algo.specs.Table.{Row, row, term, sum_rule}
use Rattle.power_laws.specs.Laws.{two_to, in_range, normal, products, every_product}
use Rattle.power_laws.specs.Even.{all_even_first, all_even_second}

-- the paper's number, and the bits of the value
abbrev told : Outcome Float → ℕ × ℕ
told o = let z = number_and_value zero_f o in (z.0, to_bits binary64 z.1)

-- digits with so many places after the point
abbrev decimal : ℕ → ℕ → Float
decimal digits places = round binary64 false digits (10 ^ places)

-- 2^-(k + 1)
abbrev part : ℕ → Float
part k = fin false 1 (negsuc k)

-- a base and the same with its sign turned
abbrev pair : Float → ℤ → List (ℕ × ℕ)
pair a n = told (power_rule a n) ∷ told (power_rule (neg a) n) ∷ []

-- ---- sign: an odd n, an even one, one below 0; bases of 0; a power that is refused
pub signs : (pair (decimal 1_1 1) (pos 7) ≡ (0, 0x3fff2df1fb5a7ed7) ∷ (0, 0xbfff2df1fb5a7ed7) ∷ [])
    × (pair (decimal 1_1 1) (pos 4) ≡ (0, 0x3ff76cf41f212d79) ∷ (0, 0x3ff76cf41f212d79) ∷ [])
    × (pair (decimal 1_1 1) (negsuc 2) ≡ (0, 0x3fe80ac5565befd6) ∷ (0, 0xbfe80ac5565befd6) ∷ [])
    × (pair zero_f (pos 3) ≡ (0, 0) ∷ (0, 0x8000000000000000) ∷ [])
    × (pair zero_f (pos 2) ≡ (0, 0) ∷ (0, 0) ∷ [])
    × (pair zero_f (pos 0) ≡ (0, 0x3ff0000000000000) ∷ (0, 0x3ff0000000000000) ∷ [])
    × (pair zero_f (negsuc 2) ≡ (5, 0) ∷ (5, 0) ∷ [])
    × (pair (decimal (10 ^ 200) 0) (pos 2) ≡ (5, 0) ∷ (5, 0) ∷ [])
    × (pair (inf false) (pos 2) ≡ (1, 0) ∷ (1, 0) ∷ [])
    × (pair (decimal 1_1 1) (pos 65) ≡ (3, 0) ∷ (3, 0) ∷ [])
unfolding power_rule to_bits round neg mul div
signs = (refl, refl, refl, refl, refl, refl, refl, refl, refl, refl)

-- ---- inverse: both accepted; and the f64 after 2^1022, whose power at 1 is accepted and at -1 is not
pub inverses : map told (power_rule (decimal 1_1 1) (pos 3) ∷ power_rule (decimal 1_1 1) (negsuc 2) ∷ power_rule (fin false 0x10000000000001 (pos 970))
    (pos 1) ∷ power_rule (fin false 0x10000000000001 (pos 970)) (negsuc 0) ∷ [])
    ≡ (0, 0x3ff54bc6a7ef9db4) ∷ (0, 0x3fe80ac5565befd6) ∷ (0, 0x7fd0000000000001) ∷ (5, 0) ∷ []
unfolding power_rule to_bits round mul div
inverses = refl

-- ---- doubling

-- whether all products of the powers of a and of 2*a are in the normal range, and the two powers
abbrev doubled : Float → ℕ → (Bool × Bool) × List (ℕ × ℕ)
doubled a n = let b = mul binary64 (two_to 1) a in ((products in_range a n, products in_range b n), told (power_rule a (pos n)) ∷ told (power_rule b (pos n)) ∷ [])

-- the premises are met: 1.1 to the 7, -0.7 to the 64, 2^-511 squared, which is 2^-1022, and the smallest f64 of all to the 0
pub doubles : (doubled (decimal 1_1 1) 7 ≡ ((true, true), (0, 0x3fff2df1fb5a7ed7) ∷ (0, 0x406f2df1fb5a7ed7) ∷ []))
    × (doubled (neg (decimal 0_7 1)) 64 ≡ ((true, true), (0, 0x3de0c3a693554092) ∷ (0, 0x41e0c3a693554092) ∷ []))
    × (doubled (part 510) 2 ≡ ((true, true), (0, 0x10000000000000) ∷ (0, 0x30000000000000) ∷ []))
    × (doubled (part 1073) 0 ≡ ((true, true), (0, 0x3ff0000000000000) ∷ (0, 0x3ff0000000000000) ∷ []))
unfolding power_rule every_product to_bits round neg mul div
doubles = (refl, refl, refl, refl)

-- and each is needed: the first power's products (2^-512 squared), the second's (2^511 squared), 2*a finite (2^1023 to the 0), an n up to 64, an f64 for
-- base (2^53 + 1 squared: twice as much is rounded to 2^54, and 4 times the power would be 0x46b0000000000001)
pub needed : (doubled (part 511) 2 ≡ ((false, true), (5, 0) ∷ (0, 0x10000000000000) ∷ []))
    × (doubled (two_to 511) 2 ≡ ((true, false), (0, 0x7fd0000000000000) ∷ (5, 0) ∷ []))
    × (doubled (two_to 1023) 0 ≡ ((true, true), (0, 0x3ff0000000000000) ∷ (1, 0) ∷ []))
    × (doubled (two_to 0) 65 ≡ ((true, true), (3, 0) ∷ (3, 0) ∷ []))
    × (doubled (fin false (2 ^ 53 + 1) (pos 0)) 2 ≡ ((true, true), (0, 0x4690000000000001) ∷ (0, 0x46b0000000000000) ∷ []))
unfolding power_rule every_product to_bits round mul div
needed = (refl, refl, refl, refl, refl)

-- Why products are taken before they are rounded: one of two f64s that is below 2^-1022, rounds up to it and so counts as normal; with its first factor
-- doubled it is not twice as much, which would be 0x20000000000000. No power up to 64 comes by such a product (proofs/Smallest).
abbrev factor : Float
factor = fin false 0x1fffffffffffff (negsuc 563)

pub rounded_up : (normal factor (part 510) ≡ true)
    × (in_range factor (part 510) ≡ false)
    × (to_bits binary64 (mul binary64 factor (part 510)) ≡ 0x10000000000000)
    × (to_bits binary64 (mul binary64 (mul binary64 (two_to 1) factor) (part 510)) ≡ 0x1fffffffffffff)
unfolding to_bits round mul
rounded_up = (refl, refl, refl, refl)

-- ---- sums: a table with even exponents of its first base only; at the turned first base the sum is the same, at the turned second one it is not
abbrev rows : List Row
rows = row (pos 2) (pos 1) (two_to 0) ∷ row (negsuc 3) (pos 2) (two_to 1) ∷ row (pos 0) (pos 0) (two_to 2) ∷ []

abbrev summed : Float → Float → ℕ × ℕ
summed x y = told (sum_rule term x y rows)

-- 1.1^2 * 2 + 2 * 1.1^-4 * 4 + 4, and -1.1^2 * 2 + 2 * 1.1^-4 * 4 + 4
pub sums : (all_even_first Zero rows ≡ true)
    × (all_even_second Zero rows ≡ false)
    × (summed (decimal 1_1 1) (two_to 1) ≡ (0, 0x4027c4a9c1c8f996))
    × (summed (neg (decimal 1_1 1)) (two_to 1) ≡ (0, 0x4027c4a9c1c8f996))
    × (summed (decimal 1_1 1) (neg (two_to 1)) ≡ (0, 0x401c2d2a8dcf63ce))
unfolding every sum_rule total power_rule to_bits round neg add sum mul div
sums = (refl, refl, refl, refl, refl)
