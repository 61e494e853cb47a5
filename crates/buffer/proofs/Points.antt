-- Points of the definitions, worked out by antt: numbers at the ends of the bytes, with a byte past them, and with more. Assumes nothing.
use mathlib.Core.Path.{◌≡◌, refl}
use mathlib.Core.List.{List, [], ◌∷◌, ◌++◌, map}
use Prim.Native.Nat.{ℕ}
use lib.IntN.{pos, negsuc}
use lib.ListN.{replicate}
use lib.Ieee.{nan, binary64, of_bits, of_fields, to_bits}
use contract.Lifetimes.{Lfts}
use denote.Triple.Clauses.{AtExit}
use borrow.Fn.Kinds.{Dens, ended_of, res_t}
use Rattle.common.specs.Outcome.{zero_f}
use Rattle.common.specs.Decimal.{whole, scaled}
use Rattle.buffer.specs.Bytes.{signed, float_at, int_in, float_in, eight, placed}
use Rattle.buffer.proofs as own

-- five bytes: the largest number, one below 0, and two of which a byte or more is missing
pub ints : map (int_in (255 ∷ 255 ∷ 255 ∷ 127 ∷ 128 ∷ [])) (0 ∷ 1 ∷ 2 ∷ 5 ∷ []) ≡ pos 2147483647 ∷ negsuc 2139095040 ∷ pos 0 ∷ pos 0 ∷ []
unfolding signed
ints = refl

-- nine bytes: 24 in the last eight
pub floats : map (float_in (90 ∷ 0 ∷ 0 ∷ 0 ∷ 0 ∷ 0 ∷ 0 ∷ 56 ∷ 64 ∷ [])) (1 ∷ 2 ∷ 9 ∷ []) ≡ whole 24 ∷ zero_f ∷ zero_f ∷ []
unfolding float_at of_bits of_fields whole scaled
floats = refl

abbrev word : List ℕ
word = eight 0x0102_0304_0506_0708

-- rooms of 7, 9 and 70 bytes
pub words :
    placed (replicate 7 90) 0 word ∷ placed (replicate 9 90) 1 word ∷ placed (replicate 9 90) 2 word ∷ placed (replicate 70 90) 61 word ∷ placed (replicate 70 90) 63 word ∷ []
    ≡ replicate 7 90 ∷ (90 ∷ 8 ∷ 7 ∷ 6 ∷ 5 ∷ 4 ∷ 3 ∷ 2 ∷ 1 ∷ []) ∷ replicate 9 90
    ∷ (replicate 61 90 ++ (8 ∷ 7 ∷ 6 ∷ 5 ∷ 4 ∷ 3 ∷ 2 ∷ 1 ∷ 90 ∷ [])) ∷ replicate 70 90 ∷ []
words = refl

pub a_NaN : eight (to_bits binary64 nan) ≡ 0 ∷ 0 ∷ 0 ∷ 0 ∷ 0 ∷ 0 ∷ 248 ∷ 127 ∷ []
unfolding to_bits
a_NaN = refl

-- what `byte_at` promises of a byte past the end of one
pub byte_past_end : (κs : Lfts 1) (a : Dens κs own.byte_at.Kinds.ps) (e : AtExit (ended_of 1 own.byte_at.Kinds.ps own.byte_at.Kinds.r) κs) (x : (res_t own.byte_at.Kinds.r κs).Denot) →
    own.byte_at.Reads.Post κs a x e → a.0.now ≡ 90 ∷ [] → a.1.0 ≡ 1 → x ≡ 0
byte_past_end κs a e x p s at = rw at at (rw s at p)
