-- Eight bytes and their number, the high byte first. Assumes nothing.
use mathlib.Core.Path.{◌≡◌, refl, ◌∙◌}
use mathlib.Core.List.{List, [], ◌∷◌, ◌++◌}
use Prim.Native.Nat.{ℕ, zero, suc, ◌<◌, ◌^◌}
use native.Mathlib.Omega.{arith}
use lib.Dec.{lit<}
use lib.ListN.{length, get_or}
use Rattle.std.specs.Int.{w64, from_be_bytes}
use Rattle.std.proofs.lemmas.Grind.{common_steps}
use Rattle.std.proofs.lemmas.Nat.{be_bytes_8, from_be_bytes-to_be_bytes_8}
use Rattle.exchange_record.specs.Grammar.{word}
use Rattle.exchange_writer.specs.Written.{high}

abbrev pub AllBytes : List ℕ → Type 0
AllBytes [] = Unit
AllBytes (b ∷ bs) = (b < 256) × AllBytes bs

pub all_left : (xs ys : List ℕ) → AllBytes (xs ++ ys) → AllBytes xs
all_left [] ys h = tt
all_left (x ∷ xs) ys h = (h.0, all_left xs ys h.1)

pub all_right : (xs ys : List ℕ) → AllBytes (xs ++ ys) → AllBytes ys
all_right [] ys h = h
all_right (x ∷ xs) ys h = all_right xs ys h.1

below : (xs : List ℕ) → AllBytes xs → (i : ℕ) → get_or xs i 0 < 256
below [] h i = lit< tt
below (x ∷ xs) h zero = h.0
below (x ∷ xs) h (suc i) = below xs h.1 i

-- what a program reads as a number is the grammar's
word_is : (xs : List ℕ) → length xs ≡ 8 → word xs ≡ from_be_bytes w64 xs
word_is xs h = grind (arith, common_steps)

pub word_high : (n : ℕ) → n < 2 ^ 64 → word (high n) ≡ n
word_high n h = word_is (high n) refl ∙ from_be_bytes-to_be_bytes_8 n h

-- eight bytes are those of their number, which has 64 bits
pub eight_bytes : (xs : List ℕ) → length xs ≡ 8 → AllBytes xs → (high (word xs) ≡ xs) × (word xs < 2 ^ 64)
eight_bytes xs l h =
    let b = below xs h in
    let e = word_is xs l in
    (be_bytes_8 xs (word xs) l b e, omega (arith, e, b 0, b 1, b 2, b 3, b 4, b 5, b 6, b 7))
