-- Points of the definitions far beyond the stored rows, worked out by antt: numbers of rows that 12, 16 and 32 bits do not hold, and the last ones of 64 bits.
-- The rows are of zeros: p = 0 is refused with 2. Assumes nothing.
use mathlib.Core.Path.{◌≡◌, ap, ◌∙◌}
use mathlib.Core.List.{List, [], ◌∷◌, ◌++◌}
use Prim.Native.Nat.{ℕ, ◌+◌, ◌-◌, ◌^◌, ◌<◌}
use Prim.Native.Char.{code}
use native.Mathlib.Omega.{arith}
use lib.Dec.{lit<}
use lib.ListN.{replicate}
use lib.Ieee.{of_bits, of_fields, le}
use Rattle.common.specs.Decimal.{scaled, decimal as printed, whole}
use Rattle.common.specs.Outcome.{Outcome, value, number_in}
use Rattle.subregion.specs.declared.Letter.{Letter}
use Rattle.subregion.specs.declared.Letter.TheVariants.{G}
use Rattle.border.specs.Border.{region3_box}
use Rattle.boundary.specs.Choice.{letter_rule}
use Rattle.buffer.specs.Bytes.{joined, float_at}
use Rattle.text.specs.Text.{bytes_of, digits_in, decimal}
use Rattle.text.proofs.Laws.{turns}
use Rattle.rows.specs.Lines.{p_at, t_at, mark_in, line_of, block_of, last_line, page_of, end_of, turns_of}
use Rattle.rows.proofs.Laws.{joined_same}

-- ---- the numbers in twenty turns: `decimal` takes as many as the number itself

abbrev line_in : ℕ → Outcome Letter → List ℕ
line_in n o = digits_in 19 n ++ ((code " " ∷ mark_in o ∷ bytes_of " ") ++ (decimal (number_in o) ++ bytes_of "\n"))

line_in_lem : (n : ℕ) (o : Outcome Letter) → n < 10 ^ 20 → line_of n o ≡ line_in n o
unfolding line_of
line_in_lem n o h = ap (λ (xs : List ℕ). xs ++ ((code " " ∷ mark_in o ∷ bytes_of " ") ++ (decimal (number_in o) ++ bytes_of "\n"))) (turns 19 n h)

block_in : (done : ℕ) (s : List ℕ) (n : ℕ) → done + n < 10 ^ 20 →
    block_of done s n ≡ joined (λ i. line_in (done + i + 1) (letter_rule (p_at s i) (t_at s i))) n
unfolding block_of
block_in done s n h = joined_same _ _ n (λ i l. line_in_lem (done + i + 1) (letter_rule (p_at s i) (t_at s i)) (omega arith))

last_in : (n left : ℕ) → n < 10 ^ 20 → last_line n left ≡ bytes_of "rows " ++ (digits_in 19 n ++ (bytes_of " left " ++ (decimal left ++ bytes_of "\n")))
unfolding last_line
last_in n left h = ap (λ (xs : List ℕ). bytes_of "rows " ++ (xs ++ (bytes_of " left " ++ (decimal left ++ bytes_of "\n")))) (turns 19 n h)

-- ---- the points

pub line_4097 : line_of 4097 (value G) ≡ bytes_of "4097 g 0\n"
unfolding digits_in decimal
line_4097 = line_in_lem 4097 (value G) (lit< tt)

pub line_1234567 : line_of 1234567 (value G) ≡ bytes_of "1234567 g 0\n"
unfolding digits_in decimal
line_1234567 = line_in_lem 1234567 (value G) (lit< tt)

pub page_65537 : page_of 65536 (replicate 33 0) ≡ bytes_of "65537 - 2\n65538 - 2\n"
unfolding joined float_at digits_in decimal letter_rule region3_box printed whole scaled of_bits of_fields le
page_65537 = block_in 65536 (replicate 33 0) 2 (lit< tt)

pub page_4294967297 : page_of (2 ^ 32) (replicate 16 0) ≡ bytes_of "4294967297 - 2\n"
unfolding joined float_at digits_in decimal letter_rule region3_box printed whole scaled of_bits of_fields le
page_4294967297 = block_in (2 ^ 32) (replicate 16 0) 1 (lit< tt)

-- three rows where one number is left
pub last_page : page_of (2 ^ 64 - 2) (replicate 48 0) ≡ bytes_of "18446744073709551615 - 2\n"
unfolding joined float_at digits_in decimal letter_rule region3_box printed whole scaled of_bits of_fields le
last_page = block_in (2 ^ 64 - 2) (replicate 48 0) 1 (lit< tt)

pub end_66047 : end_of 65536 8191 ≡ bytes_of "rows 66047 left 15\n"
unfolding digits_in decimal
end_66047 = last_in 66047 15 (lit< tt)

pub end_4294967296 : end_of (2 ^ 32 - 512) 8192 ≡ bytes_of "rows 4294967296 left 0\n"
unfolding digits_in decimal
end_4294967296 = last_in (2 ^ 32) 0 (lit< tt)

pub last_end : end_of (2 ^ 64 - 2) 48 ≡ bytes_of "rows 18446744073709551615 left 32\n"
unfolding digits_in decimal
last_end = last_in (2 ^ 64 - 1) 32 (lit< tt)

-- a full page has 512 rows, so the numbers go on by 512 after any
pub turn : turns_of 65536 (replicate 33 0 ∷ []) (replicate 5 0) ≡ bytes_of "65537 - 2\n65538 - 2\nrows 66048 left 5\n"
unfolding turns_of block_of joined digits_in decimal
turn = ap (λ (xs : List ℕ). xs ++ end_of 66048 5) page_65537 ∙ ap (λ (xs : List ℕ). bytes_of "65537 - 2\n65538 - 2\n" ++ xs) (last_in 66048 5 (lit< tt))
