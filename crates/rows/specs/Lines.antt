-- To believe: what `letters` reads and writes, byte by byte (docs/SCOPE.md). Assumes nothing: these are definitions.
use Rattle.std.specs.Prelude.{ℕ, ◌+◌, ◌*◌, ◌-◌, ◌/◌, ◌%◌, ◌^◌, min, List, [], ◌∷◌, ◌++◌, ◌≡◌, length, get_or, Float}
use Prim.Native.Char.{code}
use Rattle.std.specs.Float.{nan}
use Rattle.common.specs.Outcome.{Outcome, value, refused, number_in}
use Rattle.subregion.specs.declared.Letter.{Letter}
use Rattle.subregion.specs.Letter.{ascii_of}
use Rattle.boundary.specs.Choice.{letter_rule}
use Rattle.buffer.specs.Bytes.{joined, float_at}
use Rattle.text.specs.Text.{bytes_of, decimal}

-- p and T of row i, of 16 bytes
abbrev pub p_at : List ℕ → ℕ → Float
p_at s i = float_at s (16 * i)

abbrev pub t_at : List ℕ → ℕ → Float
t_at s i = float_at s (16 * i + 8)

-- the columns of the first n rows
abbrev pub p_column : List ℕ → ℕ → List Float
p_column s n = joined (λ i. p_at s i ∷ []) n

abbrev pub t_column : List ℕ → ℕ → List Float
t_column s n = joined (λ i. t_at s i ∷ []) n

-- the letter or '-'
abbrev pub mark_in : Outcome Letter → ℕ
mark_in (value l) = ascii_of l
mark_in (refused k) = code "-"

-- row number, letter or '-', refusal
unfoldable pub line_of : ℕ → Outcome Letter → List ℕ
line_of n o = decimal n ++ ((code " " ∷ mark_in o ∷ bytes_of " ") ++ (decimal (number_in o) ++ bytes_of "\n"))

-- the lines of the first n rows of two columns, after `done` rows
unfoldable pub lines_of : ℕ → List Float → List Float → ℕ → List ℕ
lines_of done p t n = joined (λ i. line_of (done + i + 1) (letter_rule (get_or p i nan) (get_or t i nan))) n

-- the same of the bytes themselves
unfoldable pub block_of : ℕ → List ℕ → ℕ → List ℕ
block_of done s n = joined (λ i. line_of (done + i + 1) (letter_rule (p_at s i) (t_at s i))) n

-- how many rows a page of n bytes works after `done` rows: whole ones, 512 at most, whose numbers are below 2^64
abbrev pub rows_in : ℕ → ℕ → ℕ
rows_in done n = min (min (n / 16) 512) (2 ^ 64 - 1 - done)

-- the lines of a page
abbrev pub page_of : ℕ → List ℕ → List ℕ
page_of done s = block_of done s (rows_in done (length s))

-- whole rows, and bytes left after them
unfoldable pub last_line : ℕ → ℕ → List ℕ
last_line n left = bytes_of "rows " ++ (decimal n ++ (bytes_of " left " ++ (decimal left ++ bytes_of "\n")))

-- the last line after a page of n bytes: all rows worked, and the bytes of the page past its rows
abbrev pub end_of : ℕ → ℕ → List ℕ
end_of done n = last_line (done + rows_in done n) (n - 16 * rows_in done n)

-- the whole output for a stream, after `done` rows
unfoldable pub output_of : ℕ → List ℕ → List ℕ
output_of done s = block_of done s (length s / 16) ++ last_line (done + length s / 16) (length s % 16)

-- what the turns of `letters` write: a page for each 8,192 bytes, then a page of the rest and the last line
unfoldable pub turns_of : ℕ → List (List ℕ) → List ℕ → List ℕ
turns_of done [] rest = page_of done rest ++ end_of done (length rest)
turns_of done (s ∷ blocks) rest = page_of done s ++ turns_of (done + 512) blocks rest

-- each of the blocks is full
unfoldable pub Full : List (List ℕ) → Type 0
Full [] = Unit
Full (s ∷ blocks) = (length s ≡ 8192) × Full blocks
