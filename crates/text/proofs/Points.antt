-- Points of the definitions, worked out by antt: decimals of one digit to twenty, and rooms that are full, and short by a byte. Assumes nothing.
use mathlib.Core.Path.{◌≡◌, refl, ◌∙◌}
use mathlib.Core.List.{List, [], ◌∷◌, map}
use Prim.Native.Nat.{ℕ, ◌^◌}
use Prim.Native.String.{String}
use lib.Dec.{T, ltb, lit<}
use lib.ListN.{replicate}
use contract.Lifetimes.{Lfts}
use denote.Triple.Clauses.{AtExit}
use borrow.Fn.Kinds.{Dens, ended_of, res_t}
use Rattle.text.specs.Text.{bytes_of, digits_in, decimal, fitting, Wrote}
use Rattle.text.proofs.Laws.{turns}
use Rattle.text.proofs as own

-- numbers of one digit to twenty, and how they are printed
abbrev numbers : List ℕ
numbers = 0 ∷ 9 ∷ 10 ∷ 65537 ∷ 999999 ∷ 1000000 ∷ 1234567 ∷ 4294967296 ∷ 18446744073709551615 ∷ []

abbrev printed : List String
printed = "0" ∷ "9" ∷ "10" ∷ "65537" ∷ "999999" ∷ "1000000" ∷ "1234567" ∷ "4294967296" ∷ "18446744073709551615" ∷ []

-- `decimal` takes a number's own many turns, which no computer takes: twenty give the same
Short : List ℕ → Type 0
Short [] = Unit
Short (n ∷ ns) = T (ltb n (10 ^ 20)) × Short ns

all_turns : (ns : List ℕ) → Short ns → map decimal ns ≡ map (digits_in 19) ns
unfolding Short
all_turns [] s = refl
all_turns (n ∷ ns) s = rw (turns 19 n (lit< s.0), all_turns ns s.1)

printed_so : map (digits_in 19) numbers ≡ map bytes_of printed
unfolding digits_in
printed_so = refl

pub decimals : map decimal numbers ≡ map bytes_of printed
unfolding Short
decimals = all_turns numbers (tt, (tt, (tt, (tt, (tt, (tt, (tt, (tt, (tt, tt))))))))) ∙ printed_so

-- three bytes in rooms of three, of two, and past the end
pub rooms :
    fitting (replicate 4 90) 1 3 (1 ∷ 2 ∷ 3 ∷ []) ∷ fitting (replicate 4 90) 2 3 (1 ∷ 2 ∷ 3 ∷ []) ∷ fitting (replicate 70 90) 67 3 (1 ∷ 2 ∷ 3 ∷ [])
    ∷ fitting (replicate 70 90) 68 3 (1 ∷ 2 ∷ 3 ∷ []) ∷ []
    ≡ (1 ∷ 2 ∷ 3 ∷ []) ∷ [] ∷ (1 ∷ 2 ∷ 3 ∷ []) ∷ [] ∷ []
rooms = refl

-- what `put_decimal` promises of the number 7 in a room of twenty bytes, and of nineteen
pub room_of_twenty : (κs : Lfts 2) (a : Dens κs own.Writer.put_decimal.Kinds.ps) (e : AtExit (ended_of 2 own.Writer.put_decimal.Kinds.ps own.Writer.put_decimal.Kinds.r) κs) (x : (res_t own.Writer.put_decimal.Kinds.r κs).Denot) →
    own.Writer.put_decimal.Reads.Post κs a x e → a.0.now.out.now ≡ replicate 20 90 → a.0.now.at ≡ 0 → a.1.0 ≡ 7 →
    Wrote (replicate 20 90) 0 (55 ∷ []) e.0.now.out.now e.0.now.at
unfolding digits_in decimal
room_of_twenty κs a e x p s i n = rw n at (rw i at (rw s at p.0))

pub room_of_nineteen : (κs : Lfts 2) (a : Dens κs own.Writer.put_decimal.Kinds.ps) (e : AtExit (ended_of 2 own.Writer.put_decimal.Kinds.ps own.Writer.put_decimal.Kinds.r) κs) (x : (res_t own.Writer.put_decimal.Kinds.r κs).Denot) →
    own.Writer.put_decimal.Reads.Post κs a x e → a.0.now.out.now ≡ replicate 19 90 → a.0.now.at ≡ 0 → Wrote (replicate 19 90) 0 [] e.0.now.out.now e.0.now.at
room_of_nineteen κs a e x p s i = rw i at (rw s at p.0)
