-- A letter's byte gives the letter back, and a byte that is none's gives a. Assumes nothing.
use Rattle.std.proofs.Common.{◌≡◌, ℕ, ◌-◌, ◌<◌, ◌≤◌, ◌⊎◌, inl, inr, Ok, Err, Result, ◌∙◌, sym, ap, refl, arith}
use Rattle.std.specs.Result.{result_unwrap_or}
use lib.Dec.{lit≤}
use lib.ListN.{get_or-eq_default}
use Rattle.subregion.specs.declared.Letter.{Letter}
use Rattle.subregion.specs.declared.Letter.TheVariants as letters
use Rattle.subregion.specs.declared.NoLetter.{NoLetter}
use Rattle.subregion.specs.Letter.{ascii_of, alphabet, of_byte, Decodes}

pub record Byte (l : Letter) : Type 0 where
  pub back : of_byte (ascii_of l) ≡ l
  pub high : 97 ≤ ascii_of l
  pub low : ascii_of l ≤ 122

pub byte_of : (l : Letter) → Byte l
byte_of letters.A = record { back = refl; high = lit≤ tt; low = lit≤ tt }
byte_of letters.B = record { back = refl; high = lit≤ tt; low = lit≤ tt }
byte_of letters.C = record { back = refl; high = lit≤ tt; low = lit≤ tt }
byte_of letters.D = record { back = refl; high = lit≤ tt; low = lit≤ tt }
byte_of letters.E = record { back = refl; high = lit≤ tt; low = lit≤ tt }
byte_of letters.F = record { back = refl; high = lit≤ tt; low = lit≤ tt }
byte_of letters.G = record { back = refl; high = lit≤ tt; low = lit≤ tt }
byte_of letters.H = record { back = refl; high = lit≤ tt; low = lit≤ tt }
byte_of letters.I = record { back = refl; high = lit≤ tt; low = lit≤ tt }
byte_of letters.J = record { back = refl; high = lit≤ tt; low = lit≤ tt }
byte_of letters.K = record { back = refl; high = lit≤ tt; low = lit≤ tt }
byte_of letters.L = record { back = refl; high = lit≤ tt; low = lit≤ tt }
byte_of letters.M = record { back = refl; high = lit≤ tt; low = lit≤ tt }
byte_of letters.N = record { back = refl; high = lit≤ tt; low = lit≤ tt }
byte_of letters.O = record { back = refl; high = lit≤ tt; low = lit≤ tt }
byte_of letters.P = record { back = refl; high = lit≤ tt; low = lit≤ tt }
byte_of letters.Q = record { back = refl; high = lit≤ tt; low = lit≤ tt }
byte_of letters.R = record { back = refl; high = lit≤ tt; low = lit≤ tt }
byte_of letters.S = record { back = refl; high = lit≤ tt; low = lit≤ tt }
byte_of letters.T = record { back = refl; high = lit≤ tt; low = lit≤ tt }
byte_of letters.U = record { back = refl; high = lit≤ tt; low = lit≤ tt }
byte_of letters.«V» = record { back = refl; high = lit≤ tt; low = lit≤ tt }
byte_of letters.W = record { back = refl; high = lit≤ tt; low = lit≤ tt }
byte_of letters.X = record { back = refl; high = lit≤ tt; low = lit≤ tt }
byte_of letters.Y = record { back = refl; high = lit≤ tt; low = lit≤ tt }
byte_of letters.Z = record { back = refl; high = lit≤ tt; low = lit≤ tt }

pub none_of_byte : (b : ℕ) → (b < 97) ⊎ (122 < b) → of_byte b ≡ letters.A
none_of_byte b (inl h) = let e : b - 97 ≡ 0 = omega arith in rw e
none_of_byte b (inr h) = let l : 26 ≤ b - 97 = omega arith in get_or-eq_default alphabet letters.A l

-- a letter that is decoded is the byte's, and where none is, the byte's is a
pub decoded : (b : ℕ) (r : Result Letter NoLetter) → Decodes b r → result_unwrap_or r letters.A ≡ of_byte b
decoded b (Ok l) h = sym (byte_of l).back ∙ ap of_byte h
decoded b (Err e) h = sym (none_of_byte b h.1)

no_letter : (b : ℕ) (l : Letter) → ascii_of l ≡ b → (b < 97) ⊎ (122 < b) → ⊥
no_letter b l h (inl k) = let x = (byte_of l).high in omega arith
no_letter b l h (inr k) = let x = (byte_of l).low in omega arith

-- what decodes a byte is determined by it
pub same_decoded : (b : ℕ) (r s : Result Letter NoLetter) → Decodes b r → Decodes b s → r ≡ s
same_decoded b (Ok l) (Ok k) h g = ap Ok (sym (byte_of l).back ∙ ap of_byte (h ∙ sym g) ∙ (byte_of k).back)
same_decoded b (Ok l) (Err e) h g = absurd (no_letter b l h g.1)
same_decoded b (Err e) (Ok k) h g = absurd (no_letter b k g h.1)
same_decoded b (Err e) (Err f) h g = ap Err (ap (λ (n : ℕ). record { 0 = n }) (h.0 ∙ sym g.0))
