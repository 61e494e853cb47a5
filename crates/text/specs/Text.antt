-- To believe: the bytes of a text and of a decimal number, and what is written of them into lent bytes. Assumes nothing: these are definitions.
use Rattle.std.specs.Prelude.{cond, ℕ, zero, suc, ◌+◌, ◌/◌, ◌%◌, List, [], ◌∷◌, ◌++◌, ◌≡◌, leb, ltb, length}
use Prim.Native.Char.{code}
use Prim.Native.String.{String}
use Prim.Native.String as string
use Rattle.std.proofs.lemmas.List.Edits.{sets}

-- the bytes of an ASCII text
abbrev pub bytes_of : String → List ℕ
bytes_of string.[] = []
bytes_of (string.◌∷◌ c s) = code c ∷ bytes_of s

-- a number in decimal: its last digit and, where it is not below 10, its tenth part before it
unfoldable pub digits_in : ℕ → ℕ → List ℕ
digits_in zero n = (code "0" + n % 10) ∷ []
digits_in (suc k) n = cond (ltb n 10) [] (digits_in k (n / 10)) ++ ((code "0" + n % 10) ∷ [])

-- n turns are enough
unfoldable pub decimal : ℕ → List ℕ
decimal n = digits_in n n

-- the bytes xs stand in the buffer from `at` on, the next place is past them, and every other byte is as it was
pub record Wrote (old : List ℕ) (at : ℕ) (xs : List ℕ) (new : List ℕ) (next : ℕ) : Type 0 where
  pub ends : next ≡ at + length xs
  pub holds : new ≡ sets old at xs

-- xs where `room` bytes are left from `at` on, else nothing
abbrev pub fitting : List ℕ → ℕ → ℕ → List ℕ → List ℕ
fitting old at room xs = cond (leb (at + room) (length old)) xs []
