-- A printed value: what a rule works out agrees with it to half a unit of its last place, decided by whole numbers.
use mathlib.Core.Bool.{Bool, false, true, ◌&&◌, beq}
use Prim.Native.Nat.{ℕ, ◌+◌, ◌*◌, ◌^◌}
use lib.Dec.{leb}
use lib.Ieee.{Float, nan, inf, fin, up, down}
use Rattle.common.specs.Outcome.{Outcome, value, refused}

-- a number of the sign s (true below 0) that is printed as digits / 10^places
abbrev pub printed_as : Bool → ℕ → ℕ → Outcome Float → Bool
printed_as s digits places (refused k) = false
printed_as s digits places (value nan) = false
printed_as s digits places (value (inf t)) = false
printed_as s digits places (value (fin t m e)) =
    beq s t && (leb (m * up e * 10 ^ places * 2) (digits * down e * 2 + down e) && leb (digits * down e * 2) (m * up e * 10 ^ places * 2 + down e))

-- what is worked out, and the value printed for it
pub data Value : Type 0 where
  prints : Outcome Float → ℕ → ℕ → Value
  prints_minus : Outcome Float → ℕ → ℕ → Value

abbrev pub agrees : Value → Bool
agrees (prints o digits places) = printed_as false digits places o
agrees (prints_minus o digits places) = printed_as true digits places o
