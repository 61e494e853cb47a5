-- To believe, down to `size_of`: a formula of rounded operations that reads as the document prints it: its operands are what the steps before give, the left one worked first,
-- and a result that is not finite is refused with 5. Assumes nothing: these are definitions.
use Rattle.std.specs.Prelude.{◌≡◌, cond, Float}
use Rattle.std.specs.Float.{nan, inf, fin, binary64}
use Rattle.std.specs.Float.Ieee.{lt, neg, add, sub, mul, div}
use Rattle.common.specs.Outcome.{Outcome, value, check, then, zero_f}

-- one rounded operation
abbrev pub worked : (Float → Float → Float) → Outcome Float → Outcome Float → Outcome Float
worked f o q = then o (λ x. then q (λ y. check (f x y)))

infixl 60 ◌⊕◌
infixl 60 ◌⊖◌
infixl 70 ◌⊗◌
infixl 70 ◌⊘◌
abbrev pub ◌⊕◌ : Outcome Float → Outcome Float → Outcome Float
◌⊕◌ = worked (add binary64)

abbrev pub ◌⊖◌ : Outcome Float → Outcome Float → Outcome Float
◌⊖◌ = worked (sub binary64)

abbrev pub ◌⊗◌ : Outcome Float → Outcome Float → Outcome Float
◌⊗◌ = worked (mul binary64)

abbrev pub ◌⊘◌ : Outcome Float → Outcome Float → Outcome Float
◌⊘◌ = worked (div binary64)

-- the sign turned, which rounds nothing
abbrev pub minus_of : Outcome Float → Outcome Float
minus_of o = then o (λ x. value (neg x))

-- |x|, which rounds nothing
abbrev pub size_of : Float → Float
size_of x = cond (lt x zero_f) (neg x) x

-- ---- Helps proofs only: with no check, a number that is lost travels as itself

-- x where it is lost, and else y
abbrev pub lost_or : Float → Float → Float
lost_or nan y = nan
lost_or (inf s) y = inf s
lost_or (fin s m e) y = y

-- x / y, or y where that is lost: x divided by an infinity is 0 and would hide it
abbrev pub raw_over : Float → Float → Float
raw_over x y = lost_or y (div binary64 x y)

-- what a function that works a formula with no check promises: r, checked once, is what the steps of o come to
pub record Raw (o : Outcome Float) (r : Float) : Type 0 where
  pub is : o ≡ check r
