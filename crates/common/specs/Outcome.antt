-- To believe: what a step of a rule gives, a value or a refusal with the paper's number; when a number is lost, and that a lost one is refused with 5; the step
-- after a step; and the paper's number and value of what came out. Assumes nothing: these are definitions.
use Rattle.std.specs.Prelude.{ℕ, Bool, true, false, pos, Float}
use Rattle.std.specs.Float.{nan, inf, fin}

pub data Outcome (A : Type 0) : Type 0 where
  value : A → Outcome A
  refused : ℕ → Outcome A

-- neither a NaN nor an infinity
abbrev pub finite : Float → Bool
finite nan = false
finite (inf s) = false
finite (fin s m e) = true

-- a step's number, or refusal 5 where it is not finite
abbrev pub check : Float → Outcome Float
check nan = refused 5
check (inf s) = refused 5
check (fin s m e) = value (fin s m e)

-- the next step, from a step's value
abbrev pub then : {A B : Type 0} → Outcome A → (A → Outcome B) → Outcome B
then (value x) f = f x
then (refused k) f = refused k

-- +0.0
abbrev pub zero_f : Float
zero_f = fin false 0 (pos 0)

module _ {A : Type 0} where
  -- a refusal of a call inside another is 5
  abbrev pub inside : Outcome A → Outcome A
  inside (value x) = value x
  inside (refused k) = refused 5

  -- the paper's number: 0 for an accepted call
  abbrev pub number_in : Outcome A → ℕ
  number_in (value x) = 0
  number_in (refused k) = k

  -- the paper's value, with what stands for none in a refused call
  abbrev pub value_or : A → Outcome A → A
  value_or none (value x) = x
  value_or none (refused k) = none

  -- the paper's number and value: what a caller is told of an outcome
  abbrev pub number_and_value : A → Outcome A → ℕ × A
  number_and_value none o = (number_in o, value_or none o)

-- of a number, +0.0 stands for none
abbrev pub value_in : Outcome Float → Float
value_in = value_or zero_f

-- inside a formula that tests once a NaN does, so that what is worked out from it is lost too
abbrev pub or_nan : Outcome Float → Float
or_nan = value_or nan
