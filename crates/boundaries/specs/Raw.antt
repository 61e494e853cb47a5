-- Helps proofs only: a row of the code as a row of the table, and a boundary's number with no check. Assumes nothing: these are definitions.
use Rattle.std.specs.Prelude.{ℕ, Bool, true, false, List, [], ◌∷◌, ◌++◌, map, Option, None, Some, ◌≡◌, leb, ℤ, nat_abs, Float}
use Rattle.std.specs.Float.{binary64}
use Rattle.std.specs.Float.Ieee.{add, sub, mul}
use Rattle.common.specs.Outcome.{check, or_nan, zero_f}
use Rattle.common.specs.Decimal.{decimal}
use Rattle.common.specs.Sum.{raw_total}
use Rattle.rules.specs.Power.{power_rule}
use Rattle.rules.specs.RawPower.{raw_power}
use Rattle.inverses.specs.Log.{logarithm_rule}
use Rattle.boundaries.specs.Boundary as paper
use Rattle.boundaries.specs.Boundary.{term, Argument, in_p, in_ln, row, row_at, Form, tabled, straight, form_of}
use Rattle.boundaries.specs.declared.Boundary.{Boundary}
use Rattle.boundaries.specs.declared.table.Term.{Term}
use Rattle.boundaries.specs.declared.table.Place.{Place}
use Rattle.boundaries.specs.declared.table.Place.TheVariants.{Ab, Cd, Gh, Ij, Jk, Mn, Op, Qu, Rx, Uv, Wx}
use Rattle.boundaries.specs.declared.table.Row.{Row}

-- ---- a row of the code, and its place in the table

abbrev pub place_of : Place → ℕ
place_of Ab = 0
place_of Cd = 1
place_of Gh = 2
place_of Ij = 3
place_of Jk = 4
place_of Mn = 5
place_of Op = 6
place_of Qu = 7
place_of Rx = 8
place_of Uv = 9
place_of Wx = 10

abbrev pub argument_of : Bool → Argument
argument_of true = in_ln
argument_of false = in_p

abbrev pub term_of : Term → paper.Term
term_of t = term t.0 t.1

abbrev pub fifth_of : Option Term → List paper.Term
fifth_of None = []
fifth_of (Some t) = term_of t ∷ []

abbrev pub row_of : Row → paper.Row
row_of r = row (argument_of r.ln) (map term_of r.terms ++ fifth_of r.fifth)

-- ---- the walk: a lost number is the result

abbrev pub raw_argument : Argument → Float → Float
raw_argument in_p p = p
raw_argument in_ln p = or_nan (logarithm_rule p)

abbrev pub argument_in : paper.Row → Argument
argument_in (row a ts) = a

-- a power: bare, with no look at it, or by the rule, a NaN where that refuses
abbrev pub power_by : Bool → Float → ℤ → Float
power_by true x i = raw_power x i
power_by false x i = or_nan (power_rule x i)

abbrev pub raw_term : Bool → Float → paper.Term → Float
raw_term bare x (term i n) = mul binary64 n (power_by bare x i)

unfoldable pub raw_sum : Bool → paper.Row → Float → Float
unfolding raw_total
raw_sum bare (row a ts) x = raw_total (raw_term bare x) zero_f ts

-- ---- a boundary's number: its row's sum, or 3ef's line

abbrev pub raw_form : Bool → Form → Float → Float
raw_form bare (tabled k) p = raw_sum bare (row_at k) (raw_argument (argument_in (row_at k)) p)
raw_form bare straight p = add binary64 (mul binary64 (decimal 3_727888004 9) (sub binary64 p (decimal 22_064 3))) (decimal 647_096 3)

abbrev pub raw_at : Boundary → Float → Float
raw_at b p = raw_form false (form_of b) p

abbrev pub bare_at : Boundary → Float → Float
bare_at b p = raw_form true (form_of b) p

-- ---- bare powers

abbrev pub bare_term : Float → paper.Term → Float
bare_term x t = raw_term true x t

-- x at which they are the rule's, as far as a row goes
abbrev pub Bare : Float → Type 0
Bare x = (i : ℤ) → leb (nat_abs i) 4 ≡ true → power_rule x i ≡ check (raw_power x i)
