-- A rule over the rows of columns, after the test of the columns' lengths: what a call answers that goes on from the test, or is turned away. Assumes nothing.
use mathlib.Core.Path.{◌≡◌, refl, ◌∙◌, sym}
use mathlib.Core.Bool.{Bool, true, false, cond}
use mathlib.Core.List.{List}
use lib.Dec.{eqb}
use lib.IntN.{ℤ}
use lib.ListN.{length}
use lib.Ieee.{Float}
use Rattle.std.specs.Prelude.{Result, IsErrAnd}
use Rattle.common.specs.Outcome.{Outcome, value, refused, then}
use Rattle.common.specs.Answer.{paper, number_of}
use Rattle.common.specs.declared.Refusal.{Refusal}
use Rattle.common.proofs.Calls.{went_in, passed_on}
use Rattle.algo.specs.Table.{Row, rows_of}
use Rattle.polynomial.specs.Columns.{by_columns, one_length}

-- the test, of what the two comparisons say
abbrev tested : Bool → Bool → Outcome Unit
tested p q = cond p (cond q (value tt) (refused 7)) (refused 7)

module _ {A : Type 0} where
  both : (p q : Bool) (o : Outcome A) → then (tested p q) (λ _. o) ≡ cond p (cond q o (refused 7)) (refused 7)
  both true true o = refl
  both true false o = refl
  both false q o = refl

  module _ (f : List Row → Outcome A) (is js : List ℤ) (ns : List Float) where
    after_lengths : then (one_length is js ns) (λ _. f (rows_of is js ns)) ≡ by_columns f is js ns
    after_lengths = both (eqb (length is) (length ns)) (eqb (length js) (length ns)) (f (rows_of is js ns))

    pub of_one_length : {u : Unit} → value u ≡ one_length is js ns → f (rows_of is js ns) ≡ by_columns f is js ns
    of_one_length e = sym (went_in (λ _. f (rows_of is js ns)) e) ∙ after_lengths

    pub of_unequal : (r : Result A Refusal) (k : Refusal) → IsErrAnd r (λ e. e ≡ k) → refused (number_of k) ≡ one_length is js ns → paper r ≡ by_columns f is js ns
    of_unequal r k h e = passed_on (λ _. f (rows_of is js ns)) r k h e ∙ after_lengths
