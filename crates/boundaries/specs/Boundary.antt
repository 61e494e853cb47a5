-- To believe: the twelve boundaries between the subregions of region 3 as S05rev prints them: equations 1 and 2 with one table, which is passed on from
-- printed_lines/specs/Boundaries, and equation 3. In order: the walk over a row, which boundary is which row, the call. Assumes nothing: these are definitions.
use Rattle.common.specs.Formula.{◌⊕◌, ◌⊖◌, ◌⊗◌}
use Rattle.std.specs.Prelude.{ℕ, zero, suc, List, [], ◌∷◌, Float}
use Rattle.std.specs.Float.{binary64}
use Rattle.std.specs.Float.Ieee.{mul}
use Rattle.common.specs.Outcome.{Outcome, value, check, then, inside, zero_f}
use Rattle.common.specs.Decimal.{decimal}
use Rattle.common.specs.Range.{p_box}
use Rattle.common.specs.Sum.{total}
use Rattle.rules.specs.Power.{power_rule}
use Rattle.inverses.specs.Log.{logarithm_rule}
pub use Rattle.printed_lines.specs.Boundaries.{Term, term, Argument, in_p, in_ln, Row, row}
unfoldable pub use Rattle.printed_lines.specs.Boundaries.{table}
use Rattle.boundaries.specs.declared.Boundary.{Boundary}
use Rattle.boundaries.specs.declared.Boundary.TheVariants.{Ab, Cd, Ef, Gh, Ij, Jk, Mn, Op, Qu, Rx, Uv, Wx}

-- n * x^I
abbrev pub term_rule : Float → Term → Outcome Float
term_rule x (term i n) = then (inside (power_rule x i)) (λ w. check (mul binary64 n w))

abbrev pub argument_rule : Argument → Float → Outcome Float
argument_rule in_p p = value p
argument_rule in_ln p = inside (logarithm_rule p)

-- the walk over a row: from +0.0 on its terms are added in their order
unfoldable pub walk_rule : Row → Float → Outcome Float
unfolding total
walk_rule (row a ts) p = then (argument_rule a p) (λ x. total (term_rule x) zero_f ts)

-- the row at place k of a list, counted from 0; beyond the last place, the last
abbrev pub at : List Row → ℕ → Row
at [] k = row in_p []
at (r ∷ []) k = r
at (r ∷ s ∷ rs) zero = r
at (r ∷ s ∷ rs) (suc k) = at (s ∷ rs) k

unfoldable pub row_at : ℕ → Row
unfolding table
row_at k = at table k

-- 3.727888004 * (p - 22.064) + 647.096
unfoldable pub straight3ef : Float → Outcome Float
straight3ef p = value (decimal 3_727888004 9) ⊗ (value p ⊖ value (decimal 22_064 3)) ⊕ value (decimal 647_096 3)

-- what a boundary is: a row of the table, by its place, or 3ef (equation 3)
pub data Form : Type 0 where
  tabled : ℕ → Form
  straight : Form

abbrev pub form_of : Boundary → Form
form_of Ab = tabled 0
form_of Cd = tabled 1
form_of Ef = straight
form_of Gh = tabled 2
form_of Ij = tabled 3
form_of Jk = tabled 4
form_of Mn = tabled 5
form_of Op = tabled 6
form_of Qu = tabled 7
form_of Rx = tabled 8
form_of Uv = tabled 9
form_of Wx = tabled 10

abbrev pub form_rule : Form → Float → Outcome Float
form_rule (tabled k) p = walk_rule (row_at k) p
form_rule straight p = straight3ef p

-- the boundary's temperature at p, inside another call
abbrev pub boundary_of : Boundary → Float → Outcome Float
boundary_of b p = form_rule (form_of b) p

-- the call: p from 16.529 to 100; what is answered has no range
unfoldable pub boundary_rule : Boundary → Float → Outcome Float
boundary_rule b p = then (p_box p) (λ _. boundary_of b p)
