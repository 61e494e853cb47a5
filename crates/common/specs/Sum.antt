-- To believe: `total`, a sum over the rows of a table, in table order, whatever a row and its term are. Helps proofs only: `raw_total` and `every`.
-- Assumes nothing: these are definitions.
use Rattle.std.specs.Prelude.{Bool, true, ◌&&◌, List, [], ◌∷◌, Float}
use Rattle.std.specs.Float.{binary64}
use Rattle.std.specs.Float.Ieee.{add}
use Rattle.common.specs.Outcome.{Outcome, value, check, then}

module _ {R : Type 0} where
  -- the terms, added to s one after the other; a term that is refused or a sum that is not finite refuses the whole
  unfoldable pub total : (R → Outcome Float) → Float → List R → Outcome Float
  total t s [] = value s
  total t s (r ∷ rs) = then (t r) (λ x. then (check (add binary64 s x)) (λ s'. total t s' rs))

  -- with no check
  unfoldable pub raw_total : (R → Float) → Float → List R → Float
  raw_total u s [] = s
  raw_total u s (r ∷ rs) = raw_total u (add binary64 s (u r)) rs

  -- a test passes at each row
  unfoldable pub every : (R → Bool) → List R → Bool
  every f [] = true
  every f (r ∷ rs) = f r && every f rs
