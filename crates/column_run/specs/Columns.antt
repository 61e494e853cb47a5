-- To believe: the column run (docs/SCOPE.md): what each byte of the three columns holds. Assumes nothing: these are definitions.
use Rattle.std.specs.Prelude.{ℕ, Bool, cond, ◌&&◌, List, [], ◌∷◌, eqb, length, Float}
use Rattle.common.specs.Outcome.{Outcome, value, refused}
use Rattle.column_row.specs.Row.{row_rule}

abbrev pub letter_in : Float → Float → ℕ
letter_in p t = (row_rule p t).letter

abbrev pub density_in : Float → Float → Float
density_in p t = (row_rule p t).density.0

abbrev pub refusal_in : Float → Float → ℕ
refusal_in p t = (row_rule p t).refusal

-- row i from pair i alone
unfoldable pub rows_by : {A : Type 0} → (Float → Float → A) → List Float → List Float → List A
rows_by f [] ts = []
rows_by f (p ∷ ps) [] = []
rows_by f (p ∷ ps) (t ∷ ts) = f p t ∷ rows_by f ps ts

-- the caller's three columns
pub record Lent : Type 0 where
  pub letters : List ℕ
  pub densities : List Float
  pub refusals : List ℕ

abbrev pub lent : List ℕ → List Float → List ℕ → Lent
lent ls ds ks = record { letters = ls; densities = ds; refusals = ks }

abbrev pub filled : List Float → List Float → Lent
filled ps ts = lent (rows_by letter_in ps ts) (rows_by density_in ps ts) (rows_by refusal_in ps ts)

-- four counts are n
abbrev pub same : ℕ → ℕ → ℕ → ℕ → ℕ → Bool
same n a b c d = eqb a n && (eqb b n && (eqb c n && eqb d n))

-- the answer and the columns after the call: 7, and each column as found, where the five are not of one length
unfoldable pub columns_rule : List Float → List Float → Lent → Outcome Unit × Lent
columns_rule ps ts found =
    cond (same (length ps) (length ts) (length found.letters) (length found.densities) (length found.refusals))
    (value tt, filled ps ts)
    (refused 7, found)
