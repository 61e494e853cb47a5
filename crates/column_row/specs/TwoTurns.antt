-- Helps proofs only: a row worked in two turns, first where its volume comes from, then the volume. Assumes nothing: these are definitions.
use Rattle.std.specs.Prelude.{ℕ, cond, eqb, Float}
use Rattle.common.specs.Outcome.{Outcome, value, refused, number_in}
use Rattle.subregion.specs.Letter.{ascii_of, of_byte}
use Rattle.record.specs.declared.Origin.{Origin}
use Rattle.record.specs.declared.Origin.TheVariants.{Subregion, Critical}
use Rattle.origin.specs.Origin.{origin_rule}
use Rattle.volume.specs.State.{state_by}
use Rattle.column_row.specs.declared.Line.{Line}
use Rattle.column_row.specs.Row.{line_in}

-- what its letter byte holds in between: the letter, 1 at the critical point, 0 where the row is refused
abbrev pub mark_by : Origin → ℕ
mark_by (Subregion l) = ascii_of l
mark_by Critical = 1

abbrev pub mark_of : Outcome Origin → ℕ
mark_of (value o) = mark_by o
mark_of (refused k) = 0

abbrev pub of_mark : ℕ → Origin
of_mark m = cond (eqb m 1) Critical (Subregion (of_byte m))

abbrev pub mark_in : Float → Float → ℕ
mark_in p t = mark_of (origin_rule p t)

abbrev pub stop_in : Float → Float → ℕ
stop_in p t = number_in (origin_rule p t)

-- the row from its mark and its refusal so far
unfoldable pub line_by : ℕ → ℕ → Float → Float → Line
line_by m k p t = cond (eqb m 0) (line_in (refused k)) (line_in (state_by (of_mark m) p t))
