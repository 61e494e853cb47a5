-- To believe: one row of the column run (docs/SCOPE.md): what its three columns hold. Assumes nothing: these are definitions.
use Rattle.std.specs.Prelude.{Float}
use Rattle.common.specs.Outcome.{Outcome, value, refused, zero_f}
use Rattle.record.specs.Record.{byte_of}
use Rattle.volume.specs.declared.State.{State}
use Rattle.volume_at.specs.Volumes.{found_rule}
use Rattle.column_row.specs.declared.Line.{Line}

-- a row of what (p,T) finds: the origin's byte and d; a refused row holds letter 0, +0.0 and its number
abbrev pub line_in : Outcome State → Line
line_in (value s) = record { letter = byte_of s.origin; density = s.density; refusal = 0 }
line_in (refused k) = record { letter = 0; density = record { 0 = zero_f }; refusal = k }

unfoldable pub row_rule : Float → Float → Line
row_rule p t = line_in (found_rule p t)
