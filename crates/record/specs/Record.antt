-- To believe: the property record of docs/SCOPE.md: T, d, v, p, h, s, u, cv, cp, w, and where a volume comes from. Assumes nothing: these are definitions.
use Rattle.std.specs.Prelude.{ℕ, List, [], ◌∷◌, Float}
use Rattle.common.specs.Outcome.{Outcome, value, refused, zero_f}
use Rattle.common.specs.Answer.{paper}
use Rattle.subregion.specs.Letter.{ascii_of}
use Rattle.record.specs.declared.Record.{Record}
use Rattle.record.specs.declared.RecordAnswer.{RecordAnswer}
use Rattle.record.specs.declared.Origin.{Origin}
use Rattle.record.specs.declared.Origin.TheVariants.{Subregion, Critical}

-- +0.0 in every field
abbrev pub zero_record : Record
zero_record =
    record { T = zero_f; d = zero_f; v = zero_f; p = zero_f; h = zero_f; s = zero_f; u = zero_f; cv = zero_f; cp = zero_f; w = zero_f }

-- the paper's number and values of an outcome: every field is +0.0 for a refused call
abbrev pub report : Outcome Record → Outcome Unit × Record
report (value r) = (value tt, r)
report (refused k) = (refused k, zero_record)

-- and of an answer
abbrev pub paper_record : RecordAnswer → Outcome Unit × Record
paper_record a = (paper a.verdict, a.record)

-- the ten numbers, in order: what an exported call and a reply hold
abbrev pub fields_of : Record → List Float
fields_of r = r.T ∷ r.d ∷ r.v ∷ r.p ∷ r.h ∷ r.s ∷ r.u ∷ r.cv ∷ r.cp ∷ r.w ∷ []

-- the byte of an origin in a column: a letter's, or 0 for the critical-point answer
abbrev pub byte_of : Origin → ℕ
byte_of (Subregion l) = ascii_of l
byte_of Critical = 0
