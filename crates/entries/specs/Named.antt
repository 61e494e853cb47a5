-- To believe: the reply of a row of the column run, of cp and w together, of what a search found.
use Rattle.std.specs.Prelude.{◌∷◌, replicate}
use Rattle.common.specs.Outcome.{Outcome, value, refused, number_in, value_in, zero_f}
use Rattle.properties.specs.Together.{CpAndW}
use Rattle.record.specs.Record.{fields_of}
use Rattle.column_row.specs.declared.Line.{Line}
use Rattle.secant.specs.declared.Proposal.{Proposal}
use Rattle.search.specs.Calls.{SearchedReport as Told}
use Rattle.reply.specs.declared.Reply.{Reply}
use Rattle.reply.specs.Shape.{refused_by}

-- a row of the column run: its letter, and the density in the first place
abbrev pub row_reply : Line → Reply
row_reply l = record { refusal = l.refusal; letter = l.letter; beside = 0; numbers = l.density.0 ∷ replicate 9 zero_f }

-- cp and w together: cp in the first place and w in the second, and w's refusal beside cp's
abbrev pub cp_w_reply : CpAndW → Reply
cp_w_reply a =
    record { refusal = number_in a.cp; letter = 0; beside = number_in a.w; numbers = value_in a.cp ∷ value_in a.w ∷ replicate 8 zero_f }

-- a T or d that a search found, in the first place, and the trials beside
abbrev pub found_reply : Outcome Proposal → Reply
found_reply (value q) = record { refusal = 0; letter = 0; beside = q.trials; numbers = q.place ∷ replicate 9 zero_f }
found_reply (refused k) = refused_by k

-- a record whose state a search found, and the trials beside
abbrev pub searched_reply : Told → Reply
searched_reply a = record { refusal = number_in a.verdict; letter = 0; beside = a.trials; numbers = fields_of a.state }
