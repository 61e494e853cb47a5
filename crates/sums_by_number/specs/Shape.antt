-- To believe: the shapes of what a sum of two or four numbers comes to.
use Rattle.std.specs.Prelude.{◌∷◌, replicate}
use Rattle.common.specs.Outcome.{Outcome, value, refused, zero_f}
use Rattle.joint.specs.declared.Pair.{Pair}
use Rattle.joint.specs.declared.Four.{Four}
use Rattle.reply.specs.declared.Reply.{Reply}
use Rattle.reply.specs.Shape.{refused_by}

-- its numbers, and +0.0 in the places that are left
abbrev pub two_reply : Outcome Pair → Reply
two_reply (value p) = record { refusal = 0; letter = 0; beside = 0; numbers = p.first ∷ p.second ∷ replicate 8 zero_f }
two_reply (refused k) = refused_by k

abbrev pub four_reply : Outcome Four → Reply
four_reply (value p) = record { refusal = 0; letter = 0; beside = 0; numbers = p.i ∷ p.ii ∷ p.ij ∷ p.jj ∷ replicate 6 zero_f }
four_reply (refused k) = refused_by k
