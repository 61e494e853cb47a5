-- A reply's bytes: the loop keeps the numbers passed, after what the bytes were when it began. Assumes nothing.
use Rattle.std.proofs.Common.{◌≡◌}
use Rattle.std.proofs.lemmas.List.Edits.{sets}
use Rattle.buffer.specs.Bytes.{joined}
use Rattle.reply.specs.Bytes.{number_bytes}
use Rattle.reply.proofs.bytes.ArrayU888FromReply.from.Given as goal

abbrev pub invariant-loop-k : goal.invariant-loop-k
invariant-loop-k l = l.bytes ≡ sets l.initial.bytes 8 (joined (number_bytes l.fn.r.numbers) l.k)
