-- The measure is what is left of the bytes. What was filled so far is what the reader lost. Assumes nothing.
use Rattle.std.proofs.Common.{◌≡◌, ◌-◌, ◌≤◌, length, take}
use Rattle.std.specs.Io.KnownBytes.{Consumes}
use Rattle.stdio.proofs.read_until_full.Given as goal

abbrev pub invariant-loop-have : goal.invariant-loop-have
invariant-loop-have g l = (length l.bytes ≡ length l.initial.bytes) × (l.have ≤ length l.bytes) × Consumes (g.R.Read.remaining l.initial.input) (g.R.Read.remaining l.input) (take l.have l.bytes)

abbrev pub decreases-loop-have : goal.decreases-loop-have
decreases-loop-have g l = length l.bytes - l.have
