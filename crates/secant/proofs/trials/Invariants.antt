-- `secant::trials` in its loop: the rule is what the trials that are left come to, after those that were counted. Assumes nothing.
use Rattle.std.proofs.Common.{◌-◌, ◌≡◌}
use Rattle.secant.specs.Secant.{max_iter, proposal_from}
use Rattle.secant.proofs.Steps.{onward}
use Rattle.secant.proofs.trials.Given as goal

abbrev pub invariant-loop-count : goal.invariant-loop-count
invariant-loop-count l = proposal_from l.curve l.initial.at ≡ onward l.curve (max_iter - l.count) l.count l.at
