-- To believe: power and exponential inside a formula. Refused inside another call, either makes that call answer 5. Assumes nothing: these are definitions.
use Rattle.std.specs.Prelude.{ℤ, Float}
use Rattle.common.specs.Outcome.{Outcome, then, inside}
use Rattle.rules.specs.Power.{power_rule}
use Rattle.rules.specs.Exp.{exponential_rule}

abbrev pub power_of : Outcome Float → ℤ → Outcome Float
power_of o n = then o (λ x. inside (power_rule x n))

abbrev pub exponential_of : Outcome Float → Outcome Float
exponential_of o = then o (λ x. inside (exponential_rule x))
