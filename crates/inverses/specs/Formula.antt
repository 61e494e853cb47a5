-- To believe: root and logarithm inside a formula. Refused inside another call, either makes that call answer 5. Assumes nothing: these are definitions.
use Rattle.std.specs.Prelude.{Float}
use Rattle.common.specs.Outcome.{Outcome, then, inside}
use Rattle.inverses.specs.Root.{root_rule}
use Rattle.inverses.specs.Log.{logarithm_rule}

abbrev pub root_of : Outcome Float → Outcome Float
root_of o = then o (λ x. inside (root_rule x))

abbrev pub logarithm_of : Outcome Float → Outcome Float
logarithm_of o = then o (λ x. inside (logarithm_rule x))
