-- To believe: the paper's number and values of each answer that is a Result. Its reader (`paper`, or that of its error) takes it to an outcome; `told` with
-- the name of what was found gives the number and the values of that: 0 and the values that were found, or the refusal's number with +0.0 for each number,
-- 0 for a count or bits, and nothing for a letter, an origin, a side or a pair. Assumes nothing: these are definitions.
use Rattle.std.specs.Prelude.{ℕ, Float}
use Rattle.std.proofs.Math.Option.{Option, none, some}
use Rattle.common.specs.Outcome.{Outcome, value, then, number_in, number_and_value, zero_f}
use Rattle.record.specs.declared.Origin.{Origin}
use Rattle.volume.specs.declared.State.{State}
use Rattle.backward.specs.declared.Tvd.{Tvd}
use Rattle.joint.specs.declared.Pair as sums
use Rattle.joint.specs.declared.Four.{Four}
use Rattle.secant.specs.declared.Proposal.{Proposal}
use Rattle.exchange_record.specs.declared.Pair.{Pair}
use Rattle.exchange_record.specs.declared.Asked.{Asked}

-- the number, and f of the value, with what stands for none
abbrev pub told_by : {A B : Type 0} → (A → B) → B → Outcome A → ℕ × B
told_by f absent o = number_and_value absent (then o (λ x. value (f x)))

-- a number
abbrev pub told_float : Outcome Float → ℕ × Float
told_float = number_and_value zero_f

-- nothing but whether it is accepted: the number alone
abbrev pub told_verdict : Outcome Unit → ℕ × Unit {0}
told_verdict = number_and_value tt

-- a letter, an origin, a side, a pair: one of a closed kind, or nothing
abbrev pub told_kind : {A : Type 0} → Outcome A → ℕ × Option A
told_kind = told_by some none

-- the origin, v and d
abbrev pub told_state : Outcome State → ℕ × (Option Origin × Float × Float)
told_state = told_by (λ s. (some s.origin, s.volume.0, s.density.0)) (none, zero_f, zero_f)

abbrev pub told_tvd : Outcome Tvd → ℕ × Tvd
told_tvd = number_and_value (record { t = record { 0 = zero_f }; v = record { 0 = zero_f }; d = record { 0 = zero_f } })

-- two and four sums of one item
abbrev pub told_two_sums : Outcome sums.Pair → ℕ × sums.Pair
told_two_sums = number_and_value (record { first = zero_f; second = zero_f })

abbrev pub told_four_sums : Outcome Four → ℕ × Four
told_four_sums = number_and_value (record { i = zero_f; ii = zero_f; ij = zero_f; jj = zero_f })

-- the place, and how many trials
abbrev pub told_proposal : Outcome Proposal → ℕ × Proposal
told_proposal = number_and_value (record { place = zero_f; trials = 0 })

-- what was read: the pair, and the bits of its two numbers
abbrev pub told_asked : Outcome Asked → ℕ × (Option Pair × ℕ × ℕ)
told_asked = told_by (λ q. (some q.pair, q.a, q.b)) (none, 0, 0)

-- the answer to an exchange record, heard as the pair and the entry's: the number of the whole call, and the pair where one was read
abbrev pub told_exchange : Outcome Pair × Outcome Unit → ℕ × Option Pair
told_exchange h = (number_in h.1, (told_kind h.0).1)
