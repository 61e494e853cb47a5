-- `rules::exponential` meets its contract: the range, the nearest whole number of x/L, and then the raw steps checked once. Assumes nothing.
use mathlib.Core.Path.{sym, ap, ◌∙◌}
use lib.IntN.{ℤ}
use lib.Ieee.{Float, binary64, div, neg, of_int, round, of_bits}
use Rattle.common.specs.Outcome.{check}
use Rattle.rules.specs.Exp.{L, nearest_whole, two_to, exponential_rule}
use Rattle.rules.specs.RawExp.{raw_exp}
use Rattle.rules.proofs.Exps.{quotient_small, crosses, exp_check}
use Rattle.common.proofs.Calls.{went_in, passed_on}
use Rattle.rules.proofs.exp.exponential.Goals as goal

pub nearest_whole-k-requires : goal.nearest_whole-k-requires
unfolding L round of_bits neg of_int
nearest_whole-k-requires c = quotient_small c.args.x (sym c.in_ok-check_only.ensures)

pub returns : goal.returns
unfolding exponential_rule of_int round neg of_bits L
returns c =
    let x = c.args.x in
    let k = nearest_whole (div binary64 x L) in
    let k_is = crosses c.nearest_whole-k.result c.nearest_whole-k.ensures.small ∙ c.nearest_whole-k.ensures.is in
    c.settle.ensures
    ∙ ap check
    (c.exp_steps.ensures
    ∙ ap (λ (n : ℤ). raw_exp x (of_int binary64 n) c.two_to.result) k_is
    ∙ ap (λ (p : Float). raw_exp x (of_int binary64 k) p) (c.two_to.ensures ∙ ap two_to k_is))
    ∙ sym (exp_check x (sym c.in_ok-check_only.ensures))
    ∙ sym (went_in _ c.in_ok-check_only.ensures)

pub returns-in_err-check_only : goal.returns-in_err-check_only
unfolding exponential_rule of_int round neg of_bits
returns-in_err-check_only c = passed_on _ _ _ c.from_residual.ensures.1 c.in_err-check_only.ensures
