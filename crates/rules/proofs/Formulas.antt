-- Power and exponential inside a formula that is worked with no check (common/proofs/Formulas): that each refuses what is lost, that its raw form, checked
-- once, is the rule with any refusal turned into 5, and its step of a raw formula. Assumes nothing.
use mathlib.Core.Path.{◌≡◌, refl, sym, ap}
use mathlib.Core.Bool.{Bool, true, false}
use lib.Dec.{leb}
use lib.IntN.{ℤ, nat_abs}
use lib.Ieee.{Float, binary64, neg, div, of_int}
use Rattle.common.specs.Outcome.{Outcome, value, refused, finite, check, then, inside, or_nan}
use Rattle.common.specs.Range.{only_rule}
use Rattle.common.specs.Formula.{Raw}
use Rattle.common.proofs.Laws.{Lost, next, raw_inside}
use Rattle.rules.specs.Power.{power_rule}
use Rattle.rules.specs.RawPower.{looked_power}
use Rattle.rules.specs.Exp.{float, L, nearest_whole, two_to, exp_steps, exponential_rule}
use Rattle.rules.specs.RawExp.{raw_exp}
use Rattle.rules.specs.Formula.{power_of, exponential_of}
use Rattle.rules.proofs.Powers.{power_looked}
use Rattle.rules.proofs.Exps.{exp_check}

power_lost : (n : ℤ) (x : Float) → Lost x → power_rule x n ≡ refused 1
unfolding power_rule
power_lost n x l = rw l

exponential_lost : (x : Float) → Lost x → exponential_rule x ≡ refused 1
unfolding exponential_rule
exponential_lost x l = rw l

power_tied : (x : Float) (n : ℤ) (f small : Bool) → finite x ≡ f → leb (nat_abs n) 64 ≡ small → check (or_nan (power_rule x n)) ≡ inside (power_rule x n)
unfolding power_rule
power_tied x n false small ef es = rw ef
power_tied x n true false ef es = rw (ef, es)
power_tied x n true true ef es = raw_inside (power_rule x n) (looked_power x n) (power_looked x n ef es)

exponential_tied : (x : Float) (o : Outcome Unit) → only_rule (neg (float 700)) (float 700) x ≡ o → check (or_nan (exponential_rule x)) ≡ inside (exponential_rule x)
unfolding exponential_rule
exponential_tied x (refused k) e = rw e
exponential_tied x (value tt) e =
    let k = nearest_whole (div binary64 x L) in
    rw e (raw_inside (exp_steps x) (raw_exp x (of_int binary64 k) (two_to k)) (exp_check x e))

module _ {o : Outcome Float} {r : Float} where
  -- a rule that refuses what is lost
  pub raw_rule : (f : Float → Outcome Float) → ((x : Float) → Lost x → f x ≡ refused 1) → check (or_nan (f r)) ≡ inside (f r) → Raw o r → Raw (then o (λ x. inside (f x))) (or_nan (f r))
  raw_rule f bad tied p = record {
    is = rw p.is (next r _ (check (or_nan (f r))) (λ _. sym tied) (λ l. ap (λ (u : Outcome Float). check (or_nan u)) (bad r l)));
  }

  pub raw_power_of : (n : ℤ) → Raw o r → Raw (power_of o n) (or_nan (power_rule r n))
  raw_power_of n = raw_rule (λ x. power_rule x n) (power_lost n) (power_tied r n (finite r) (leb (nat_abs n) 64) refl refl)

  pub raw_exponential_of : Raw o r → Raw (exponential_of o) (or_nan (exponential_rule r))
  raw_exponential_of = raw_rule exponential_rule exponential_lost (exponential_tied r _ refl)
