-- `rules::exp_steps` meets its contract: the literals are 14, .. 1 and L, and the steps are the raw steps. Assumes nothing.
use Prim.Native.Nat.{ℕ, ◌+◌, ◌≤◌, ◌<◌}
use mathlib.Core.Path.{◌≡◌, refl, ap, subst}
use mathlib.Core.List.{List, map, foldl}
use Rattle.std.proofs.Common.{add-one, drop-cons}
use Rattle.std.proofs.lemmas.List.{drop_all}
use lib.ListN.{length, drop, get_or}
use lib.Ieee.{Float, nan, binary64, add, sub, mul, div, of_int, round, of_bits}
use Rattle.rules.specs.Exp.{float, L, from14}
use Rattle.rules.specs.RawExp.{raw_exp, raw_turns}
use Rattle.rules.proofs.exp.exp_steps.Goals as goal

-- 14, 13, .. 1
abbrev divisors : List Float
divisors = map float from14

abbrev turn : Float → Float → Float → Float
turn r s d = add binary64 (float 1) (div binary64 (mul binary64 r s) d)

abbrev r_of : Float → Float → Float
r_of x k = sub binary64 x (mul binary64 k L)

-- what is left to fold, after one item more, and after the last
step : (r : Float) (k : ℕ) (s t : Float) → k < length divisors → foldl (turn r) s (drop k divisors) ≡ t → foldl (turn r) (turn r s (get_or divisors k nan)) (drop (k + 1) divisors) ≡ t
step r k s t h e = simp add-one (subst (λ (l : List Float). foldl (turn r) s l ≡ t) (drop-cons divisors k nan h) e)

last : (r : Float) (k : ℕ) (s t : Float) → length divisors ≤ k → foldl (turn r) s (drop k divisors) ≡ t → s ≡ t
last r k s t h e = subst (λ (l : List Float). foldl (turn r) s l ≡ t) (drop_all k divisors h) e

pub loop-d-init : goal.loop-d-init
unfolding L of_int round of_bits
loop-d-init c = refl

pub loop-d-preserved : goal.loop-d-preserved
unfolding L of_int round of_bits
loop-d-preserved c = step (r_of c.args.x c.args.k) c.loop-d.d-index c.loop-d.s (raw_turns (r_of c.args.x c.args.k)) c.loop-d-test.true c.loop-d.invariant

pub returns : goal.returns
unfolding raw_exp L of_int round of_bits
returns c =
    let r = r_of c.args.x c.args.k in
    ap (λ (s : Float). mul binary64 s c.args.p) (last r c.loop-d.d-index c.loop-d.s (raw_turns r) c.loop-d-test.false c.loop-d.invariant)
