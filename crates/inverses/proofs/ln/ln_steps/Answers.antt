-- `inverses::ln_steps` meets its contract: the literals are 1/27, 1/25, .. 1 and L, and the steps are the raw steps. Assumes nothing.
use Prim.Native.Nat.{ℕ, ◌+◌, ◌≤◌, ◌<◌}
use mathlib.Core.Path.{◌≡◌, refl, ap, subst}
use mathlib.Core.List.{List, map, foldl}
use Rattle.std.proofs.Common.{add-one, drop-cons}
use Rattle.std.proofs.lemmas.List.{drop_all}
use lib.ListN.{length, drop, get_or}
use lib.Ieee.{Float, nan, binary64, add, sub, mul, div, of_int, round, of_bits}
use Rattle.rules.specs.Exp.{float, L}
use Rattle.inverses.specs.Log.{odds_from25}
use Rattle.inverses.specs.RawLog.{raw_ln, raw_series}
use Rattle.inverses.proofs.ln.ln_steps.Goals as goal

-- what is left to fold, after one item more, and after the last
module _ {A B : Type 0} (f : A → B → A) where
  step : (xs : List B) (k : ℕ) (d : B) (a r : A) → k < length xs → foldl f a (drop k xs) ≡ r → foldl f (f a (get_or xs k d)) (drop (k + 1) xs) ≡ r
  step xs k d a r h e = simp add-one (subst (λ (l : List B). foldl f a l ≡ r) (drop-cons xs k d h) e)

  last : (xs : List B) (k : ℕ) (a r : A) → length xs ≤ k → foldl f a (drop k xs) ≡ r → a ≡ r
  last xs k a r h e = subst (λ (l : List B). foldl f a l ≡ r) (drop_all k xs h) e

-- 1/25, 1/23, .. 1
abbrev inverses : List Float
inverses = map (λ k. div binary64 (float 1) (float k)) odds_from25

abbrev turn : Float → Float → Float → Float
turn y q c = add binary64 (mul binary64 q y) c

abbrev z_of : Float → Float
z_of m = div binary64 (sub binary64 m (float 1)) (add binary64 m (float 1))

abbrev y_of : Float → Float
y_of m = mul binary64 (z_of m) (z_of m)

pub loop-c-init : goal.loop-c-init
unfolding div of_int round of_bits
loop-c-init c = refl

pub loop-c-preserved : goal.loop-c-preserved
unfolding div of_int round of_bits
loop-c-preserved c = step (turn (y_of c.args.m)) inverses c.loop-c.c-index nan c.loop-c.q (raw_series (y_of c.args.m)) c.loop-c-test.true c.loop-c.invariant

pub returns : goal.returns
unfolding raw_ln L div of_int round of_bits
returns c =
    ap (λ (q : Float). add binary64 (mul binary64 c.args.e L) (mul binary64 (mul binary64 (float 2) (z_of c.args.m)) q))
    (last (turn (y_of c.args.m)) inverses c.loop-c.c-index c.loop-c.q (raw_series (y_of c.args.m)) c.loop-c-test.false c.loop-c.invariant)
