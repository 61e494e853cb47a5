-- The border's number, checked once, is the border: its last step is a sum. Assumes nothing.
use mathlib.Core.Path.{◌≡◌, refl, sym, ap, ◌∙◌}
use lib.Ieee.{Float, binary64, add}
use Rattle.common.specs.Outcome.{Outcome, value, refused, check, inside, or_nan}
use Rattle.common.specs.Formula.{worked}
use Rattle.common.proofs.Laws.{inside_check, raw_inside}
use Rattle.common.proofs.Formulas.{five, five_add, five_sub, five_mul, five_div, five_inside}
use Rattle.inverses.specs.Root.{root_rule}
use Rattle.border.specs.Border.{n1, n2, n3, n4, n5, B23_T2p, B23_p2T}

settled_from : (f : Float → Float → Float) (x : Float) (q : Outcome Float) → inside q ≡ q → check (or_nan (worked f (value x) q)) ≡ worked f (value x) q
settled_from f x (value y) p = raw_inside (check (f x y)) (f x y) refl ∙ inside_check (f x y)
settled_from f x (refused k) p = p

pub T2p_settled : (t : Float) → check (or_nan (B23_T2p t)) ≡ B23_T2p t
unfolding B23_T2p
T2p_settled t = settled_from (add binary64) (or_nan n1) _ (five_mul (five_add (five (or_nan n2)) (five_mul (five (or_nan n3)) (five t))) (five t)).is

pub p2T_settled : (p : Float) → check (or_nan (B23_p2T p)) ≡ B23_p2T p
unfolding B23_p2T
p2T_settled p = settled_from (add binary64) (or_nan n4) _ (five_inside root_rule (five_div (five_sub (five p) (five (or_nan n5))) (five (or_nan n3)))).is

-- what the settled border answers is the border's step
pub answered : {o q : Outcome Float} {r : Float} → check (or_nan o) ≡ o → r ≡ or_nan o → q ≡ check r → o ≡ q
answered s e h = sym s ∙ ap check (sym e) ∙ sym h
