-- `rules::nearest_whole` meets its contract: the size, rounded, is a whole number, and q's sign is put before it. Assumes nothing.
use mathlib.Core.Path.{◌≡◌, sym, ap, ◌∙◌}
use mathlib.Core.Bool.{false}
use lib.Dec.{T}
use lib.IntN.{pos}
use lib.Ieee.{Float, binary64, in_signed, to_signed, of_bits}
use Rattle.std.specs.Float.{float_with_sign, round_ties_even}
use Rattle.rules.specs.Exp.{whole_size, with_sign}
use Rattle.rules.specs.RawExp.{at_most1010}
use Rattle.rules.proofs.Exps.{rounded, whole_le, cast, back, less_fits, less_back, less_small, small_is_finite, signed_whole}
use Rattle.rules.proofs.exp.nearest_whole.Goals as goal

taken : (q a r : Float) → T (at_most1010 q) → a ≡ float_with_sign false q → r ≡ round_ties_even binary64 a → T (in_signed binary64 63 r) × (to_signed 63 r ≡ pos (whole_size q))
taken q a r t e h = cast (whole_size q) r (whole_le q t) (h ∙ rounded q a t e)

pub float_to_int-n : goal.float_to_int-n
float_to_int-n c = (taken c.args.q _ _ c.requires c.abs.ensures.value c.round_ties_even-n.ensures).0

pub overflow_sub-result : goal.overflow_sub-result
overflow_sub-result c =
    let q = c.args.q in
    less_fits (whole_size q) _ (whole_le q c.requires) (taken q _ _ c.requires c.abs.ensures.value c.round_ties_even-n.ensures).1

pub returns-then-q-clause-is : goal.returns-then-q-clause-is
unfolding of_bits
returns-then-q-clause-is c =
    let q = c.args.q in
    less_back (whole_size q) _ (whole_le q c.requires) (taken q _ _ c.requires c.abs.ensures.value c.round_ties_even-n.ensures).1
    ∙ ap (λ b. with_sign b (whole_size q)) (sym c.if-q.true)
    ∙ signed_whole q (small_is_finite q c.requires)

pub returns-then-q-clause-small : goal.returns-then-q-clause-small
returns-then-q-clause-small c =
    let q = c.args.q in
    less_small (whole_size q) _ (whole_le q c.requires) (taken q _ _ c.requires c.abs.ensures.value c.round_ties_even-n.ensures).1

pub returns-else-q-clause-is : goal.returns-else-q-clause-is
unfolding of_bits
returns-else-q-clause-is c =
    let q = c.args.q in
    back (whole_size q) _ (whole_le q c.requires) (taken q _ _ c.requires c.abs.ensures.value c.round_ties_even-n.ensures).1
    ∙ ap (λ b. with_sign b (whole_size q)) (sym c.if-q.false)
    ∙ signed_whole q (small_is_finite q c.requires)

pub returns-else-q-clause-small : goal.returns-else-q-clause-small
returns-else-q-clause-small c =
    let q = c.args.q in
    rw (back (whole_size q) _ (whole_le q c.requires) (taken q _ _ c.requires c.abs.ensures.value c.round_ties_even-n.ensures).1) (whole_le q c.requires)
