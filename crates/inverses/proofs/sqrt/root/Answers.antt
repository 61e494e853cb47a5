-- `inverses::root` meets its contract: the tests choose the case. Assumes nothing.
use mathlib.Core.Path.{sym, ap, ◌∙◌}
use mathlib.Core.Logic.{⊎_elim}
use lib.Dec.{T}
use lib.Ieee.{of_bits}
use Rattle.common.specs.Outcome.{value}
use Rattle.inverses.specs.Units.{positive}
use Rattle.inverses.specs.Root.{root_rule}
use Rattle.inverses.proofs.Signs.{is_zero_lem, is_negative, is_positive, above, lost}
use Rattle.inverses.proofs.sqrt.root.Goals as goal

above_zero : (c : goal.Else-x-2) → T (positive c.args.x)
unfolding of_bits
above_zero c = is_positive c.args.x (sym c.if-not-is_finite.ensures) c.if-x.false c.if-x-2.false

pub returns-then-not-is_finite : goal.returns-then-not-is_finite
unfolding root_rule
returns-then-not-is_finite c = ⊎_elim (λ e. rw e) (λ e. rw e.1) (lost c.args.x (sym c.if-not-is_finite.ensures))

pub returns-then-x : goal.returns-then-x
unfolding root_rule of_bits
returns-then-x c = let z = is_zero_lem c.args.x (sym c.if-not-is_finite.ensures) c.if-x.true in rw z.2

pub returns-then-x-2 : goal.returns-then-x-2
unfolding root_rule of_bits
returns-then-x-2 c = let z = is_negative c.args.x (sym c.if-not-is_finite.ensures) c.if-x-2.true in rw z.2

pub positive_root-requires : goal.positive_root-requires
positive_root-requires = above_zero

pub returns : goal.returns
unfolding root_rule
returns c = let z = above c.args.x (above_zero c.before) in ap value c.positive_root.ensures ∙ rw z.2
