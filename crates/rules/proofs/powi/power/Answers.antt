-- `rules::power` meets its contract: the tests, and then the power with no look at a usual base, and with a look at each r at any other. Assumes nothing.
use mathlib.Core.Path.{◌≡◌, sym, ◌∙◌, ap}
use mathlib.Core.Bool.{true, false}
use Prim.Native.Nat.{ℕ, ◌<◌, ◌≤◌}
use lib.Dec.{leb}
use lib.IntN.{ℤ, nat_abs}
use mir.Syntax.{w32}
use mir.Val.{SFits, to_z, of_z}
use mir.ValLaws.{to_z-of_z}
use borrow.Author.Tests.{le-leb, lt-leb}
use Rattle.common.specs.Outcome.{check}
use Rattle.rules.specs.Power.{power_rule}
use Rattle.rules.specs.RawPower.{raw_power, looked_power}
use Rattle.rules.proofs.Powers.{power_looked}
use Rattle.rules.proofs.Usual.{power_usual}
use Rattle.rules.proofs.powi.power.Goals as goal

-- the test of |n|, m
module _ (n : ℤ) (f : SFits w32 n) (m : ℕ) (e : m ≡ nat_abs (to_z w32 (of_z w32 n))) where
  few : m ≤ 64 → leb (nat_abs n) 64 ≡ true
  few l = rw (ap nat_abs (sym (to_z-of_z w32 n f)) ∙ sym e) (le-leb m 64 l)

  many : 64 < m → leb (nat_abs n) 64 ≡ false
  many l = rw (ap nat_abs (sym (to_z-of_z w32 n f)) ∙ sym e) (lt-leb m 64 l)

pub returns-then-usual : goal.returns-then-usual
returns-then-usual c =
    let a = c.args in
    c.settle.ensures
    ∙ ap check (c.bare_power.ensures ∙ ap (raw_power a.a) (to_z-of_z w32 a.n c.ranges.n))
    ∙ sym (power_usual a.a a.n (sym c.usual.ensures ∙ c.if-usual.true) (few a.n c.ranges.n _ c.unsigned_abs-taken.ensures.value c.if-taken.true))

pub returns-then-not-is_finite : goal.returns-then-not-is_finite
unfolding power_rule
returns-then-not-is_finite c = rw (sym c.is_finite.ensures ∙ c.if-not-is_finite.true)

pub returns-then-not-taken : goal.returns-then-not-taken
unfolding power_rule
returns-then-not-taken c =
    rw (sym c.is_finite.ensures ∙ c.if-not-is_finite.false, many c.args.n c.ranges.n _ c.unsigned_abs-taken.ensures.value c.if-not-taken.true)

pub returns : goal.returns
unfolding looked_power
returns c =
    let a = c.args in
    c.settle-2.ensures
    ∙ ap check (c.power_by_bits.ensures ∙ ap (looked_power a.a) (to_z-of_z w32 a.n c.ranges.n))
    ∙ sym (power_looked a.a a.n (sym c.is_finite.ensures ∙ c.if-not-is_finite.false) (few a.n c.ranges.n _ c.unsigned_abs-taken.ensures.value c.if-not-taken.false))
