-- What lies in a range whose ends are above 0 is finite: where a range is tested first, a number in it need not be looked at again.
use mathlib.Core.Path.{◌≡◌, refl, sym, subst}
use mathlib.Core.Bool.{true}
use lib.Dec.{T}
use lib.Ieee.{Float, nan, inf, fin, le}
use lib.Ieee.Fits.{and_l, and_r}
use lib.Ieee.Positive.{positive, between}
use Rattle.common.specs.Outcome.{finite}
use Rattle.common.specs.Range.{within}

pub positive_kept : (x : Float) → T (positive x) → finite x ≡ true
positive_kept nan h = absurd h
positive_kept (inf s) h = absurd h
positive_kept (fin s m e) h = refl

pub finite_within : (from to x : Float) → T (positive from) → T (positive to) → within from to x ≡ true → finite x ≡ true
finite_within from to x p q e =
    let h : T (within from to x) = subst T (sym e) tt in
    positive_kept x (between from x to p q (and_l (le from x) (le x to) h) (and_r (le from x) (le x to) h))
