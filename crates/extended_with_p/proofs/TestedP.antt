-- A formula that works p: the p is range-tested before what is worked from it, and after what is worked before it.
use Rattle.common.specs.Formula.{lost_or, Raw}
use mathlib.Core.Path.{◌≡◌, refl, sym}
use mathlib.Core.Bool.{Bool, true, false, cond}
use lib.Ieee.{Float, nan, inf, fin}
use Rattle.common.specs.Outcome.{Outcome, value, refused, finite, check, then}
use Rattle.common.specs.Range.{within}
use Rattle.common.specs.Constant.{p_range_from, p_range_to}
use Rattle.record.specs.State.{pressure_of}

-- the number x that is worked from p
abbrev pub from : Float → Float → Outcome Float
from p x = then (pressure_of (check p)) (λ _. check x)

either : (b : Bool) (p : Float) (f g : Float → Outcome Float) → f p ≡ g p → then (cond b (value p) (refused 4)) f ≡ then (cond b (value p) (refused 4)) g
either true p f g h = h
either false p f g h = refl

from_p : (p x : Float) (f : Float → Outcome Float) → (finite p ≡ true → Raw (f p) x) → then (pressure_of (check p)) f ≡ from p x
from_p nan x f h = refl
from_p (inf s) x f h = refl
from_p (fin s m e) x f h = either (within p_range_from p_range_to (fin s m e)) (fin s m e) f (λ _. check x) (h refl).is

from_after : (y p x : Float) (f : Float → Float → Outcome Float) → (finite y ≡ true → finite p ≡ true → Raw (f y p) x) → then (check y) (λ y. then (pressure_of (check p)) (f y)) ≡ from (lost_or y p) x
from_after nan p x f h = refl
from_after (inf s) p x f h = refl
from_after (fin s m e) p x f h = from_p p x (f (fin s m e)) (h refl)

-- p is worked first
pub first_p : {q : Outcome Float} {p : Float} (x : Float) (f : Float → Outcome Float) → Raw q p → (finite p ≡ true → Raw (f p) x) → from p x ≡ then (pressure_of q) f
first_p {p} x f r h = rw r.is (sym (from_p p x f h))

-- y is worked before p
pub then_p : {o q : Outcome Float} {y p : Float} (x : Float) (f : Float → Float → Outcome Float) → Raw o y → Raw q p → (finite y ≡ true → finite p ≡ true → Raw (f y p) x) → from (lost_or y p) x ≡ then o (λ y. then (pressure_of q) (f y))
then_p {y} {p} x f s r h = rw (s.is, r.is) (sym (from_after y p x f h))
