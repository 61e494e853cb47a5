-- What the bands share: boundaries that may be lost are tested together, and a letter round the critical point is found or looked for inside.
-- Assumes nothing.
use Rattle.std.specs.Prelude.{Option, Some, None}
use mathlib.Core.Path.{◌≡◌, refl}
use mathlib.Core.Bool.{Bool, true, false, ◌&&◌, cond}
use lib.Ieee.{Float, nan, inf, fin, le, lt}
use Rattle.common.specs.Outcome.{Outcome, value, refused, finite, check, then}
use Rattle.subregion.specs.declared.Letter.{Letter}
use Rattle.subregion.specs.declared.Letter.TheVariants.{C, K, Q, R}
use Rattle.choosers.specs.Choosers.{around}

-- A step on a number that may be lost, where what follows it is r if the test b passes and else refused with 5: so is the whole, if b and the
-- number's own test pass.
pub gate : {A : Type 0} (x : Float) (f : Float → Outcome A) (b : Bool) (r : Outcome A) → f x ≡ cond b r (refused 5) → then (check x) f ≡ cond (finite x && b) r (refused 5)
gate nan f b r h = refl
gate (inf s) f b r h = refl
gate (fin s m e) f b r h = h

-- ---- round the critical point

-- a letter that was found, or else o
abbrev pub or_inside : Option Letter → Outcome Letter → Outcome Letter
or_inside (Some l) o = value l
or_inside None o = o

around_picks : (a b c d : Bool) (o : Outcome Letter) → cond a (value C) (cond b (value Q) (cond c (value R) (cond d (value K) o))) ≡ or_inside (cond a (Some C) (cond b (Some Q) (cond c (Some R) (cond d (Some K) None)))) o
around_picks true b c d o = refl
around_picks false true c d o = refl
around_picks false false true d o = refl
around_picks false false false true o = refl
around_picks false false false false o = refl

pub around_or : (tcd tqu trx tjk t : Float) (o : Outcome Letter) → around tcd tqu trx tjk t value o ≡ or_inside (around tcd tqu trx tjk t Some None) o
around_or tcd tqu trx tjk t o = around_picks (le t tcd) (le t tqu) (lt trx t && le t tjk) (lt tjk t) o
