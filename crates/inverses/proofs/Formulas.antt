-- Root and logarithm inside a formula that is worked with no check (common/proofs/Formulas): that each refuses what is lost, that its raw form, checked once,
-- is the rule with any refusal turned into 5, and its step of a raw formula. Assumes nothing.
use mathlib.Core.Path.{◌≡◌, refl, sym}
use mathlib.Core.Bool.{true, false}
use Prim.Native.Nat.{zero, suc}
use lib.Dec.{T}
use lib.Ieee.{Float, nan, inf, fin, binary64, fits}
use Rattle.common.specs.Outcome.{Outcome, value, refused, finite, check, inside, or_nan}
use Rattle.common.specs.Formula.{Raw}
use Rattle.common.proofs.Formulas.{Five, five_inside}
use Rattle.common.proofs.Laws.{Lost, never, check_kept, raw_inside}
use Rattle.rules.proofs.Formulas.{raw_rule}
use Rattle.inverses.specs.Units.{in_units}
use Rattle.inverses.specs.Root.{root_rule, nearest_root, from_zero}
use Rattle.inverses.specs.Log.{logarithm_rule, ln_of}
use Rattle.inverses.specs.Formula.{root_of, logarithm_of}
use Rattle.inverses.proofs.Meaning.{root_held, parts_of}
use Rattle.inverses.proofs.Logs.{ln_raw}

root_lost : (x : Float) → Lost x → root_rule x ≡ refused 1
unfolding root_rule
root_lost nan l = refl
root_lost (inf s) l = refl
root_lost (fin s m e) l = never l

logarithm_lost : (x : Float) → Lost x → logarithm_rule x ≡ refused 1
unfolding logarithm_rule
logarithm_lost nan l = refl
logarithm_lost (inf s) l = refl
logarithm_lost (fin s m e) l = never l

from_zero_lem : (x : Float) → T (from_zero x) → finite x ≡ true
from_zero_lem nan h = absurd h
from_zero_lem (inf s) h = absurd h
from_zero_lem (fin s m e) h = refl

-- at an x that is an f64
root_tied : (x : Float) → T (fits binary64 x) → check (or_nan (root_rule x)) ≡ inside (root_rule x)
unfolding root_rule
root_tied nan f = refl
root_tied (inf s) f = refl
root_tied (fin s zero e) f = refl
root_tied (fin true (suc m) e) f = refl
root_tied (fin false (suc m) e) f =
    let r = nearest_root (in_units (fin false (suc m) e)) in
    check_kept r (from_zero_lem r (root_held (fin false (suc m) e) f tt).1)

logarithm_tied : (x : Float) → T (fits binary64 x) → check (or_nan (logarithm_rule x)) ≡ inside (logarithm_rule x)
unfolding logarithm_rule
logarithm_tied nan f = refl
logarithm_tied (inf s) f = refl
logarithm_tied (fin s zero e) f = refl
logarithm_tied (fin true (suc m) e) f = refl
logarithm_tied (fin false (suc m) e) f =
    let p = parts_of (fin false (suc m) e) f tt in
    let r = ln_raw _ p.0 p.1 p.2 in
    raw_inside (ln_of _) r.0 r.1

pub raw_root_from : (x : Float) → T (fits binary64 x) → Raw (root_of (value x)) (or_nan (root_rule x))
raw_root_from x f = record { is = sym (root_tied x f) }

module _ {o : Outcome Float} {r : Float} (f : T (fits binary64 r)) where
  pub raw_root_of : Raw o r → Raw (root_of o) (or_nan (root_rule r))
  raw_root_of = raw_rule root_rule root_lost (root_tied r f)

  pub raw_logarithm_of : Raw o r → Raw (logarithm_of o) (or_nan (logarithm_rule r))
  raw_logarithm_of = raw_rule logarithm_rule logarithm_lost (logarithm_tied r f)

-- a formula with a root in it is refused with 5 or not at all
pub five_root_of : {o : Outcome Float} → Five o → Five (root_of o)
five_root_of = five_inside root_rule
