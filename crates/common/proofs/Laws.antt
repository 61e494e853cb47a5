-- A number that is not finite stays so through sums and products, so a rule that refuses at the first such step is often the rule with no
-- check, checked once at the end. `next` and `step` are one checked step of such a proof. Assumes nothing.
use mathlib.Core.Path.{◌≡◌, refl, sym, subst}
use mathlib.Core.Bool.{Bool, true, false, cond, beq}
use lib.Dec.{T, eqb}
use lib.Ieee.{Float, nan, inf, fin, binary64, add, sub, neg, mul, div, unlike}
use Rattle.common.specs.Outcome.{Outcome, value, refused, finite, check, then, inside, or_nan}

abbrev pub Lost : Float → Type 0
Lost x = finite x ≡ false

lost_cond : (b : Bool) (x y : Float) → Lost x → Lost y → Lost (cond b x y)
lost_cond true x y h k = h
lost_cond false x y h k = k

pub never : {A : Type 0} → ◌≡◌ {A = Bool} true false → A
never h = absurd (subst T h tt)

pub mul_left : (x y : Float) → Lost x → Lost (mul binary64 x y)
unfolding mul
mul_left nan y h = refl
mul_left (inf s) nan h = refl
mul_left (inf s) (inf t) h = refl
mul_left (inf s) (fin t n d) h = lost_cond (eqb n 0) nan (inf (unlike s t)) refl refl
mul_left (fin s m e) y h = never h

pub mul_right : (x y : Float) → Lost y → Lost (mul binary64 x y)
unfolding mul
mul_right nan y h = refl
mul_right (inf s) nan h = refl
mul_right (inf s) (inf t) h = refl
mul_right (inf s) (fin t n d) h = never h
mul_right (fin s m e) nan h = refl
mul_right (fin s m e) (inf t) h = lost_cond (eqb m 0) nan (inf (unlike s t)) refl refl
mul_right (fin s m e) (fin t n d) h = never h

pub add_left : (x y : Float) → Lost x → Lost (add binary64 x y)
unfolding add
add_left nan y h = refl
add_left (inf s) nan h = refl
add_left (inf s) (inf t) h = lost_cond (beq s t) (inf s) nan refl refl
add_left (inf s) (fin t n d) h = refl
add_left (fin s m e) y h = never h

pub add_right : (x y : Float) → Lost y → Lost (add binary64 x y)
unfolding add
add_right nan y h = refl
add_right (inf s) nan h = refl
add_right (inf s) (inf t) h = lost_cond (beq s t) (inf s) nan refl refl
add_right (inf s) (fin t n d) h = never h
add_right (fin s m e) nan h = refl
add_right (fin s m e) (inf t) h = refl
add_right (fin s m e) (fin t n d) h = never h

pub neg_lost : (x : Float) → Lost x → Lost (neg x)
unfolding neg
neg_lost nan h = refl
neg_lost (inf s) h = refl
neg_lost (fin s m e) h = never h

pub sub_left : (x y : Float) → Lost x → Lost (sub binary64 x y)
unfolding sub
sub_left x y h = add_left x (neg y) h

pub sub_right : (x y : Float) → Lost y → Lost (sub binary64 x y)
unfolding sub
sub_right x y h = add_right x (neg y) (neg_lost y h)

-- a lost dividend; a lost divisor can come out finite
pub div_left : (x y : Float) → Lost x → Lost (div binary64 x y)
unfolding div
div_left nan y h = refl
div_left (inf s) nan h = refl
div_left (inf s) (inf t) h = refl
div_left (inf s) (fin t n d) h = refl
div_left (fin s m e) y h = never h

-- ---- `check`

pub check_lost : (x : Float) → Lost x → check x ≡ refused 5
check_lost nan h = refl
check_lost (inf s) h = refl
check_lost (fin s m e) h = never h

pub check_kept : (x : Float) → finite x ≡ true → check x ≡ value x
check_kept nan h = never (sym h)
check_kept (inf s) h = never (sym h)
check_kept (fin s m e) h = refl

pub inside_check : (x : Float) → inside (check x) ≡ check x
inside_check nan = refl
inside_check (inf s) = refl
inside_check (fin s m e) = refl

-- one step: what follows a finite x is o, and o is refusal 5 where x is lost
pub next : {A : Type 0} (x : Float) (f : Float → Outcome A) (o : Outcome A) → (finite x ≡ true → f x ≡ o) → (Lost x → o ≡ refused 5) → then (check x) f ≡ o
next nan f o ok bad = sym (bad refl)
next (inf s) f o ok bad = sym (bad refl)
next (fin s m e) f o ok bad = ok refl

-- the same at the check of g x, where g loses what is lost
pub step : (x : Float) (f : Float → Outcome Float) (g : Float → Float) → (finite x ≡ true → f x ≡ check (g x)) → (Lost x → Lost (g x)) → then (check x) f ≡ check (g x)
step x f g ok bad = next x f (check (g x)) ok (λ l. check_lost (g x) (bad l))

-- ---- the raw form of a rule: its number, or a NaN where it is refused

-- so a layer above may go on with the raw form and check once, where the rule is in the end a check
pub raw_inside : (o : Outcome Float) (x : Float) → o ≡ check x → check (or_nan o) ≡ inside o
raw_inside o x e = rw e (checked x)
  where
    checked : (x : Float) → check (or_nan (check x)) ≡ inside (check x)
    checked nan = refl
    checked (inf s) = refl
    checked (fin s m e) = refl
