-- A formula worked with no check and checked once at the end is the formula with a check at each step: operation by operation, `Raw o r` says
-- that o is the check of r, and a proof has the shape of its formula. A divisor that can be lost goes by `raw_over`. Here, in order: numbers,
-- the four operations with their signs, an operand that no step has checked, a step for each member of a list, a number by another name, and that a formula is
-- the check of its number. Assumes nothing.
use mathlib.Core.Path.{◌≡◌, refl, sym, ap, ◌∙◌}
use mathlib.Core.Bool.{true}
use mathlib.Core.List.{List, [], ◌∷◌, foldl}
use lib.Ieee.{Float, nan, inf, fin, binary64, neg, add, sub, mul, div}
use Rattle.common.specs.Outcome.{Outcome, value, refused, finite, check, then, inside, or_nan}
use Rattle.common.specs.Formula.{worked, ◌⊕◌, ◌⊖◌, ◌⊗◌, ◌⊘◌, minus_of, lost_or, raw_over, Raw}
use Rattle.common.proofs.Laws.{Lost, never, next, inside_check, raw_inside, check_lost, check_kept, mul_left, mul_right, add_left, add_right, sub_left, sub_right, div_left}

pub lost_or_finite : (x y : Float) → finite x ≡ true → lost_or x y ≡ y
lost_or_finite nan y h = never (sym h)
lost_or_finite (inf s) y h = never (sym h)
lost_or_finite (fin s m e) y h = refl

pub lost_or_lost : (x y : Float) → Lost x → lost_or x y ≡ x
lost_or_lost nan y h = refl
lost_or_lost (inf s) y h = refl
lost_or_lost (fin s m e) y h = never h

-- an argument
pub raw_check : (x : Float) → Raw (check x) x
raw_check x = record { is = refl }

pub raw_value : (x : Float) → finite x ≡ true → Raw (value x) x
raw_value x f = record { is = sym (check_kept x f) }

over_lost : (x y : Float) → Lost x → Lost (raw_over x y)
over_lost x nan l = refl
over_lost x (inf b) l = refl
over_lost x (fin b m e) l = div_left x (fin b m e) l

neg_check : (x : Float) → minus_of (check x) ≡ check (neg x)
unfolding neg
neg_check nan = refl
neg_check (inf s) = refl
neg_check (fin s m e) = refl

module _ {o q : Outcome Float} {r s : Float} where
  -- an operation that loses what is lost
  raw_worked : (f : Float → Float → Float) → ((x y : Float) → Lost x → Lost (f x y)) → ((x y : Float) → Lost y → Lost (f x y)) → Raw o r → Raw q s → Raw (worked f o q) (f r s)
  raw_worked f left right p t = record {
    is = rw (p.is, t.is)
        (next r _ (check (f r s))
        (λ _. next s _ (check (f r s)) (λ _. refl) (λ l. check_lost (f r s) (right r s l)))
        (λ l. check_lost (f r s) (left r s l)));
  }

  pub raw_add : Raw o r → Raw q s → Raw (o ⊕ q) (add binary64 r s)
  raw_add = raw_worked (add binary64) add_left add_right

  pub raw_sub : Raw o r → Raw q s → Raw (o ⊖ q) (sub binary64 r s)
  raw_sub = raw_worked (sub binary64) sub_left sub_right

  pub raw_mul : Raw o r → Raw q s → Raw (o ⊗ q) (mul binary64 r s)
  raw_mul = raw_worked (mul binary64) mul_left mul_right

  -- a divisor that can be lost
  pub raw_over_lem : Raw o r → Raw q s → Raw (o ⊘ q) (raw_over r s)
  raw_over_lem p t = record {
    is = rw (p.is, t.is)
        (next r _ (check (raw_over r s))
        (λ _. next s _ (check (raw_over r s)) (λ f. ap check (sym (lost_or_finite s (div binary64 r s) f))) (λ l. ap check (lost_or_lost s (div binary64 r s) l) ∙ check_lost s l))
        (λ l. check_lost (raw_over r s) (over_lost r s l)));
  }

  -- a divisor that is known to be finite
  pub raw_div : finite s ≡ true → Raw o r → Raw q s → Raw (o ⊘ q) (div binary64 r s)
  raw_div f p t = record { is = (raw_over_lem p t).is ∙ ap check (lost_or_finite s (div binary64 r s) f) }

-- ---- the same with the operators' own signs

module _ {o q : Outcome Float} {x y : Float} where
  infixl 60 ◌+ʳ◌
  infixl 60 ◌-ʳ◌
  infixl 70 ◌*ʳ◌
  infixl 70 ◌/ʳ◌
  pub ◌+ʳ◌ : Raw o x → Raw q y → Raw (o ⊕ q) (add binary64 x y)
  ◌+ʳ◌ = raw_add

  pub ◌-ʳ◌ : Raw o x → Raw q y → Raw (o ⊖ q) (sub binary64 x y)
  ◌-ʳ◌ = raw_sub

  pub ◌*ʳ◌ : Raw o x → Raw q y → Raw (o ⊗ q) (mul binary64 x y)
  ◌*ʳ◌ = raw_mul

  pub ◌/ʳ◌ : Raw o x → Raw q y → Raw (o ⊘ q) (raw_over x y)
  ◌/ʳ◌ = raw_over_lem

  -- what a function of two numbers comes to, at what the steps before come to
  pub at : (f : Outcome Float → Outcome Float → Outcome Float) {r : Float} → Raw o x → Raw q y → Raw (f (check x) (check y)) r → Raw (f o q) r
  at f p t e = record { is = rw (p.is, t.is) e.is }

-- ---- an operand that is taken as it is, and no step has checked

module _ {q : Outcome Float} {s : Float} where
  raw_from_lem : (f : Float → Float → Float) → ((x y : Float) → Lost y → Lost (f x y)) → (x : Float) → Raw q s → Raw (worked f (value x) q) (f x s)
  raw_from_lem f right x t = record { is = rw t.is (next s _ (check (f x s)) (λ _. refl) (λ l. check_lost (f x s) (right x s l))) }

  pub raw_add_from : (x : Float) → Raw q s → Raw (value x ⊕ q) (add binary64 x s)
  raw_add_from = raw_from_lem (add binary64) add_right

  pub raw_sub_from : (x : Float) → Raw q s → Raw (value x ⊖ q) (sub binary64 x s)
  raw_sub_from = raw_from_lem (sub binary64) sub_right

-- an operation on a number from outside and another: nothing was lost before it
pub raw_first : (f : Float → Float → Float) (x y : Float) → Raw (worked f (value x) (value y)) (f x y)
raw_first f x y = record { is = refl }

module _ {o : Outcome Float} {r : Float} where
  raw_with : (f : Float → Float → Float) → ((x y : Float) → Lost x → Lost (f x y)) → (y : Float) → Raw o r → Raw (worked f o (value y)) (f r y)
  raw_with f left y p = record { is = rw p.is (next r _ (check (f r y)) (λ _. refl) (λ l. check_lost (f r y) (left r y l))) }

  pub raw_plus : (y : Float) → Raw o r → Raw (o ⊕ value y) (add binary64 r y)
  raw_plus = raw_with (add binary64) add_left

  pub raw_less : (y : Float) → Raw o r → Raw (o ⊖ value y) (sub binary64 r y)
  raw_less = raw_with (sub binary64) sub_left

  pub raw_times : (y : Float) → Raw o r → Raw (o ⊗ value y) (mul binary64 r y)
  raw_times = raw_with (mul binary64) mul_left

  pub raw_by : (y : Float) → Raw o r → Raw (o ⊘ value y) (div binary64 r y)
  raw_by = raw_with (div binary64) div_left

  pub raw_scale : (x : Float) → Raw o r → Raw (value x ⊗ o) (mul binary64 x r)
  raw_scale x p = record { is = rw p.is (next r _ (check (mul binary64 x r)) (λ _. refl) (λ l. check_lost (mul binary64 x r) (mul_right x r l))) }

  -- a divisor that can be lost
  pub raw_under : (x : Float) → Raw o r → Raw (value x ⊘ o) (raw_over x r)
  raw_under x p = record {
    is = rw p.is
        (next r _ (check (raw_over x r)) (λ f. ap check (sym (lost_or_finite r (div binary64 x r) f))) (λ l. ap check (lost_or_lost r (div binary64 x r) l) ∙ check_lost r l));
  }

-- ---- a step taken for each member of a list in turn

module _ {A : Type 0} {f : Outcome Float → A → Outcome Float} {g : Float → A → Float} where
  pub raw_fold : {o : Outcome Float} {r : Float} → ((q : Outcome Float) (s : Float) (k : A) → Raw q s → Raw (f q k) (g s k)) → Raw o r → (ks : List A) → Raw (foldl f o ks) (foldl g r ks)
  raw_fold h p [] = p
  raw_fold {o = o} {r = r} h p (k ∷ ks) = raw_fold {o = f o k} {r = g r k} h (h o r k p) ks

-- ---- a number by another name, and its sign turned

module _ {o : Outcome Float} {r : Float} where
  -- the same number by another name, as a call's contract gives it
  pub named : {s : Float} → s ≡ r → Raw o r → Raw o s
  named e p = record { is = rw e p.is }

  pub raw_minus : Raw o r → Raw (minus_of o) (neg r)
  raw_minus p = record { is = rw p.is (neg_check r) }

-- ---- A formula is refused with 5 or not at all, so where its last step is a checked operation it is the check of its number.

pub record Five (o : Outcome Float) : Type 0 where
  pub is : inside o ≡ o

pub five : (x : Float) → Five (value x)
five x = record { is = refl }

five_of : (f : Float → Float → Float) (o q : Outcome Float) → inside o ≡ o → inside q ≡ q → inside (worked f o q) ≡ worked f o q
five_of f (value x) (value y) p t = inside_check (f x y)
five_of f (value x) (refused k) p t = t
five_of f (refused k) q p t = p

settled_of : (f : Float → Float → Float) (o q : Outcome Float) → inside o ≡ o → inside q ≡ q → check (or_nan (worked f o q)) ≡ worked f o q
settled_of f (value x) (value y) p t = raw_inside (check (f x y)) (f x y) refl ∙ inside_check (f x y)
settled_of f (value x) (refused k) p t = t
settled_of f (refused k) q p t = p

five_then : (o : Outcome Float) (f : Float → Outcome Float) → inside o ≡ o → ((x : Float) → inside (f x) ≡ f x) → inside (then o f) ≡ then o f
five_then (value x) f p h = h x
five_then (refused k) f p h = p

module _ {o q : Outcome Float} where
  five_worked : (f : Float → Float → Float) → Five o → Five q → Five (worked f o q)
  five_worked f p t = record { is = five_of f o q p.is t.is }

  pub five_add : Five o → Five q → Five (o ⊕ q)
  five_add = five_worked (add binary64)

  pub five_sub : Five o → Five q → Five (o ⊖ q)
  five_sub = five_worked (sub binary64)

  pub five_mul : Five o → Five q → Five (o ⊗ q)
  five_mul = five_worked (mul binary64)

  pub five_div : Five o → Five q → Five (o ⊘ q)
  five_div = five_worked (div binary64)

  pub settled_mul : Five o → Five q → check (or_nan (o ⊗ q)) ≡ o ⊗ q
  settled_mul p t = settled_of (mul binary64) o q p.is t.is

inside_twice : (o : Outcome Float) → inside (inside o) ≡ inside o
inside_twice (value x) = refl
inside_twice (refused k) = refl

module _ {o : Outcome Float} where
  -- a call inside a formula
  pub five_inside : (f : Float → Outcome Float) → Five o → Five (then o (λ x. inside (f x)))
  five_inside f p = record { is = five_then o (λ x. inside (f x)) p.is (λ x. inside_twice (f x)) }

  pub five_minus : Five o → Five (minus_of o)
  five_minus p = record { is = five_then o (λ x. value (neg x)) p.is (λ x. refl) }
