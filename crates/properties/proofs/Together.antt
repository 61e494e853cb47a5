-- The joint definition is the two single ones, half by half, over any four sums that are refused with 5 or not at all: what a half answers is its own
-- formula's, so that a refusal in w's own steps cannot reach cp, nor one in cp's reach w. Then the same at the sums of table 30, which are such sums.
use mathlib.Core.Path.{◌≡◌, refl, sym, subst, ◌∙◌}
use Prim.Native.Nat.{ℕ}
use lib.Ieee.{Float, binary64, add, sub, mul, div}
use Rattle.common.specs.Outcome.{Outcome, value, refused, check, inside, or_nan}
use Rattle.common.specs.Decimal.{whole}
use Rattle.common.specs.Constant.{rgas_water, tc_water, dc_water}
use Rattle.common.specs.Formula.{worked, ◌⊕◌, ◌⊖◌, ◌⊗◌, ◌⊘◌, minus_of}
use Rattle.common.proofs.Laws.{inside_check}
use Rattle.common.proofs.Formulas.{Five, five, five_add, five_sub, five_mul, five_div, five_minus}
use Rattle.inverses.specs.Formula.{root_of}
use Rattle.algo.specs.declared.Order.TheVariants.{Zero}
use Rattle.algo.specs.declared.Share.{Share}
use Rattle.algo.specs.declared.Share.TheVariants.{I, Ii, Ij, Jj}
use Rattle.algo.specs.Joint.{share_rule}
use Rattle.algo.proofs.Settled.{share_settled}
use Rattle.common.specs.Number.{Number}
use Rattle.printed.specs.Table30.{n1, table30}
use Rattle.helmholtz.specs.Hfe.{share, four_delta, four_deltadelta}
use Rattle.properties.specs.Td.{R, Sums, sums, cp_over, w_over, reduced_density, inverse_temperature, Td2cp, Td2w}
use Rattle.properties.specs.Together.{both_over, Td2cp_w}

-- ---- a lost operand is a lost formula

record Gone (o : Outcome Float) : Type 0 where
  is : o ≡ refused 5

right : (f : Float → Float → Float) (o q : Outcome Float) → inside o ≡ o → q ≡ refused 5 → worked f o q ≡ refused 5
right f (value x) q p g = rw g
right f (refused k) q p g = sym p

-- by the operand on the left; q's own refusal is not looked at, but names q
module _ {o q : Outcome Float} where
  add_gone : Gone o → Five q → Gone (o ⊕ q)
  add_gone g _ = record { is = rw g.is }

  sub_gone : Gone o → Five q → Gone (o ⊖ q)
  sub_gone g _ = record { is = rw g.is }

  mul_gone : Gone o → Five q → Gone (o ⊗ q)
  mul_gone g _ = record { is = rw g.is }

  div_gone : Gone o → Five q → Gone (o ⊘ q)
  div_gone g _ = record { is = rw g.is }

-- by the one on the right
module _ {o q : Outcome Float} where
  gone_add : Five o → Gone q → Gone (o ⊕ q)
  gone_add p g = record { is = right (add binary64) o q p.is g.is }

  gone_sub : Five o → Gone q → Gone (o ⊖ q)
  gone_sub p g = record { is = right (sub binary64) o q p.is g.is }

  gone_mul : Five o → Gone q → Gone (o ⊗ q)
  gone_mul p g = record { is = right (mul binary64) o q p.is g.is }

  gone_div : Five o → Gone q → Gone (o ⊘ q)
  gone_div p g = record { is = right (div binary64) o q p.is g.is }

gone_root : {o : Outcome Float} → Gone o → Gone (root_of o)
gone_root g = record { is = rw g.is }

-- ---- four sums, each refused with 5 or not at all

pub record Fives (φ : Sums) : Type 0 where
  pub delta : Five φ.delta
  pub deltadelta : Five φ.deltadelta
  pub deltatau : Five φ.deltatau
  pub tautau : Five φ.tautau

five_R : Five R
five_R = five rgas_water

two : Five (value (whole 2))
two = five (whole 2)

module _ (φ : Sums) {δ τ : Outcome Float} (v : Fives φ) (x : Five δ) (y : Five τ) where
  -- the parts of cp
  cp_a : Five (δ ⊗ (φ.delta ⊖ τ ⊗ φ.deltatau))
  cp_a = five_mul x (five_sub v.delta (five_mul y v.deltatau))

  cp_b : Five (δ ⊗ (value (whole 2) ⊗ φ.delta ⊕ δ ⊗ φ.deltadelta))
  cp_b = five_mul x (five_add (five_mul two v.delta) (five_mul x v.deltadelta))

  cp_own : Five (minus_of τ ⊗ τ ⊗ φ.tautau)
  cp_own = five_mul (five_mul (five_minus y) y) v.tautau

  -- a lost a, a lost b
  cp_from_a : Gone (δ ⊗ (φ.delta ⊖ τ ⊗ φ.deltatau)) → Gone (cp_over φ δ τ)
  cp_from_a g = gone_mul five_R (gone_add cp_own (div_gone (mul_gone g cp_a) cp_b))

  cp_delta : Gone φ.delta → Gone (cp_over φ δ τ)
  cp_delta g = cp_from_a (gone_mul x (sub_gone g (five_mul y v.deltatau)))

  cp_deltadelta : Gone φ.deltadelta → Gone (cp_over φ δ τ)
  cp_deltadelta g = gone_mul five_R (gone_add cp_own (gone_div (five_mul cp_a cp_a) (gone_mul x (gone_add (five_mul two v.delta) (gone_mul x g)))))

  cp_deltatau : Gone φ.deltatau → Gone (cp_over φ δ τ)
  cp_deltatau g = cp_from_a (gone_mul x (gone_sub v.delta (gone_mul y g)))

  cp_tautau : Gone φ.tautau → Gone (cp_over φ δ τ)
  cp_tautau g = gone_mul five_R (add_gone (gone_mul (five_mul (five_minus y) y) g) (five_div (five_mul cp_a cp_a) cp_b))

  -- the parts of w
  w_a : Five (δ ⊗ φ.delta ⊖ δ ⊗ τ ⊗ φ.deltatau)
  w_a = five_sub (five_mul x v.delta) (five_mul (five_mul x y) v.deltatau)

  w_b : Five (value (whole 2) ⊗ δ ⊗ φ.delta ⊕ δ ⊗ δ ⊗ φ.deltadelta)
  w_b = five_add (five_mul (five_mul two x) v.delta) (five_mul (five_mul x x) v.deltadelta)

  w_below : Five (τ ⊗ τ ⊗ φ.tautau)
  w_below = five_mul (five_mul y y) v.tautau

  module _ {T : Outcome Float} (t : Five T) where
    w_front : Five (value (whole 1000) ⊗ R ⊗ T)
    w_front = five_mul (five_mul (five (whole 1000)) five_R) t

    -- a lost b, a lost quotient
    w_from_b : Gone (value (whole 2) ⊗ δ ⊗ φ.delta ⊕ δ ⊗ δ ⊗ φ.deltadelta) → Gone (w_over T φ δ τ)
    w_from_b g = gone_root (gone_mul w_front (sub_gone g (five_div (five_mul w_a w_a) w_below)))

    w_delta : Gone φ.delta → Gone (w_over T φ δ τ)
    w_delta g = w_from_b (add_gone (gone_mul (five_mul two x) g) (five_mul (five_mul x x) v.deltadelta))

    w_deltadelta : Gone φ.deltadelta → Gone (w_over T φ δ τ)
    w_deltadelta g = w_from_b (gone_add (five_mul (five_mul two x) v.delta) (gone_mul (five_mul x x) g))

    w_deltatau : Gone φ.deltatau → Gone (w_over T φ δ τ)
    w_deltatau g =
        gone_root (gone_mul w_front (gone_sub w_b (div_gone (mul_gone (gone_sub (five_mul x v.delta) (gone_mul (five_mul x y) g)) w_a) w_below)))

    w_tautau : Gone φ.tautau → Gone (w_over T φ δ τ)
    w_tautau g = gone_root (gone_mul w_front (gone_sub w_b (gone_div (five_mul w_a w_a) (gone_mul (five_mul y y) g))))

-- ---- half by half

abbrev four : Outcome Float → Outcome Float → Outcome Float → Outcome Float → Sums
four a b c e = record { delta = a; deltadelta = b; deltatau = c; tautau = e }

-- a sum that is refused is refused with 5
lost : (k : ℕ) → Five (refused k) → Gone (refused k)
lost k p = record { is = sym p.is }

by : {k : ℕ} {o : Outcome Float} → Gone (refused k) → Gone o → refused k ≡ o
by p g = p.is ∙ sym g.is

module _ (T : Outcome Float) {δ τ : Outcome Float} (x : Five δ) (y : Five τ) where
  cp_by : (a b c e : Outcome Float) → Fives (four a b c e) → (both_over T (four a b c e) δ τ).cp ≡ cp_over (four a b c e) δ τ
  unfolding both_over
  cp_by (refused k) b c e v = by (lost k v.delta) (cp_delta _ v x y (lost k v.delta))
  cp_by (value a) (refused k) c e v = by (lost k v.deltadelta) (cp_deltadelta _ v x y (lost k v.deltadelta))
  cp_by (value a) (value b) (refused k) e v = by (lost k v.deltatau) (cp_deltatau _ v x y (lost k v.deltatau))
  cp_by (value a) (value b) (value c) (refused k) v = by (lost k v.tautau) (cp_tautau _ v x y (lost k v.tautau))
  cp_by (value a) (value b) (value c) (value e) v = refl

  -- whatever T is, and whatever w comes to
  pub cp_alone : (φ : Sums) → Fives φ → (both_over T φ δ τ).cp ≡ cp_over φ δ τ
  cp_alone φ v = cp_by φ.delta φ.deltadelta φ.deltatau φ.tautau v

  module _ (t : Five T) where
    w_by : (a b c e : Outcome Float) → Fives (four a b c e) → (both_over T (four a b c e) δ τ).w ≡ w_over T (four a b c e) δ τ
    unfolding both_over
    w_by (refused k) b c e v = by (lost k v.delta) (w_delta _ v x y t (lost k v.delta))
    w_by (value a) (refused k) c e v = by (lost k v.deltadelta) (w_deltadelta _ v x y t (lost k v.deltadelta))
    w_by (value a) (value b) (refused k) e v = by (lost k v.deltatau) (w_deltatau _ v x y t (lost k v.deltatau))
    w_by (value a) (value b) (value c) (refused k) v = by (lost k v.tautau) (w_tautau _ v x y t (lost k v.tautau))
    w_by (value a) (value b) (value c) (value e) v = refl

    -- whatever cp comes to
    pub w_alone : (φ : Sums) → Fives φ → (both_over T φ δ τ).w ≡ w_over T φ δ τ
    w_alone φ v = w_by φ.delta φ.deltadelta φ.deltatau φ.tautau v

-- ---- at the sums of table 30

settled_five : (o : Outcome Float) → check (or_nan o) ≡ o → inside o ≡ o
settled_five (value x) h = refl
settled_five (refused k) h = h

share_five : (s : Share) (δ τ : Outcome Float) → inside δ ≡ δ → inside τ ≡ τ → inside (share s δ τ) ≡ share s δ τ
unfolding share
share_five s (refused k) τ p q = p
share_five s (value x) (refused k) p q = q
share_five s (value x) (value y) p q = settled_five (share_rule Zero s x y table30) (share_settled Zero s x y table30)

module _ {δ τ : Outcome Float} (x : Five δ) (y : Five τ) where
  five_share : (s : Share) → Five (share s δ τ)
  five_share s = record { is = share_five s δ τ x.is y.is }

  fives : Fives (sums δ τ)
  unfolding four_delta four_deltadelta
  fives = record {
    delta = five_add (five_div (five n1) x) (five_share I);
    deltadelta = five_add (five_div (five_div (five_minus (five n1)) x) x) (five_share Ii);
    deltatau = five_share Ij;
    tautau = five_share Jj;
  }

five_check : (x : Float) → Five (check x)
five_check x = record { is = inside_check x }

module _ (t d : Float) where
  five_δ : Five (reduced_density (check d))
  five_δ = five_div (five_check d) (five dc_water)

  five_τ : Five (inverse_temperature (check t))
  five_τ = five_div (five tc_water) (five_check t)

  pub cp_half : (Td2cp_w (check t) (check d)).cp ≡ Td2cp (check t) (check d)
  unfolding Td2cp_w Td2cp
  cp_half = cp_alone (check t) five_δ five_τ (sums _ _) (fives five_δ five_τ)

  pub w_half : (Td2cp_w (check t) (check d)).w ≡ Td2w (check t) (check d)
  unfolding Td2cp_w Td2w
  w_half = w_alone (check t) five_δ five_τ (five_check t) (sums _ _) (fives five_δ five_τ)

  -- the number of a half is the number of the single formula
  pub cp_number : {r : Float} → Number (Td2cp_w (check t) (check d)).cp r → Number (Td2cp (check t) (check d)) r
  cp_number {r} n = subst (λ (o : Outcome Float). Number o r) cp_half n

  pub w_number : {r : Float} → Number (Td2cp_w (check t) (check d)).w r → Number (Td2w (check t) (check d)) r
  w_number {r} n = subst (λ (o : Outcome Float). Number o r) w_half n
