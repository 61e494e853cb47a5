-- The computed bound by sizes: how large an expression's float is at most and how far from the exact value, in units of 2^-1074. It asks for no sign, so it
-- serves a sum whose parts cancel; it has no quotient and no root: for those see BoundByRange. Assumes nothing.
use Prim.Native.Nat.{ℕ, ◌*◌, ◌^◌}
use mathlib.Core.Bool.{Bool, true, false, ◌&&◌}
use lib.Dec.{T, leb, ltb, ltb→lt, leb→le}
use lib.Ieee.{Float, binary64, add, sub}
use lib.Ieee.Fits.{and_l, and_r}
use lib.Ieee.Scale.{overflow}
use Rattle.rounding.specs.Fraction.{Fraction, Near}
use Rattle.rounding.specs.Arithmetic.{plus}
use Rattle.rounding.proofs.Errors.{Held, held_add, held_mul, sum_size, sum_error, product_size, product_error}
use Rattle.rounding.proofs.Near.{Same, held_same, held_near}
use Rattle.rounding.proofs.Ranges.{held_neg}
use Rattle.rounding.proofs.Expressions.{Ex, con, var, sum, difference, product, quotient, minus, root, float, exact, always}
use Rattle.rounding.proofs.BoundByRange.{most, constant, constant_known}

-- `ok` says that no step overflows and that each constant is near its fraction
pub record Size : Type 0 where
  pub ok : Bool
  pub size : ℕ
  pub error : ℕ

abbrev none : Size
none = record { ok = false; size = 0; error = 0 }

abbrev pub sum_of : Size → Size → Size
sum_of a b = record {
  ok = a.ok && b.ok && ltb (sum_size binary64 a.size b.size) (overflow binary64);
  size = sum_size binary64 a.size b.size;
  error = sum_error binary64 a.size a.error b.size b.error;
}

abbrev pub product_of : Size → Size → Size
product_of a b = record {
  ok = a.ok && b.ok && ltb (product_size binary64 a.size b.size) (overflow binary64);
  size = product_size binary64 a.size b.size;
  error = product_error binary64 a.size a.error b.size b.error;
}

unfoldable pub size_of : (ℕ → Size) → Ex → Size
unfolding constant
size_of b (con c z) = let k = constant c z in record { ok = k.ok; size = most k; error = k.error }
size_of b (var i) = b i
size_of b (sum s t) = sum_of (size_of b s) (size_of b t)
size_of b (difference s t) = sum_of (size_of b s) (size_of b t)
size_of b (product s t) = product_of (size_of b s) (size_of b t)
size_of b (quotient s t) = none
size_of b (minus s) = size_of b s
size_of b (root s) = none

abbrev pub HeldBy : Float → Fraction → Size → Type 0
HeldBy v w a = Held binary64 v w a.size a.error

held_sum : {v v' : Float} {w w' : Fraction} (a b : Size) → HeldBy v w a → HeldBy v' w' b → T (sum_of a b).ok
    → HeldBy (add binary64 v v') (plus w w') (sum_of a b)
held_sum a b h k t =
    let o = ltb (sum_size binary64 a.size b.size) (overflow binary64) in
    held_add h k (ltb→lt (sum_size binary64 a.size b.size) (overflow binary64) (and_r (a.ok && b.ok) o t))

both : (a b o : Bool) → T (a && b && o) → T a × T b
both a b o t = let g = and_l (a && b) o t in (and_l a b g, and_r a b g)

module _ (n : ℕ) (x : ℕ → Float) (y : ℕ → Fraction) (b : ℕ → Size) (given : (i : ℕ) → T (b i).ok → HeldBy (x i) (y i) (b i)) where
  pub held_by_size : (t : Ex) → T (size_of b t).ok → HeldBy (float x t) (exact n y t) (size_of b t)
  unfolding float exact size_of sub
  held_by_size (con c z) k = (constant_known c z k).held
  held_by_size (var i) k = given i k
  held_by_size (sum s t) k =
      let a = size_of b s in
      let c = size_of b t in
      let g = both a.ok c.ok (ltb (sum_size binary64 a.size c.size) (overflow binary64)) k in
      held_sum a c (held_by_size s g.0) (held_by_size t g.1) k
  held_by_size (difference s t) k =
      let a = size_of b s in
      let c = size_of b t in
      let g = both a.ok c.ok (ltb (sum_size binary64 a.size c.size) (overflow binary64)) k in
      held_sum a c (held_by_size s g.0) (held_neg (held_by_size t g.1)) k
  held_by_size (product s t) k =
      let a = size_of b s in
      let c = size_of b t in
      let o = ltb (product_size binary64 a.size c.size) (overflow binary64) in
      let g = both a.ok c.ok o k in
      held_mul (held_by_size s g.0) (held_by_size t g.1)
      (ltb→lt (product_size binary64 a.size c.size) (overflow binary64) (and_r (a.ok && c.ok) o k))
  held_by_size (quotient s t) k = absurd k
  held_by_size (minus s) k = held_neg (held_by_size s k)
  held_by_size (root s) k = absurd k

-- ---- where the one variable is exact and M units at most: the test that an expression's error is N / D at most, and what it proves
abbrev upto : ℕ → Size
upto M = record { ok = true; size = M; error = 0 }

unfoldable pub tight : ℕ → Ex → ℕ → ℕ → Bool
unfolding size_of
tight M t N D = (size_of (always (upto M)) t).ok && leb ((size_of (always (upto M)) t).error * D) (N * 2 ^ 1074)

pub expression_near : {x : Float} {y z : Fraction} {M : ℕ} (n N D : ℕ) → Held binary64 x y M 0 → (t : Ex) → Same (exact n (always y) t) z → T (tight M t N D)
    → Near (float (always x) t) z N D
unfolding tight
expression_near {x} {y} {M = M} n N D h t s k =
    let b = size_of (always (upto M)) t in
    let l = leb (b.error * D) (N * 2 ^ 1074) in
    held_near N D (held_same s (held_by_size n (always x) (always y) (always (upto M)) (λ i _. h) t (and_l b.ok l k)))
    (leb→le (b.error * D) (N * 2 ^ 1074) (and_r b.ok l k))
