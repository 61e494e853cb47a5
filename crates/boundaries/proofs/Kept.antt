-- At a p from 2^-7 to 2^7 no boundary that is a polynomial in p is lost: no power is, a term is at most 2^44 in size, and a row has few. So a band that
-- lies there need not test it. Assumes nothing.
use mathlib.Core.Path.{◌≡◌}
use mathlib.Core.Bool.{Bool, true, ◌&&◌}
use mathlib.Core.List.{List, [], ◌∷◌}
use Prim.Native.Nat.{ℕ, ◌+◌, ◌*◌, ◌^◌, ◌≤◌}
use native.Mathlib.Omega.{arith}
use lib.Dec.{T, leb, leb→le}
use lib.IntN.{nat_abs}
use lib.Ieee.{Float, binary64, round, neg, add, sub, mul}
use lib.Ieee.Positive.{num, den}
use borrow.Author.Tests.{leb-true, le-leb}
use Rattle.common.specs.Outcome.{finite, zero_f}
use Rattle.common.specs.Decimal.{scaled, decimal, plus, minus}
use Rattle.common.specs.Sum.{raw_total, every}
use Rattle.common.proofs.Sums.{both_left, both_right, T_true}
use Rattle.sizes.proofs.Band.{Band}
use Rattle.sizes.proofs.Most.{Most, of_band, grown, mul_most, add_most, sub_most}
use Rattle.rules.specs.RawPower.{raw_power}
use Rattle.rules.proofs.Usual.{power_band, same_power}
use Rattle.boundaries.specs.Boundary.{Term, term, in_p, in_ln, Row, row, table, row_at, Form, tabled, straight, form_of}
use Rattle.boundaries.specs.Raw.{argument_in, raw_argument, raw_sum, raw_form, bare_at, bare_term, Bare}
use Rattle.boundaries.specs.declared.Boundary.{Boundary}
use Rattle.boundaries.proofs.TableSums.{small, at_every, row_in_p, polynomial, form_in_p, in_p_lem}

-- no power that a row names is lost
pub bare : (p : Float) → Band 7 p → Bare p
bare p b i h =
    let four : nat_abs i ≤ 4 = leb-true (nat_abs i) 4 h in
    power_band 7 p i b (le-leb (nat_abs i) 64 (omega arith)) (omega arith)

-- a constant that is at most 2^k, as a test
abbrev light : ℕ → Float → Bool
light k n = finite n && leb (num n) (2 ^ k * den n)

constant : (k : ℕ) (n : Float) → T (light k n) → Most k n
constant k n h = record {
  kept = T_true (finite n) (both_left (finite n) (leb (num n) (2 ^ k * den n)) h);
  most = leb→le (num n) (2 ^ k * den n) (both_right (finite n) (leb (num n) (2 ^ k * den n)) h);
}

-- ---- a row

abbrev light_term : Term → Bool
light_term (term i n) = small (term i n) && light 16 n

-- each term takes the bound of the sum up by one
abbrev room : ℕ → List Term → Bool
room k [] = true
room k (t ∷ ts) = leb (k + 1) 1022 && room (k + 1) ts

abbrev light_row : Row → Bool
light_row (row a ts) = every light_term ts && room 44 ts

term_most : (p : Float) → Band 7 p → (t : Term) → T (light_term t) → Most 44 (bare_term p t)
term_most p b (term i n) h =
    let four : nat_abs i ≤ 4 = leb-true (nat_abs i) 4 (T_true (leb (nat_abs i) 4) (both_left (leb (nat_abs i) 4) (light 16 n) h)) in
    let power = (same_power 7 p i b (le-leb (nat_abs i) 64 (omega arith)) (omega arith)).most in
    mul_most 16 28 n (raw_power p i) (omega arith) (constant 16 n (both_right (leb (nat_abs i) 4) (light 16 n) h)) (grown 28 (omega arith) power)

total_kept : (p : Float) → Band 7 p → (k : ℕ) (z : Float) (ts : List Term) → 44 ≤ k → Most k z → T (every light_term ts) → T (room k ts) →
    finite (raw_total (bare_term p) z ts) ≡ true
unfolding raw_total every
total_kept p b k z [] l s h r = s.kept
total_kept p b k z (t ∷ ts) l s h r =
    let next = leb→le (k + 1) 1022 (both_left (leb (k + 1) 1022) (room (k + 1) ts) r) in
    let u = term_most p b t (both_left (light_term t) (every light_term ts) h) in
    total_kept p b (k + 1) (add binary64 z (bare_term p t)) ts (omega arith) (add_most k z (bare_term p t) next s (grown k l u))
    (both_right (light_term t) (every light_term ts) h)
    (both_right (leb (k + 1) 1022) (room (k + 1) ts) r)

row_kept : (r : Row) (p : Float) → Band 7 p → T (row_in_p r) → T (light_row r) → finite (raw_sum true r (raw_argument (argument_in r) p)) ≡ true
unfolding raw_sum
row_kept (row in_p ts) p b i h =
    let light = both_left (every light_term ts) (room 44 ts) h in
    total_kept p b 44 zero_f ts (omega arith) (constant 44 zero_f tt) light (both_right (every light_term ts) (room 44 ts) h)
row_kept (row in_ln ts) p b i h = absurd i

table_light : (k : ℕ) → T (light_row (row_at k))
unfolding table row_at every plus minus scaled round neg
table_light k = at_every light_row table k tt tt

-- ---- the boundaries

line_kept : (p : Float) → Band 7 p → finite (raw_form true straight p) ≡ true
unfolding decimal scaled round
line_kept p b =
    (add_most 10 (mul binary64 (decimal 3_727888004 9) (sub binary64 p (decimal 22_064 3))) (decimal 647_096 3) (omega arith)
    (mul_most 2 8 (decimal 3_727888004 9) (sub binary64 p (decimal 22_064 3)) (omega arith) (constant 2 (decimal 3_727888004 9) tt)
    (sub_most 7 p (decimal 22_064 3) (omega arith) (of_band b) (constant 7 (decimal 22_064 3) tt)))
    (constant 10 (decimal 647_096 3) tt)).kept

form_kept : (f : Form) (p : Float) → Band 7 p → T (form_in_p f) → finite (raw_form true f p) ≡ true
form_kept (tabled k) p b i = row_kept (row_at k) p b i (table_light k)
form_kept straight p b i = line_kept p b

pub polynomial_kept : (b : Boundary) (p : Float) → Band 7 p → T (polynomial b) → finite (bare_at b p) ≡ true
polynomial_kept b p m h = form_kept (form_of b) p m (in_p_lem b h)
