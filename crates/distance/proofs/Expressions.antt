-- Each boundary as an expression: its f64 steps are the boundary's, its constants are S05rev's decimals beside their f64s, and its exact value
-- is the temperature of specs/Exact. By induction over the table, whatever the rows. Assumes nothing.
use mathlib.Core.Path.{◌≡◌, refl, sym, ap, ◌∙◌, subst}
use Prim.Native.Nat.{ℕ, suc, ◌+◌, ◌-◌, ◌*◌, ◌^◌, ◌≤◌, ◌<◌}
use native.Mathlib.Nat.{mul-pos, one-le-pow, zero-lt-suc, add-zero, zero-add}
use native.Mathlib.Omega.{arith}
use mathlib.Core.Bool.{Bool, true, false, ◌&&◌, cond}
use mathlib.Core.List.{List, map}
use lib.IntN.{ℤ, pos, negsuc}
use lib.Dec.{T, leb, eqb, leb→le, eqb→eq}
use lib.Pow.{pow-add, pow_pos}
use lib.Ieee.{Float, binary64, add, sub, mul, neg}
use lib.Ieee.Fits.{and_l, and_r}
use Rattle.common.specs.Outcome.{Outcome, check, then, zero_f}
use Rattle.common.specs.Decimal.{scaled, decimal, tens, tenths}
use Rattle.common.specs.Sum.{raw_total, every}
use Rattle.common.proofs.Laws.{mul_right, add_left, step}
use Rattle.rounding.specs.Fraction.{Fraction, ratio, signed, sum_over}
use Rattle.rounding.specs.Arithmetic.{times}
use Rattle.rounding.proofs.Near.{Same}
use Rattle.rounding.proofs.Expressions.{Ex, con, var, sum, difference, product, float, exact, always}
use Rattle.rounding.proofs.Powers.{power_ex, power_float, power_exact, sum_ex, sum_float, sum_same}
use Rattle.boundaries.specs.Boundary as f64
use Rattle.boundaries.specs.Boundary.{in_p, boundary_of, walk_rule, row_at, table, straight3ef}
use Rattle.boundaries.specs.Raw.{bare_term, Bare}
use Rattle.boundaries.proofs.TableSums.{small, sum_check}
use Rattle.distance.specs.Exact.{Row, Form, tabled, straight, form, value_of, Polynomial, cd, ef, gh, ij, jk, mn, qu, rx, uv, Q, lifted, gain, loss}
use Rattle.distance.specs.Exact.{polynomial, line}
use Rattle.distance.specs.Distance.{kind}

-- ---- a row

-- the coefficient in f64, and what it stands for
unfoldable pub coefficient : Row → Float
unfolding scaled
coefficient r = scaled r.negative r.digits 15 r.exponent

abbrev pub printed : Row → Fraction
printed r = signed r.negative (r.digits * tens r.exponent) (10 ^ 15 * tenths r.exponent)

unfoldable row_ex : Row → Ex
unfolding coefficient power_ex
row_ex r = product (con (coefficient r) (printed r)) (power_ex (var 0) r.power)

-- the term of the f64 table
abbrev pub rounded : Row → f64.Term
rounded r = f64.term (pos r.power) (coefficient r)

row_float : (x : Float) (r : Row) → float (always x) (row_ex r) ≡ bare_term x (rounded r)
unfolding row_ex float
row_float x r = ap (λ (z : Float). mul binary64 (coefficient r) z) (power_float (always x) (var 0) r.power ∙ (unfold float in refl))

-- ---- exactly

-- 10^e / 10^15 is 10^(4 + e) / 10^19, and the power is 4 at most
abbrev pub fine : Row → Bool
fine r = eqb (tens r.exponent * 10 ^ 19) (lifted r.exponent * (10 ^ 15 * tenths r.exponent)) && leb r.power 4

split_pow : (n i j : ℕ) → i ≤ j → n ^ (j - i) * n ^ i ≡ n ^ j
split_pow n i j h = sym (pow-add n (j - i) i) ∙ ap (λ (x : ℕ). n ^ x) (back i j h)
  where
    back : (i j : ℕ) → i ≤ j → j - i + i ≡ j
    back i j h = omega arith

-- a term over the one scale, whichever its sign
module _ (n t Z L D p q q' Y : ℕ) (e : t * Z ≡ L * D) (g : q' * q ≡ Y) (positive : 0 < D * q) where
  all : n * t * p * (Z * Y) ≡ n * L * (p * q') * (D * q)
  all =
      let e' : t * Z * (n * p * Y) ≡ L * D * (n * p * Y) = ap (λ (z : ℕ). z * (n * p * Y)) e in
      let g' : q' * q * (n * p * (L * D)) ≡ Y * (n * p * (L * D)) = ap (λ (z : ℕ). z * (n * p * (L * D))) g in
      omega arith

  none : (n * t * 0 + 0 * p) * (Z * Y) ≡ 0 * (D * q)
  none = omega arith

  none' : (0 * p + n * t * 0) * (Z * Y) ≡ 0 * (D * q)
  none' = omega arith

  term_same : (s : Bool) → Same (times (signed s (n * t) D) (ratio p q))
      (record { over = cond s 0 (n * L * (p * q')); under = cond s (n * L * (p * q')) 0; scale = Z * Y })
  term_same false = record { overs = ap (λ (z : ℕ). z * (Z * Y)) (add-zero (n * t * p)) ∙ all; unders = none; positive = positive }
  term_same true = record { overs = none'; unders = ap (λ (z : ℕ). z * (Z * Y)) (zero-add (n * t * p)) ∙ all; positive = positive }

ten_pos : (k : ℕ) → 0 < 10 ^ k
ten_pos k = one-le-pow k 10 (zero-lt-suc 9)

tenths_pos : (e : ℤ) → 0 < tenths e
tenths_pos (pos k) = zero-lt-suc 0
tenths_pos (negsuc k) = ten_pos (suc k)

row_same : (P : ℕ) (r : Row) → T (fine r)
    → Same (exact 0 (always (ratio P Q)) (row_ex r)) (record { over = gain P r; under = loss P r; scale = 10 ^ 19 * Q ^ 4 })
unfolding row_ex exact
row_same P r t =
    let a = eqb (tens r.exponent * 10 ^ 19) (lifted r.exponent * (10 ^ 15 * tenths r.exponent)) in
    let i = r.power in
    let l = leb→le i 4 (and_r a (leb i 4) t) in
    subst (λ (z : Fraction). Same (times (printed r) z) (record { over = gain P r; under = loss P r; scale = 10 ^ 19 * Q ^ 4 }))
    (sym (power_exact 0 (always (ratio P Q)) (var 0) P Q i (few i l) refl))
    (term_same r.digits (tens r.exponent) (10 ^ 19) (lifted r.exponent) (10 ^ 15 * tenths r.exponent) (P ^ i) (Q ^ i) (Q ^ (4 - i)) (Q ^ 4)
    (eqb→eq (tens r.exponent * 10 ^ 19) (lifted r.exponent * (10 ^ 15 * tenths r.exponent)) (and_l a (leb i 4) t)) (split_pow Q i 4 l)
    (mul-pos (mul-pos (ten_pos 15) (tenths_pos r.exponent)) (one-le-pow i Q (pow_pos 48))) r.negative)
  where
    few : (i : ℕ) → i ≤ 4 → i < 2 ^ 32
    few i l = omega arith

-- ---- a boundary
abbrev zero_ex : Ex
zero_ex = con zero_f (ratio 0 1)

unfoldable pub ef_ex : Ex
unfolding decimal neg
ef_ex =
    sum (product (con (decimal 3_727888004 9) (ratio 3_727888004 (10 ^ 9))) (difference (var 0) (con (decimal 22_064 3) (ratio 22_064 (10 ^ 3)))))
    (con (decimal 647_096 3) (ratio 647_096 (10 ^ 3)))

unfoldable pub rows_ex : List Row → Ex
unfolding sum_ex row_ex
rows_ex rows = sum_ex row_ex zero_ex rows

-- the expression whose f64 steps are the boundary's
abbrev pub ex : Form → Ex
ex (tabled rows) = rows_ex rows
ex straight = ef_ex

-- ---- the same floats, where no power of p is lost
rows_check : (p : Float) → Bare p → (rows : List Row) → T (every small (map rounded rows))
    → walk_rule (f64.row in_p (map rounded rows)) p ≡ check (float (always p) (rows_ex rows))
unfolding rows_ex walk_rule
rows_check p f rows t =
    sum_check p f (map rounded rows) t
    ∙ ap check (sym (sum_float row_ex (bare_term p) rounded (always p) (row_float p) zero_ex rows ∙ start))
  where
    start : raw_total (bare_term p) (float (always p) zero_ex) (map rounded rows) ≡ raw_total (bare_term p) zero_f (map rounded rows)
    start = unfold float in refl

ef_check : (p : Float) → straight3ef p ≡ check (float (always p) ef_ex)
unfolding straight3ef ef_ex float sub
ef_check p =
    let k = decimal 3_727888004 9 in
    let t = decimal 647_096 3 in
    let d = sub binary64 p (decimal 22_064 3) in
    ap (λ (o : Outcome Float). then o (λ w. check (add binary64 w t))) (step d (λ y. check (mul binary64 k y)) (mul binary64 k) (λ _. refl) (mul_right k d))
    ∙ step (mul binary64 k d) (λ w. check (add binary64 w t)) (λ w. add binary64 w t) (λ _. refl) (add_left (mul binary64 k d) t)

-- the f64 rule of a boundary: the printed decimals, rounded
abbrev pub in_floats : Form → Float → Outcome Float
in_floats (tabled rows) p = walk_rule (f64.row in_p (map rounded rows)) p
in_floats straight p = straight3ef p

pub written : (b : Polynomial) (p : Float) → boundary_of (kind b) p ≡ in_floats (form b) p
unfolding form coefficient row_at table
written cd p = refl
written ef p = refl
written gh p = refl
written ij p = refl
written jk p = refl
written mn p = refl
written qu p = refl
written rx p = refl
written uv p = refl

-- the power rule takes each power
abbrev pub taken : Form → Bool
taken (tabled rows) = every small (map rounded rows)
taken straight = true

pub form_check : (g : Form) (p : Float) → Bare p → T (taken g) → in_floats g p ≡ check (float (always p) (ex g))
form_check (tabled rows) p f t = rows_check p f rows t
form_check straight p f t = ef_check p

-- ---- the same exact value
rows_same : (P : ℕ) (rows : List Row) → T (every fine rows) → Same (exact 0 (always (ratio P Q)) (rows_ex rows)) (polynomial rows P)
unfolding rows_ex
rows_same P rows t =
    let S = 10 ^ 19 * Q ^ 4 in
    let r = sum_same row_ex 0 (always (ratio P Q)) (gain P) (loss P) S fine (row_same P) zero_ex 0 0 (start S) rows t in
    subst (λ (z : ℕ). Same (exact 0 (always (ratio P Q)) (sum_ex row_ex zero_ex rows)) (record { over = z; under = sum_over (loss P) rows; scale = S }))
    (zero-add (sum_over (gain P) rows))
    (subst (λ (z : ℕ). Same (exact 0 (always (ratio P Q)) (sum_ex row_ex zero_ex rows)) (record { over = 0 + sum_over (gain P) rows; under = z; scale = S }))
    (zero-add (sum_over (loss P) rows)) r)
  where
    nothing : (S : ℕ) → 0 * S ≡ 0 * 1
    nothing S = omega arith

    start : (S : ℕ) → Same (exact 0 (always (ratio P Q)) zero_ex) (record { over = 0; under = 0; scale = S })
    start S = unfold exact in record { overs = nothing S; unders = nothing S; positive = zero-lt-suc 0 }

ef_same : (P : ℕ) → Same (exact 0 (always (ratio P Q)) ef_ex) (line P)
unfolding exact ef_ex
ef_same P = record { overs = overs Q; unders = unders Q; positive = positive Q (pow_pos 48) }
  where
    overs : (Q : ℕ) → ((3727888004 * (P * 1000 + 0 * Q) + 0 * (0 * 1000 + 22064 * Q)) * 1000 + 647096 * (1000000000 * (Q * 1000))) * (1000000000000 * Q)
        ≡ (3727888004 * 1000 * P + 647096 * 1000000000 * Q) * (1000000000 * (Q * 1000) * 1000)
    overs Q = omega arith

    unders : (Q : ℕ) → ((3727888004 * (0 * 1000 + 22064 * Q) + 0 * (P * 1000 + 0 * Q)) * 1000 + 0 * (1000000000 * (Q * 1000))) * (1000000000000 * Q)
        ≡ 3727888004 * 22064 * Q * (1000000000 * (Q * 1000) * 1000)
    unders Q = omega arith

    positive : (Q : ℕ) → 0 < Q → 0 < 1000000000 * (Q * 1000) * 1000
    positive Q h = omega arith

abbrev pub even : Form → Bool
even (tabled rows) = every fine rows
even straight = true

pub form_same : (g : Form) (P : ℕ) → T (even g) → Same (exact 0 (always (ratio P Q)) (ex g)) (value_of g P)
form_same (tabled rows) P t = rows_same P rows t
form_same straight P t = ef_same P
