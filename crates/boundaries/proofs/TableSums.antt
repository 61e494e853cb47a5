-- A row walked with a check at each step is the row walked raw and checked once: by the rule's powers one law over any row that has a term, and by bare
-- powers where those are the rule's; what the law wants of a row is computed over the table. So it is of each boundary. Assumes nothing.
use Prim.Native.Nat.{ℕ, zero, suc, ◌≤◌}
use mathlib.Core.Path.{◌≡◌, refl, sym, ap, ◌∙◌}
use mathlib.Core.Bool.{Bool, true, false}
use mathlib.Core.List.{List, [], ◌∷◌}
use native.Mathlib.Omega.{arith}
use lib.Dec.{T, leb}
use lib.IntN.{ℤ, nat_abs}
use lib.Ieee.{Float, nan, binary64, round, of_bits, add, mul}
use borrow.Author.Tests.{leb-true, le-leb}
use Rattle.common.specs.Outcome.{Outcome, value, refused, finite, check, then, inside, or_nan, zero_f}
use Rattle.common.specs.Decimal.{scaled, decimal}
use Rattle.common.specs.Sum.{total, raw_total, every}
use Rattle.common.proofs.Laws.{mul_right, inside_check, raw_inside, step}
use Rattle.common.proofs.Formulas.{raw_value, raw_add, raw_mul, raw_sub_from}
use Rattle.common.proofs.Sums.{total_check, both_left, both_right, T_true}
use Rattle.rules.specs.Power.{power_rule}
use Rattle.rules.specs.RawPower.{raw_power, looked_power}
use Rattle.inverses.specs.Log.{logarithm_rule}
use Rattle.rules.proofs.Powers.{power_looked}
use Rattle.rules.proofs.Usual.{usual_raw}
use Rattle.sizes.specs.Usual.{usual_base}
use Rattle.boundaries.specs.Boundary.{Term, term, in_p, in_ln, Row, row, table, term_rule, walk_rule, at, row_at}
use Rattle.boundaries.specs.Boundary.{straight3ef, Form, tabled, straight, form_of, form_rule, boundary_of}
use Rattle.boundaries.specs.Raw.{argument_in, raw_argument, raw_term, raw_sum, raw_form, raw_at, bare_at, bare_term, Bare}
use Rattle.boundaries.specs.declared.Boundary.{Boundary}
use Rattle.boundaries.specs.declared.Boundary.TheVariants.{Ab, Cd, Ef, Gh, Ij, Jk, Mn, Op, Qu, Rx, Uv, Wx}

-- ---- bare powers, where they are the rule's

-- the term's exponent is from -4 to 4
abbrev pub small : Term → Bool
small (term i n) = leb (nat_abs i) 4

bare_term_lem : (x : Float) → Bare x → (t : Term) → T (small t) → term_rule x t ≡ check (bare_term x t)
bare_term_lem x bare (term i n) h =
    rw (bare i (T_true (leb (nat_abs i) 4) h), inside_check (raw_power x i))
    (step (raw_power x i) (λ w. check (mul binary64 n w)) (λ w. mul binary64 n w) (λ _. refl) (mul_right n (raw_power x i)))

pub sum_check : (x : Float) → Bare x → (ts : List Term) → T (every small ts) → total (term_rule x) zero_f ts ≡ check (raw_total (bare_term x) zero_f ts)
sum_check x bare ts h = total_check (term_rule x) (bare_term x) small (bare_term_lem x bare) zero_f ts refl h

-- ---- the rule's powers

settled : (x : Float) (i : ℤ) (f s : Bool) → finite x ≡ f → leb (nat_abs i) 64 ≡ s → check (or_nan (power_rule x i)) ≡ inside (power_rule x i)
unfolding power_rule
settled x i false s e d = rw e
settled x i true false e d = rw (e, d)
settled x i true true e d = raw_inside (power_rule x i) (looked_power x i) (power_looked x i e d)

abbrev any : Term → Bool
any t = true

any_term : (x : Float) (t : Term) → T (any t) → term_rule x t ≡ check (raw_term false x t)
any_term x (term i n) h =
    rw (sym (settled x i (finite x) (leb (nat_abs i) 64) refl refl))
    (step (or_nan (power_rule x i)) (λ w. check (mul binary64 n w)) (λ w. mul binary64 n w) (λ _. refl) (mul_right n (or_nan (power_rule x i))))

always : (ts : List Term) → T (every any ts)
unfolding every
always [] = tt
always (t ∷ ts) = always ts

any_sum : (x : Float) (ts : List Term) → total (term_rule x) zero_f ts ≡ check (raw_total (raw_term false x) zero_f ts)
any_sum x ts = total_check (term_rule x) (raw_term false x) any (any_term x) zero_f ts refl (always ts)

-- of the number that an outcome holds, or else a NaN, of which the first power is refused
of_outcome : (i : ℤ) (n : Float) (ts : List Term) (o : Outcome Float) →
    then (inside o) (λ x. total (term_rule x) zero_f (term i n ∷ ts)) ≡ check (raw_total (raw_term false (or_nan o)) zero_f (term i n ∷ ts))
unfolding total power_rule
of_outcome i n ts (value x) = any_sum x (term i n ∷ ts)
of_outcome i n ts (refused k) = any_sum nan (term i n ∷ ts)

-- a row that has a term
abbrev filled : Row → Bool
filled (row a []) = false
filled (row a (t ∷ ts)) = true

row_check : (r : Row) (p : Float) → T (filled r) → check (raw_sum false r (raw_argument (argument_in r) p)) ≡ walk_rule r p
unfolding raw_sum walk_rule
row_check (row a []) p h = absurd h
row_check (row in_p (t ∷ ts)) p h = sym (any_sum p (t ∷ ts))
row_check (row in_ln (term i n ∷ ts)) p h = sym (of_outcome i n ts (logarithm_rule p))

-- ---- the two kinds of powers at a usual x

usual_term : (x : Float) → usual_base x ≡ true → (t : Term) → T (small t) → raw_term true x t ≡ raw_term false x t
usual_term x u (term i n) h =
    let four : nat_abs i ≤ 4 = leb-true (nat_abs i) 4 (T_true (leb (nat_abs i) 4) h) in
    ap (mul binary64 n) (sym (usual_raw x i u (le-leb (nat_abs i) 64 (omega arith))))

usual_total : (x : Float) → usual_base x ≡ true → (z : Float) (ts : List Term) → T (every small ts) →
    raw_total (raw_term true x) z ts ≡ raw_total (raw_term false x) z ts
unfolding raw_total every
usual_total x u z [] h = refl
usual_total x u z (t ∷ ts) h =
    ap (λ (w : Float). raw_total (raw_term true x) (add binary64 z w) ts) (usual_term x u t (both_left (small t) (every small ts) h))
    ∙ usual_total x u (add binary64 z (raw_term false x t)) ts (both_right (small t) (every small ts) h)

abbrev few : Row → Bool
few (row a ts) = every small ts

pub usual_sum : (r : Row) (x : Float) → usual_base x ≡ true → T (few r) → raw_sum true r x ≡ raw_sum false r x
unfolding raw_sum
usual_sum (row a ts) x u h = usual_total x u zero_f ts h

-- ---- a row in p by bare powers

abbrev pub row_in_p : Row → Bool
row_in_p (row in_p ts) = true
row_in_p (row in_ln ts) = false

bare_check : (r : Row) (p : Float) → Bare p → T (row_in_p r) → T (few r) → check (raw_sum true r (raw_argument (argument_in r) p)) ≡ walk_rule r p
unfolding raw_sum walk_rule
bare_check (row in_p ts) p bare i h = sym (sum_check p bare ts h)
bare_check (row in_ln ts) p bare i h = absurd i

-- ---- the table

abbrev some : List Row → Bool
some [] = false
some (r ∷ rs) = true

-- a test that each row of a list passes, the row at any place passes
pub at_every : (test : Row → Bool) (rs : List Row) (k : ℕ) → T (some rs) → T (every test rs) → T (test (at rs k))
unfolding every
at_every test [] k f h = absurd f
at_every test (r ∷ []) k f h = both_left (test r) true h
at_every test (r ∷ s ∷ rs) zero f h = both_left (test r) (every test (s ∷ rs)) h
at_every test (r ∷ s ∷ rs) (suc k) f h = at_every test (s ∷ rs) k tt (both_right (test r) (every test (s ∷ rs)) h)

table_filled : (k : ℕ) → T (filled (row_at k))
unfolding table row_at every
table_filled k = at_every filled table k tt tt

pub table_few : (k : ℕ) → T (few (row_at k))
unfolding table row_at every
table_few k = at_every few table k tt tt

-- ---- a boundary's number, worked raw and checked once

line_check : (p : Float) → check (raw_form false straight p) ≡ straight3ef p
unfolding straight3ef decimal scaled round of_bits
line_check p =
    let product = raw_mul (raw_value (decimal 3_727888004 9) refl) (raw_sub_from p (raw_value (decimal 22_064 3) refl)) in
    sym (raw_add product (raw_value (decimal 647_096 3) refl)).is

form_check : (f : Form) (p : Float) → check (raw_form false f p) ≡ form_rule f p
form_check (tabled k) p = row_check (row_at k) p (table_filled k)
form_check straight p = line_check p

pub boundary_check : (b : Boundary) (p : Float) → check (raw_at b p) ≡ boundary_of b p
boundary_check b p = form_check (form_of b) p

-- the boundaries that are polynomials in p
abbrev pub polynomial : Boundary → Bool
polynomial Ab = false
polynomial Cd = true
polynomial Ef = true
polynomial Gh = true
polynomial Ij = true
polynomial Jk = true
polynomial Mn = true
polynomial Op = false
polynomial Qu = true
polynomial Rx = true
polynomial Uv = true
polynomial Wx = false

abbrev pub form_in_p : Form → Bool
form_in_p (tabled k) = row_in_p (row_at k)
form_in_p straight = true

pub in_p_lem : (b : Boundary) → T (polynomial b) → T (form_in_p (form_of b))
unfolding table row_at
in_p_lem Ab h = absurd h
in_p_lem Cd h = tt
in_p_lem Ef h = tt
in_p_lem Gh h = tt
in_p_lem Ij h = tt
in_p_lem Jk h = tt
in_p_lem Mn h = tt
in_p_lem Op h = absurd h
in_p_lem Qu h = tt
in_p_lem Rx h = tt
in_p_lem Uv h = tt
in_p_lem Wx h = absurd h

bare_form_check : (f : Form) (p : Float) → Bare p → T (form_in_p f) → check (raw_form true f p) ≡ form_rule f p
bare_form_check (tabled k) p bare i = bare_check (row_at k) p bare i (table_few k)
bare_form_check straight p bare i = line_check p

pub polynomial_check : (b : Boundary) (p : Float) → Bare p → T (polynomial b) → check (bare_at b p) ≡ boundary_of b p
polynomial_check b p bare h = bare_form_check (form_of b) p bare (in_p_lem b h)
