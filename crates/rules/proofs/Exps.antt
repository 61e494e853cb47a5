-- The exponential: the nearest whole number of a quotient, the bound that the range gives it, 2^k, and that the rule's checks come to one at the end.
-- Assumes nothing.
use mathlib.Core.Path.{◌≡◌, refl, sym, ap, ◌∙◌, subst}
use mathlib.Core.Logic.{◌⊎◌, inl, inr}
use Prim.Native.Nat.{ℕ, zero, suc, ◌+◌, ◌-◌, ◌*◌, ◌^◌, ◌≤◌, ◌<◌}
use native.Mathlib.Nat.{le_trans, le_of_eq, lt_of_lt_of_le, lt_of_le_of_lt, zero-lt-suc, zero-mul, one-mul, mul-one, mul-pos, mul_comm, mul_assoc, mul-le-mul_left}
use native.Mathlib.Omega.{arith}
use mathlib.Core.Bool.{Bool, true, false, not, ◌&&◌, cond}
use lib.Dec.{T, leb, ltb, leb→le, le→leb, lt→ltb, lit≤, lit<}
use lib.IntN.{ℤ, pos, negsuc, neg_ℤ, nat_abs, ◌+ℤ◌, ◌-ℤ◌}
use mir.Syntax.{w64}
use mir.Val.{SFits, to_z, of_z}
use mir.ValLaws.{to_z-of_z}
use Rattle.std.specs.Float.{float_with_sign, round_with, round_ties_even}
use lib.Ieee.Back.{positive_back}
use borrow.Author.Tests.{lt-ltb, le-ltb}
use lib.Pow.{pow_pos, pow-add, pow_mono, pow-lt}
use lib.Ieee.{Float, nan, inf, fin, binary64, up, down, fits, nan_bits, of_bits, round, neg, mul, div, of_int, in_float, in_signed, to_signed, le, lt}
use lib.Ieee.Bits.{of_bits-fits}
use lib.Ieee.Fits.{and_i, up_pos, down_pos}
use lib.Ieee.Nearest.{closest, closest_same, closest_mono}
use lib.Ieee.Order.{round_mono}
use Rattle.common.specs.Outcome.{Outcome, value, refused, finite, check}
use Rattle.common.specs.Range.{only_rule}
use Rattle.rules.specs.Exp.{float, L, whole_size, with_sign, nearest_whole, two_to, from14, exp_steps}
use Rattle.rules.specs.RawExp.{raw_exp, at_most1010}
use Rattle.common.proofs.Laws.{never, check_kept}
use Rattle.common.proofs.Calls.{no_value}
use Rattle.common.proofs.Formulas.{raw_value, raw_first, raw_fold, raw_add_from, raw_sub_from, raw_by, raw_times, ◌*ʳ◌}
use Rattle.rules.proofs.Fields.{no_nan_bits, read_suc, same}
use Rattle.rules.proofs.Rounds.{round_neg, round_shape, small_finite, le_sizes, ge_sizes}

-- ---- the nearest whole number: the size, rounded and cast; and its sign

pub rounded : (q r : Float) → T (at_most1010 q) → r ≡ float_with_sign false q → round_ties_even binary64 r ≡ of_int binary64 (pos (whole_size q))
unfolding round_with float_with_sign of_int
rounded nan r t e = absurd t
rounded (inf s) r t e = absurd t
rounded (fin s m e) r t h = rw h

pub whole_le : (q : Float) → T (at_most1010 q) → whole_size q ≤ 1010
whole_le nan t = absurd t
whole_le (inf s) t = absurd t
whole_le (fin s m e) t = closest_mono (m * up e) (down e) 1010 1 (down_pos e) (zero-lt-suc 0) (le_trans (le_of_eq (mul-one (m * up e))) (leb→le (m * up e) (1010 * down e) t))

pub cast : (n : ℕ) (r : Float) → n ≤ 1010 → r ≡ of_int binary64 (pos n) → T (in_signed binary64 63 r) × (to_signed 63 r ≡ pos n)
unfolding in_float
cast n r l e = rw e (positive_back binary64 63 n (le→leb n (2 ^ 53) (omega arith)) (omega arith))

zero_less : (n : ℕ) → pos 0 -ℤ pos n ≡ neg_ℤ (pos n)
zero_less zero = refl
zero_less (suc n) = rw (lt-ltb 0 (suc n) (omega arith)) (ap negsuc (omega arith))

small_fits : (n : ℕ) → n ≤ 1010 → SFits w64 (pos n)
small_fits n l = record { sfits = omega arith }

turned_fits : (n : ℕ) → n ≤ 1010 → SFits w64 (neg_ℤ (pos n))
turned_fits zero l = record { sfits = omega arith }
turned_fits (suc n) l = record { sfits = omega arith }

turned_size : (n : ℕ) → nat_abs (neg_ℤ (pos n)) ≡ n
turned_size zero = refl
turned_size (suc n) = refl

pub crosses : (k : ℤ) → nat_abs k ≤ 1010 → to_z w64 (of_z w64 k) ≡ k
crosses (pos n) l = to_z-of_z w64 (pos n) (small_fits n l)
crosses (negsuc i) l = to_z-of_z w64 (negsuc i) (turned_fits (suc i) l)

-- z as it was cast, and 0 - z
module _ (n : ℕ) (z : ℤ) (l : n ≤ 1010) (e : z ≡ pos n) where
  pub back : to_z w64 (of_z w64 z) ≡ pos n
  back = rw e (to_z-of_z w64 (pos n) (small_fits n l))

  pub less_fits : SFits w64 (pos 0 -ℤ to_z w64 (of_z w64 z))
  less_fits = rw (back, zero_less n) (turned_fits n l)

  pub less_back : to_z w64 (of_z w64 (pos 0 -ℤ to_z w64 (of_z w64 z))) ≡ neg_ℤ (pos n)
  less_back = rw (back, zero_less n) (to_z-of_z w64 (neg_ℤ (pos n)) (turned_fits n l))

  pub less_small : nat_abs (to_z w64 (of_z w64 (pos 0 -ℤ to_z w64 (of_z w64 z)))) ≤ 1010
  less_small = rw (less_back, turned_size n) l

-- ---- the range: x from -700 to 700
l_is : L ≡ fin false 6243314768165359 (negsuc 52)
unfolding L round
l_is = refl

div_l : (s : Bool) (m : ℕ) (e : ℤ) → div binary64 (fin s m e) (fin false 6243314768165359 (negsuc 52)) ≡ round binary64 s (m * up e * 2 ^ 53) (6243314768165359 * down e)
unfolding div
div_l true m e = refl
div_l false m e = refl

-- 700 / L
end_is : round binary64 false (700 * 2 ^ 53) 6243314768165359 ≡ fin false 1110381980954531 (negsuc 39)
unfolding round
end_is = refl

abbrev quotient : Bool → ℕ → ℤ → Float
quotient s m e = round binary64 s (m * up e * 2 ^ 53) (6243314768165359 * down e)

small_quotient : (m : ℕ) (e : ℤ) → m * up e ≤ 700 * down e → T (at_most1010 (quotient false m e))
small_quotient m e h = go (round_shape binary64 false (m * up e * 2 ^ 53) (6243314768165359 * down e))
  where
    den : 0 < 6243314768165359 * down e
    den = mul-pos (lit< {m = 0} {n = 6243314768165359} tt) (down_pos e)

    most : T (le (quotient false m e) (fin false 1110381980954531 (negsuc 39)))
    most =
        subst (λ (x : Float). T (le (quotient false m e) x)) end_is
        (round_mono binary64 (m * up e * 2 ^ 53) (6243314768165359 * down e) (700 * 2 ^ 53) 6243314768165359 den (lit< {m = 0} {n = 6243314768165359} tt) (omega arith))

    go : (quotient false m e ≡ inf false) ⊎ ((n : ℕ) × (d : ℤ) × (quotient false m e ≡ fin false n d)) → T (at_most1010 (quotient false m e))
    go (inl z) = never (sym (ap finite (sym z) ∙ small_finite (m * up e * 2 ^ 53) (6243314768165359 * down e) den (omega arith)))
    go (inr z) =
        rw z.2
        (le→leb (z.0 * up z.1) (1010 * down z.1)
        (omega (arith, le_sizes z.0 z.1 1110381980954531 (negsuc 39) (subst (λ (x : Float). T (le x (fin false 1110381980954531 (negsuc 39)))) z.2 most))))

at_most1010_neg : (x : Float) → T (at_most1010 x) → T (at_most1010 (neg x))
unfolding neg
at_most1010_neg nan t = t
at_most1010_neg (inf s) t = t
at_most1010_neg (fin s m e) t = t

sized : (s : Bool) (m : ℕ) (e : ℤ) → m * up e ≤ 700 * down e → T (at_most1010 (quotient s m e))
sized false m e h = small_quotient m e h
sized true m e h = subst (λ (x : Float). T (at_most1010 x)) (round_neg binary64 false (m * up e * 2 ^ 53) (6243314768165359 * down e)) (at_most1010_neg _ (small_quotient m e h))

-- 700 is 175 * 4
abbrev hundreds : Bool → Float
hundreds s = fin s 175 (pos 2)

in_range_lem : (s : Bool) (m : ℕ) (e : ℤ) → T (le (hundreds true) (fin s m e)) → T (le (fin s m e) (hundreds false)) → m * up e ≤ 700 * down e
in_range_lem false m e g h = le_trans (le_of_eq (sym (mul-one (m * up e)))) (le_sizes m e 175 (pos 2) h)
in_range_lem true m e g h = le_trans (le_of_eq (sym (mul-one (m * up e)))) (ge_sizes 175 (pos 2) m e g)

-- an x that the range's test lets through
through : {A : Type 0} (a b : Bool) → (T a → T b → A) → ◌≡◌ {A = Outcome Unit} (cond (a && b) (value tt) (refused 2)) (value tt) → A
through true true k e = k tt tt
through true false k e = absurd (no_value e)
through false b k e = absurd (no_value e)

pub quotient_small : (x : Float) → only_rule (neg (float 700)) (float 700) x ≡ value tt → T (at_most1010 (div binary64 x L))
unfolding neg of_int round
quotient_small nan h = absurd (no_value h)
quotient_small (inf s) h = absurd (no_value h)
quotient_small (fin s m e) h = rw (l_is, div_l s m e) (sized s m e (through (le (hundreds true) (fin s m e)) (le (fin s m e) (hundreds false)) (in_range_lem s m e) h))

pub small_is_finite : (q : Float) → T (at_most1010 q) → finite q ≡ true
small_is_finite nan t = absurd t
small_is_finite (inf s) t = absurd t
small_is_finite (fin s m e) t = refl

-- ---- k with its sign
nothing : (e : ℤ) → closest (zero * up e) (down e) ≡ 0
nothing e = closest_same (zero * up e) (down e) 0 1 (down_pos e) (zero-lt-suc 0) (omega (arith, zero-mul (up e)))

pub signed_whole : (q : Float) → finite q ≡ true → with_sign (lt q (fin false 0 (pos 0))) (whole_size q) ≡ nearest_whole q
unfolding nearest_whole lt
signed_whole nan f = never (sym f)
signed_whole (inf s) f = never (sym f)
signed_whole (fin false m e) f = ap (λ (b : Bool). with_sign b (closest (m * up e) (down e))) (le-ltb (m * up e * 1) (0 * down e) (omega arith))
signed_whole (fin true zero e) f = rw (nothing e) (go (ltb 0 (zero * up e * 1 + 0 * down e)))
  where
    go : (b : Bool) → with_sign b 0 ≡ with_sign true 0
    go true = refl
    go false = refl
signed_whole (fin true (suc m) e) f =
    ap (λ (b : Bool). with_sign b (closest (suc m * up e) (down e))) (lt-ltb 0 (suc m * up e * 1 + 0 * down e) (omega (arith, mul-pos (zero-lt-suc m) (up_pos e))))

-- ---- 2^k by its bits
fits_up : (n : ℕ) → n ≤ 1010 → T (fits binary64 (fin false 1 (pos n)))
unfolding fits
fits_up n h = lt→ltb (1 * 2 ^ n) (2 ^ 1024 * 1) (lt_of_le_of_lt (le_of_eq (one-mul (2 ^ n))) (pow-lt {i = n} {j = 1024} (omega arith)))

fits_down : (i : ℕ) → i < 1010 → T (fits binary64 (fin false 1 (negsuc i)))
unfolding fits
fits_down i h =
    and_i (leb (2 ^ suc i) (2 ^ 1074)) (ltb 1 (2 ^ 1024 * 2 ^ suc i)) (le→leb (2 ^ suc i) (2 ^ 1074) (pow_mono {i = suc i} {j = 1074} (omega arith)))
    (lt→ltb 1 (2 ^ 1024 * 2 ^ suc i) (lt_of_lt_of_le (lit< {m = 1} {n = 2 ^ 1024} tt) (le_trans (le_of_eq (sym (mul-one (2 ^ 1024)))) (mul-le-mul_left (2 ^ 1024) (pow_pos (suc i))))))

shifted : (k : ℕ) → k * 2 ^ 52 + 2 ^ 52 ≡ (k + 1) * 2 ^ 52
shifted k = omega arith

pub two_up : (n : ℕ) → n ≤ 1010 → of_bits binary64 ((1023 + n) * 2 ^ 52) ≡ fin false 1 (pos n)
two_up n h =
    ap (of_bits binary64) (sym (shifted (1022 + n) ∙ ap (λ (y : ℕ). y * 2 ^ 52) (turn n)))
    ∙ same (of_bits binary64 ((1022 + n) * 2 ^ 52 + 2 ^ 52)) (fin false 1 (pos n)) false (2 ^ 52 * 2 ^ (1022 + n))
    (of_bits-fits binary64 ((1022 + n) * 2 ^ 52 + 2 ^ 52)) (fits_up n h) (read_suc (1022 + n) (2 ^ 52) (omega arith) (lit≤ tt) (lit< tt))
    (refl, ap (λ (y : ℕ). y * 2 ^ 1074) (one-mul (2 ^ n)) ∙ mul_comm (2 ^ n) (2 ^ 1074) ∙ mul_assoc (2 ^ 52) (2 ^ 1022) (2 ^ n) ∙ ap (λ (y : ℕ). 2 ^ 52 * y) (sym (pow-add 2 1022 n)) ∙ sym (mul-one (2 ^ 52 * 2 ^ (1022 + n))))
  where
    turn : (n : ℕ) → 1022 + n + 1 ≡ 1023 + n
    turn n = omega arith

pub two_down : (i : ℕ) → i < 1010 → of_bits binary64 ((1023 - suc i) * 2 ^ 52) ≡ fin false 1 (negsuc i)
two_down i h =
    ap (of_bits binary64) (sym (shifted (1022 - suc i) ∙ ap (λ (y : ℕ). y * 2 ^ 52) (turn i h)))
    ∙ same (of_bits binary64 ((1022 - suc i) * 2 ^ 52 + 2 ^ 52)) (fin false 1 (negsuc i)) false (2 ^ 52 * 2 ^ (1022 - suc i))
    (of_bits-fits binary64 ((1022 - suc i) * 2 ^ 52 + 2 ^ 52)) (fits_down i h) (read_suc (1022 - suc i) (2 ^ 52) (omega arith) (lit≤ tt) (lit< tt))
    (refl, sym (mul_assoc (2 ^ 52) (2 ^ (1022 - suc i)) (2 ^ suc i) ∙ ap (λ (y : ℕ). 2 ^ 52 * y) (sym (pow-add 2 (1022 - suc i) (suc i)) ∙ ap (λ (y : ℕ). 2 ^ y) (back i h))))
  where
    turn : (i : ℕ) → i < 1010 → 1022 - suc i + 1 ≡ 1023 - suc i
    turn i h = omega arith

    back : (i : ℕ) → i < 1010 → 1022 - suc i + suc i ≡ 1022
    back i h = omega arith

-- the exponent's field of 2^k
abbrev field : ℤ → ℕ
field (pos n) = 1023 + n
field (negsuc i) = 1023 - suc i

raised : (k : ℤ) → nat_abs k ≤ 1010 → SFits w64 k → to_z w64 (of_z w64 (pos 1023 +ℤ to_z w64 (of_z w64 k))) ≡ pos (field k)
raised (pos n) l f = rw (to_z-of_z w64 (pos n) f) (to_z-of_z w64 (pos (1023 + n)) (record { sfits = omega arith }))
raised (negsuc i) l f =
    rw (to_z-of_z w64 (negsuc i) f, le-ltb 1023 (suc i) (omega arith)) (to_z-of_z w64 (pos (1023 - suc i)) (record { sfits = omega arith }))

of_field : (k : ℤ) → nat_abs k ≤ 1010 → of_bits binary64 (field k * 2 ^ 52) ≡ fin false 1 k
of_field (pos n) l = two_up n l
of_field (negsuc i) l = two_down i (omega arith)

field_small : (k : ℤ) → nat_abs k ≤ 1010 → field k < 2047
field_small (pos n) l = omega arith
field_small (negsuc i) l = omega arith

module _ (k : ℤ) (l : nat_abs k ≤ 1010) (f : SFits w64 k) where
  pub two_of : of_bits binary64 (nat_abs (to_z w64 (of_z w64 (pos 1023 +ℤ to_z w64 (of_z w64 k)))) * 2 ^ 52) ≡ fin false 1 k
  two_of = rw (raised k l f) (of_field k l)

  pub no_nan_of : T (not (nan_bits binary64 (nat_abs (to_z w64 (of_z w64 (pos 1023 +ℤ to_z w64 (of_z w64 k)))) * 2 ^ 52)))
  no_nan_of = rw (raised k l f) (no_nan_bits (field k * 2 ^ 52) (let h = field_small k l in omega arith))

-- ---- the checks come to one at the end: the proof has the shape of the steps

one_finite : finite (float 1) ≡ true
unfolding of_int round
one_finite = refl

pub exp_check : (x : Float) → only_rule (neg (float 700)) (float 700) x ≡ value tt
    → exp_steps x ≡ check (raw_exp x (of_int binary64 (nearest_whole (div binary64 x L))) (two_to (nearest_whole (div binary64 x L))))
unfolding exp_steps raw_exp
exp_check x f =
    let k = nearest_whole (div binary64 x L) in
    let r = raw_sub_from x (raw_first (mul binary64) (of_int binary64 k) L) in
    let s = raw_fold (λ _ _ j p. raw_add_from (float 1) (raw_by (float j) (r *ʳ p))) (raw_value (float 1) one_finite) from14 in
    rw (check_kept (div binary64 x L) (small_is_finite (div binary64 x L) (quotient_small x f))) (raw_times (two_to k) s).is
