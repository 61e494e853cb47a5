-- The logarithm's rule is its steps with no check, checked once, at a number's 53 digits. In order: the checks, m, its places, and the rule. Assumes nothing.
use mathlib.Core.Path.{◌≡◌, refl, sym, ap, ◌∙◌, subst}
use Prim.Native.Nat.{ℕ, suc, ◌+◌, ◌-◌, ◌*◌, ◌^◌, ◌≤◌, ◌<◌}
use native.Mathlib.Nat.{le_trans, le_of_eq, le_of_lt, lt_of_lt_of_le, lt_of_not-le, mul-pos, mul_assoc, mul_right_comm, mul-le-mul_right, mul-lt-mul_of_pos_right, le_of_mul-le-mul_right, lt_of_mul-lt-mul_right, pow-succ'}
use native.Mathlib.Omega.{arith}
use mathlib.Core.Bool.{Bool, true, false, ◌||◌, cond}
use native.Mathlib.Decide.{dec_le}
use lib.Dec.{T, ltb}
use borrow.Author.Tests.{lt-ltb, le-ltb}
use lib.IntN.{ℤ, pos}
use lib.Pow.{pow_pos, pow-add, pow_mono}
use lib.Ieee.{Float, nan, inf, fin, binary64, up, down, minus, size, round, add, sub, mul, div, sum, eq, lt, le, of_int, of_bits}
use lib.Ieee.Bits.{of_bits-fits}
use lib.Ieee.Fits.{round-fits, down_pos}
use lib.Ieee.Exact.{HasValue, round_exact}
use Rattle.common.specs.Outcome.{refused, finite, check}
use Rattle.inverses.specs.Units.{in_units, positive}
use Rattle.rules.specs.Exp.{float, L}
use Rattle.inverses.specs.Log.{odds_from25, ln_steps, places, ln_of, logarithm_rule}
use Rattle.inverses.specs.RawLog.{raw_ln}
use Rattle.common.proofs.Formulas.{raw_div, raw_first, raw_fold, raw_scale, ◌+ʳ◌, ◌*ʳ◌}
use Rattle.rules.proofs.Fields.{same, read_suc}
use Rattle.inverses.proofs.Units.{PartsOf}
use Rattle.inverses.proofs.Whole.{size_is}
use Rattle.inverses.proofs.Signs.{is_zero_lem, is_negative, above}
use Rattle.rules.proofs.Rounds.{small_finite, rescale}

-- ---- the checks come to one at the end: the proof has the shape of the steps

pub ln_check : (m : Float) (e : ℤ) → finite (add binary64 m (float 1)) ≡ true → ln_steps m e ≡ check (raw_ln m (of_int binary64 e))
unfolding ln_steps raw_ln
ln_check m e f =
    let z = raw_div f (raw_first (sub binary64) m (float 1)) (raw_first (add binary64) m (float 1)) in
    let y = z *ʳ z in
    let q = raw_fold (λ _ _ k p. p *ʳ y +ʳ raw_first (div binary64) (float 1) (float k)) (raw_first (div binary64) (float 1) (float 27)) odds_from25 in
    (raw_first (mul binary64) (of_int binary64 e) L +ʳ raw_scale (float 2) z *ʳ q).is

-- ---- m: from 0.75 up to 1.5

-- d * 2^j of the smallest numbers, with j + k = 1022 + e, is x / 2^k
same_size : (x d e j k : ℕ) → d * 2 ^ e ≡ x * 2 ^ 52 → j + k ≡ e + 1022 → x * 2 ^ 1074 ≡ d * 2 ^ j * 2 ^ k
same_size x d e j k p h =
    sym (mul_assoc x (2 ^ 52) (2 ^ 1022)) ∙ ap (λ (y : ℕ). y * 2 ^ 1022) (sym p) ∙ mul_assoc d (2 ^ e) (2 ^ 1022)
    ∙ ap (λ (y : ℕ). d * y) (sym (pow-add 2 e 1022) ∙ ap (λ (y : ℕ). 2 ^ y) (sym h) ∙ pow-add 2 j k) ∙ sym (mul_assoc d (2 ^ j) (2 ^ k))

fine : (d j : ℕ) → d < 2 ^ 53 → j ≤ 1022 → d * 2 ^ j < 2 ^ 2098
fine d j h g = lt_of_lt_of_le (mul-lt-mul_of_pos_right h (pow_pos j)) (le_trans (le_of_eq (sym (pow-add 2 53 j))) (pow_mono {i = 53 + j} {j = 2098} (omega arith)))

module _ (x d e j k : ℕ) (lo : 2 ^ 52 ≤ d) (hi : d < 2 ^ 53) (p : d * 2 ^ e ≡ x * 2 ^ 52) (h : j + k ≡ e + 1022) (small : j ≤ 1022) where
  m_value : HasValue (round binary64 false x (2 ^ k)) false (d * 2 ^ j) (2 ^ 1074)
  m_value =
      rescale (round binary64 false x (2 ^ k)) false x (2 ^ k) (d * 2 ^ j) (2 ^ 1074) (pow_pos k) (sym (same_size x d e j k p h))
      (round_exact binary64 false x (2 ^ k) d j (pow_pos k) hi (fine d j hi small) (same_size x d e j k p h))

  m_is : of_bits binary64 (j * 2 ^ 52 + d) ≡ round binary64 false x (2 ^ k)
  m_is = same (of_bits binary64 (j * 2 ^ 52 + d)) (round binary64 false x (2 ^ k)) false (d * 2 ^ j) (of_bits-fits binary64 (j * 2 ^ 52 + d)) (round-fits binary64 false x (2 ^ k)) (read_suc j d (omega arith) lo hi) m_value

-- m + 1 is finite
at_most : (d j w : ℕ) → d < 2 ^ 53 → j ≤ 1022 → d * 2 ^ j * w ≤ 2 * w * 2 ^ 1074
at_most d j w h g =
    le_trans (mul-le-mul_right w (le_trans (le_of_lt (mul-lt-mul_of_pos_right h (pow_pos j))) (le_trans (le_of_eq (sym (pow-add 2 53 j))) (pow_mono {i = 53 + j} {j = 1075} (omega arith)))))
    (le_of_eq (turn (2 ^ 1074) w))
  where
    turn : (a w : ℕ) → 2 * a * w ≡ 2 * w * a
    turn a w = mul_right_comm 2 a w

plus_one : (m : Float) (d j : ℕ) → d < 2 ^ 53 → j ≤ 1022 → HasValue m false (d * 2 ^ j) (2 ^ 1074) → finite (add binary64 m (float 1)) ≡ true
unfolding add sum of_int round
plus_one nan d j h g v = absurd v
plus_one (inf s) d j h g v = absurd v
plus_one (fin true n i) d j h g v = absurd (subst T v.0 tt)
plus_one (fin false n i) d j h g v =
    small_finite (n * up i * 1 + 1 * down i) (down i * 1) (mul-pos (down_pos i) (pow_pos 0))
    (omega (arith, le_of_mul-le-mul_right {n = 2 * down i} (le_trans (le_of_eq v.1) (at_most d j (down i) h g)) (pow_pos 1074)))

-- ---- the places
size_of : (x d e : ℕ) → 2 ^ 52 ≤ d → d < 2 ^ 53 → d * 2 ^ e ≡ x * 2 ^ 52 → size x ≡ suc e
size_of x d e lo hi p =
    size_is x e
    (le_of_mul-le-mul_right {n = x} (le_trans (le_of_eq (omega arith)) (le_trans (mul-le-mul_right (2 ^ e) lo) (le_of_eq p))) (pow_pos 52))
    (lt_of_mul-lt-mul_right (2 ^ 52) (lt_of_lt_of_le (subst (λ (y : ℕ). y < 2 ^ 53 * 2 ^ e) p (mul-lt-mul_of_pos_right hi (pow_pos e))) (le_of_eq (twice (2 ^ e) ∙ ap (λ (y : ℕ). y * 2 ^ 52) (sym (pow-succ' 2 e))))))
  where
    twice : (a : ℕ) → 2 ^ 53 * a ≡ 2 * a * 2 ^ 52
    twice a = omega arith

module _ (x d e : ℕ) (p : PartsOf x d e) where
  placed : places x ≡ cond (ltb (2 * x) (3 * 2 ^ e)) e (suc e)
  placed =
      ap (λ (z : ℕ). cond (ltb (2 * x) (3 * 2 ^ (z - 1))) (z - 1) z) (size_of x d e p.0 p.1 p.3)
      ∙ ap (λ (z : ℕ). cond (ltb (2 * x) (3 * 2 ^ z)) z (suc e)) (omega arith)

  pub places_low : d < 3 * 2 ^ 51 → places x ≡ e + 0
  places_low h =
      let g : d * 2 ^ e < 3 * 2 ^ 51 * 2 ^ e = mul-lt-mul_of_pos_right h (pow_pos e) in
      placed ∙ ap (λ (b : Bool). cond b e (suc e)) (lt-ltb (2 * x) (3 * 2 ^ e) (omega (arith, p.3, g))) ∙ omega arith

  pub places_high : 3 * 2 ^ 51 ≤ d → places x ≡ e + 1
  places_high h =
      let g : 3 * 2 ^ 51 * 2 ^ e ≤ d * 2 ^ e = mul-le-mul_right (2 ^ e) h in
      placed ∙ ap (λ (b : Bool). cond b e (suc e)) (le-ltb (2 * x) (3 * 2 ^ e) (omega (arith, p.3, g))) ∙ omega arith

  -- the rule at 53 digits, with u = 0 or 1
  abbrev of : ℕ → Float
  of u = raw_ln (of_bits binary64 (1022 * 2 ^ 52 + d - u * 2 ^ 52)) (of_int binary64 (minus (e + u) 1074))

  pub ln_at : (u : ℕ) → u ≤ 1 → places x ≡ e + u → ln_of x ≡ check (of u)
  unfolding ln_of
  ln_at u h k =
      let j = 1022 - u in
      let v = m_value x d e j (e + u) p.0 p.1 p.3 (omega arith) (omega arith) in
      ap (λ (i : ℕ). ln_steps (round binary64 false x (2 ^ i)) (minus i 1074)) k
      ∙ ln_check (round binary64 false x (2 ^ (e + u))) (minus (e + u) 1074) (plus_one (round binary64 false x (2 ^ (e + u))) d j p.1 (omega arith) v)
      ∙ ap (λ (m : Float). check (raw_ln m (of_int binary64 (minus (e + u) 1074))))
      (sym (m_is x d e j (e + u) p.0 p.1 p.3 (omega arith) (omega arith)) ∙ ap (of_bits binary64) (omega arith))

  -- so it is the check of a number
  pub ln_raw : (r : Float) × (ln_of x ≡ check r)
  ln_raw = go (dec_le (3 * 2 ^ 51) d)
    where
      go : Dec (3 * 2 ^ 51 ≤ d) → (r : Float) × (ln_of x ≡ check r)
      go (yes h) = (of 1, ln_at 1 (omega arith) (places_high h))
      go (no h) = (of 0, ln_at 0 (omega arith) (places_low (lt_of_not-le h)))

pub ln_of_lem : (x : Float) → T (positive x) → logarithm_rule x ≡ ln_of (in_units x)
unfolding logarithm_rule
ln_of_lem x t = let z = above x t in rw z.2

pub refused_below : (x : Float) → finite x ≡ true → le x (fin false 0 (pos 0)) ≡ true → logarithm_rule x ≡ refused 5
unfolding logarithm_rule le
refused_below x f = go (lt x (fin false 0 (pos 0))) (eq x (fin false 0 (pos 0))) (λ h. let z = is_negative x f h in rw z.2) (λ h. let z = is_zero_lem x f h in rw z.2)
  where
    go : {A : Type 0} (a b : Bool) → (a ≡ true → A) → (b ≡ true → A) → a || b ≡ true → A
    go true b k l h = k refl
    go false b k l h = l h
