-- The letter near the critical point, for p above p_saturation(643.15) and up to 22.5. At the three f64s that lie just above a printed pressure the choice in
-- f64 takes the branch of the pressures up to it; there the two lines that the branches look at are one to less than the margin. Assumes nothing.
use mathlib.Core.Path.{◌≡◌, refl, sym, ap, ◌∙◌, subst}
use Prim.Native.Nat.{ℕ, ◌*◌, ◌^◌, ◌≤◌, ◌<◌}
use native.Mathlib.Nat.{le_trans, lt_of_le_of_lt, mul-le-mul_right}
use native.Mathlib.Omega.{arith}
use native.Mathlib.Decide.{ℕ_discrete}
use mathlib.Core.Bool.{Bool, true, false, not, cond, true≢false}
use mathlib.Core.List.{[], ◌∷◌}
use lib.Dec.{T, ltb, lit<, lit≤}
use lib.Ieee.{Float, binary64, fits, le, lt, of_bits, round}
use lib.Ieee.Exact.{HasValue}
use lib.Ieee.Positive.{le_trans_positive}
use Rattle.common.specs.Outcome.{Outcome, value, value_in}
use Rattle.common.specs.Decimal.{decimal, scaled}
use Rattle.rules.proofs.Fields.{same}
use Rattle.rounding.specs.Fraction.{Near, scaled_by}
use Rattle.rounding.proofs.Whole.{value_scale}
use Rattle.subregion.specs.declared.Letter.{Letter}
use Rattle.subregion.specs.declared.Letter.TheVariants as letters
use Rattle.r4.specs.Saturation.{T_saturation}
use Rattle.boundaries.specs.Boundary.{boundary_of}
use Rattle.boundaries.specs.declared.Boundary.TheVariants.{Uv, Ef, Wx}
use Rattle.boundary.specs.Choice.{near_rule}
use Rattle.distance.specs.Exact.{Polynomial, ef, uv, temperature, Q}
use Rattle.distance.specs.Letter.{All}
use Rattle.exact_lines.specs.Saturation.{saturation}
use Rattle.exact_lines.specs.Letter.{Line, in_p, line3wx, saturation_line, line_at, above, near_lines, near_letter}
use Rattle.exact.specs.Premises.{Off}
use Rattle.rounding.proofs.Compare.{Sided}
use Rattle.exact.proofs.Judged.{InRange, Judged, Followed, reach, scale_positive, followed, judge_by, judge, judge_all}
use Rattle.exact.proofs.Placed.{Placed}
use Rattle.exact.proofs.Pressures.{lt_is, yes_above, not_above, exact_22_11, exact_22_064, exact_21_9316, exact_21_9010, Ends, at_22_11, at_22_064}
use Rattle.exact.proofs.Pressures.{at_21_9316, at_21_9010}
use Rattle.exact.proofs.BandLetters.{Accepted, near_lines_by, near_letter_by, near_22_11, near_22_064, near_saturated}
use Rattle.exact.proofs.Meetings.{p1, p2, p3, sat1, sat2, sat3, uv1, ef1, wx3, S1, S2, S3, U1, E1, W3, near1, near2, near3, order1}

module _ (p t : Float) (g : Placed p t) where
  abbrev P : ℕ
  P = scaled_by 48 p

  abbrev n : ℕ
  n = scaled_by 43 t

  -- ---- where the lines are compared
  pub wide : (a b : ℕ) → P ≤ a * Q → a ≤ b → P ≤ b * Q
  wide a b h l = le_trans h (mul-le-mul_right Q l)

  pub wx_range : P ≤ 23 * Q → InRange P line3wx
  wx_range m = (more Q g.from_16, lt_of_le_of_lt m (lit< tt))
    where
      more : (Q : ℕ) → 16528 * Q < P * 1000 → 16 * Q ≤ P
      more Q h = omega arith

  pub sat_range : P * 1000 ≤ 22065 * Q → InRange P saturation_line
  sat_range h = (g.upto_100, g.from_16, h)

  near_ranges : (b c d : Bool) → P ≤ 23 * Q → (T (not b) → P * 1000 ≤ 22065 * Q) → All (InRange P) (near_lines_by b c d)
  near_ranges true c d m h = (m, (wide 23 40 m (lit≤ tt), (wx_range m, tt)))
  near_ranges false true true m h = (sat_range (h tt), (m, (wx_range m, tt)))
  near_ranges false true false m h = (sat_range (h tt), (m, tt))
  near_ranges false false true m h = (sat_range (h tt), (wx_range m, tt))
  near_ranges false false false m h = (sat_range (h tt), tt)

  low : T (not (above P 22_064 1000)) → P * 1000 ≤ 22065 * Q
  low h = le_trans (not_above p P g.whole_p 22_064 1000 h) (lit≤ tt)

  pub near_in_range : P ≤ 23 * Q → All (InRange P) (near_lines P)
  near_in_range m = near_ranges (above P 22_064 1000) (above P 21_93161551 (10 ^ 8)) (above P 21_90096265 (10 ^ 8)) m low

  pub accept : (b : Line) → InRange P b → Accepted p b
  accept b r = let f = followed p P g.p_f64 g.whole_p b r in record { number = f.number; is = f.is }

  -- ---- the letter
  module _ (below : Line → Bool) where
    abbrev O : Line → Type 0
    O b = Off b P n (below b)

    j : (b : Line) → InRange P b → O b → Judged p t b (below b)
    j b r s = judge p P g.p_f64 g.whole_p t n g.whole_t b r (below b) s

    -- by what p is above; 22.11 < p ≤ 22.064 is no pressure
    by_ends : (a b c d : Bool) → lt (decimal 22_11 2) p ≡ a → lt (decimal 22_064 3) p ≡ b → lt (decimal 21_93161551 8) p ≡ c → lt (decimal 21_90096265 8) p ≡ d
        → (T a → 2211 * Q < P * 100) → (T (not b) → P * 1000 ≤ 22064 * Q) → P ≤ 23 * Q → All O (near_lines_by b c d) → near_rule p t ≡ value
        (near_letter_by p t below a b c d)
    by_ends a b c d ha hb hc hd f h m s =
        go a b ha hb f h
        (judge_all p P g.p_f64 g.whole_p t n g.whole_t below (near_lines_by b c d) (near_ranges b c d m (λ k. le_trans (h k) (lit≤ tt))) s)
      where
        no_p : (Q : ℕ) → 2211 * Q < P * 100 → P * 1000 ≤ 22064 * Q → ⊥
        no_p Q h l = omega arith

        go : (a b : Bool) → lt (decimal 22_11 2) p ≡ a → lt (decimal 22_064 3) p ≡ b → (T a → 2211 * Q < P * 100) → (T (not b) → P * 1000 ≤ 22064 * Q)
            → All (λ l. Judged p t l (below l)) (near_lines_by b c d) → near_rule p t ≡ value (near_letter_by p t below a b c d)
        go true true ha hb f h k = near_22_11 p t below c d ha k
        go true false ha hb f h k = absurd (no_p Q (f tt) (h tt))
        go false true ha hb f h k = near_22_064 p t below c d ha hb k
        go false false ha hb f h k =
            near_saturated p t below c d ha hb hc hd (accept (in_p uv) m) (accept line3wx (wx_range m)) (accept (in_p ef) (wide 23 40 m (lit≤ tt))) k

    away : Ends P → P ≤ 23 * Q → All O (near_lines P) → near_rule p t ≡ value (near_letter below P)
    away ends m s =
        by_ends (above P 22_11 100) (above P 22_064 1000) (above P 21_93161551 (10 ^ 8)) (above P 21_90096265 (10 ^ 8)) (at_22_11 p P g.whole_p)
        (at_22_064 p P g.whole_p ends) (at_21_9316 p P g.whole_p ends) (at_21_9010 p P g.whole_p ends) (yes_above p P g.whole_p 22_11 100)
        (not_above p P g.whole_p 22_064 1000) m s

    -- ---- at one of the three: p is that f64 c = A / 2^48
    point_is : (c : Float) (A : ℕ) → T (fits binary64 c) → HasValue c false A Q → P ≡ A → p ≡ c
    point_is c A f h e =
        same p c false (P * 2 ^ 1026) g.p_f64 f (value_scale (2 ^ 1026) p false P Q g.whole_p)
        (subst (λ (z : ℕ). HasValue c false (z * 2 ^ 1026) (2 ^ 1074)) (sym e) (value_scale (2 ^ 1026) c false A Q h))

    lt_at : (c : Float) (A B : ℕ) → HasValue c false A Q → P ≡ B → (b : Bool) → ltb A B ≡ b → lt c p ≡ b
    lt_at c A B h e b k = lt_is p P g.whole_p c A h ∙ ap (ltb A) e ∙ k

    above_at : (d k B : ℕ) → P ≡ B → (b : Bool) → above B d k ≡ b → above P d k ≡ b
    above_at d k B e b h = ap (λ (z : ℕ). above z d k) e ∙ h

    one_value : (x y : Float) {o : Outcome Float} → o ≡ value x → o ≡ value y → x ≡ y
    one_value x y h k = ap value_in (sym h ∙ k)

    -- a float near a polynomial is on T's side of it
    beside : (b : Polynomial) (c : Float) (A : ℕ) → P ≡ A → Near c (temperature b A) 1 (10 ^ 8) → O (in_p b) → Sided t c (below (in_p b))
    unfolding line_at
    beside b c A e h s =
        let f : Followed (value c) (λ k. temperature b P) 1 (10 ^ 8) = record {
          number = c;
          is = refl;
          close = λ k deep. subst (λ (z : ℕ). Near c (temperature b z) 1 (10 ^ 8)) (sym e) h;
          positive = λ k deep. scale_positive b P;
        } in
        judge_by p P g.p_f64 g.whole_p t n g.whole_t (lit< tt) f (below (in_p b)) s

    -- ---- 22.064: 3ef is the saturation temperature
    abbrev A1 : ℕ
    A1 = scaled_by 48 p1

    abbrev letter_1 : Outcome Letter
    letter_1 = value (cond (below (in_p uv)) letters.U (cond (below (in_p ef)) letters.Y (cond (below line3wx) letters.Z letters.X)))

    lines_1 : P ≡ A1 → All O (near_lines P) → All O (in_p uv ∷ in_p ef ∷ line3wx ∷ [])
    unfolding decimal scaled round scaled_by
    lines_1 e s = rw (above_at 22_064 1000 A1 e true refl) at s

    is_letter_1 : P ≡ A1 → value (near_letter below P) ≡ letter_1
    unfolding decimal scaled round scaled_by
    is_letter_1 e = rw (above_at 22_11 100 A1 e false refl, above_at 22_064 1000 A1 e true refl)

    -- T below 3uv is below 3ef
    ordered : p ≡ p1 → (x y : Float) → boundary_of Uv p ≡ value x → boundary_of Ef p ≡ value y → le t x ≡ below (in_p uv) → le t y ≡ below (in_p ef)
        → below (in_p uv) ≡ true → below (in_p ef) ≡ false → ⊥
    unfolding of_bits
    ordered q x y h k a b u f =
        let x_is : x ≡ U1 = one_value x U1 h (ap (boundary_of Uv) q ∙ uv1) in
        let y-is : y ≡ E1 = one_value y E1 k (ap (boundary_of Ef) q ∙ ef1) in
        let lower : T (le t U1) = subst (λ (z : Float). T (le t z)) x_is (subst T (sym (a ∙ u)) tt) in
        subst T (sym (ap (le t) y-is) ∙ b ∙ f) (le_trans_positive t U1 E1 g.positive_t tt tt lower order1)

    mixed : (u e w : Bool) → (u ≡ true → e ≡ false → ⊥)
        → cond e (cond u letters.U letters.Y) (cond w letters.Z letters.X) ≡ cond u letters.U (cond e letters.Y (cond w letters.Z letters.X))
    mixed true true w f = refl
    mixed true false w f = absurd (f refl refl)
    mixed false true w f = refl
    mixed false false w f = refl

    at_1 : P ≡ A1 → P ≤ 23 * Q → All O (in_p uv ∷ in_p ef ∷ line3wx ∷ []) → near_rule p t ≡ letter_1
    unfolding decimal scaled round scaled_by near_rule fits
    at_1 e m s =
        let q : p ≡ p1 = point_is p1 A1 tt exact_22_064 e in
        let u = j (in_p uv) m s.0 in
        let f = j (in_p ef) (wide 23 40 m (lit≤ tt)) s.1.0 in
        let w = j line3wx (wx_range m) s.1.1.0 in
        let sat = beside ef S1 A1 e near1 s.1.0 in
        rw (u.is, w.is, f.is, ap T_saturation q ∙ sat1)
        (rw (
          lt_at (decimal 22_11 2) (scaled_by 48 (decimal 22_11 2)) A1 exact_22_11 e false refl,
          lt_at p1 A1 A1 exact_22_064 e false refl,
          lt_at p2 (scaled_by 48 p2) A1 exact_21_9316 e true refl,
          lt_at p3 (scaled_by 48 p3) A1 exact_21_9010 e true refl,
          sat.upto,
          u.sided.under,
          w.sided.under,
        )
        (ap value
        (mixed (below (in_p uv)) (below (in_p ef)) (below line3wx) (ordered q u.number f.number u.is f.is u.sided.upto f.sided.upto))))

    -- ---- 21.93161551: 3uv is the saturation temperature
    abbrev A2 : ℕ
    A2 = scaled_by 48 p2

    abbrev letter_2 : Outcome Letter
    letter_2 = value (cond (below saturation_line) (cond (below (in_p uv)) letters.U letters.Y) (cond (below line3wx) letters.Z letters.X))

    lines_2 : P ≡ A2 → All O (near_lines P) → All O (saturation_line ∷ in_p uv ∷ line3wx ∷ [])
    unfolding decimal scaled round scaled_by
    lines_2 e s =
        rw (above_at 22_064 1000 A2 e false refl, above_at 21_93161551 (10 ^ 8) A2 e true refl, above_at 21_90096265 (10 ^ 8) A2 e true refl) at s

    is_letter_2 : P ≡ A2 → value (near_letter below P) ≡ letter_2
    unfolding decimal scaled round scaled_by
    is_letter_2 e =
        rw (
          above_at 22_11 100 A2 e false refl,
          above_at 22_064 1000 A2 e false refl,
          above_at 21_93161551 (10 ^ 8) A2 e true refl,
          above_at 21_90096265 (10 ^ 8) A2 e true refl,
        )

    same_2 : (s u w : Bool) → s ≡ u
        → cond s letters.U (cond w letters.Z letters.X) ≡ cond s (cond u letters.U letters.Y) (cond w letters.Z letters.X)
    same_2 true true w e = refl
    same_2 true false w e = absurd (true≢false e)
    same_2 false u w e = refl

    upto_22_065 : (A : ℕ) → A * 1000 ≤ 22065 * Q → P ≡ A → P * 1000 ≤ 22065 * Q
    upto_22_065 A h e = subst (λ (z : ℕ). z * 1000 ≤ 22065 * Q) (sym e) h

    at_2 : P ≡ A2 → P ≤ 23 * Q → All O (saturation_line ∷ in_p uv ∷ line3wx ∷ []) → near_rule p t ≡ letter_2
    unfolding decimal scaled round scaled_by near_rule fits
    at_2 e m s =
        let q : p ≡ p2 = point_is p2 A2 tt exact_21_9316 e in
        let a = j saturation_line (sat_range (upto_22_065 A2 (lit≤ tt) e)) s.0 in
        let u = accept (in_p uv) m in
        let f = accept (in_p ef) (wide 23 40 m (lit≤ tt)) in
        let w = j line3wx (wx_range m) s.1.1.0 in
        let by-uv = beside uv S2 A2 e near2 s.1.0 in
        let one : below saturation_line ≡ below (in_p uv) =
        sym a.sided.upto ∙ ap (le t) (one_value a.number S2 a.is (ap T_saturation q ∙ sat2)) ∙ by-uv.upto in
        rw (u.is, w.is, f.is, a.is)
        (rw (
          lt_at (decimal 22_11 2) (scaled_by 48 (decimal 22_11 2)) A2 exact_22_11 e false refl,
          lt_at p1 (scaled_by 48 p1) A2 exact_22_064 e false refl,
          lt_at p2 A2 A2 exact_21_9316 e false refl,
          lt_at p3 (scaled_by 48 p3) A2 exact_21_9010 e true refl,
          a.sided.upto,
          w.sided.under,
        )
        (ap value (same_2 (below saturation_line) (below (in_p uv)) (below line3wx) one)))

    -- ---- 21.90096265: 3wx is the saturation temperature
    abbrev A3 : ℕ
    A3 = scaled_by 48 p3

    abbrev letter_3 : Outcome Letter
    letter_3 = value (cond (below saturation_line) letters.U (cond (below line3wx) letters.Z letters.X))

    lines_3 : P ≡ A3 → All O (near_lines P) → All O (saturation_line ∷ line3wx ∷ [])
    unfolding decimal scaled round scaled_by
    lines_3 e s =
        rw (above_at 22_064 1000 A3 e false refl, above_at 21_93161551 (10 ^ 8) A3 e false refl, above_at 21_90096265 (10 ^ 8) A3 e true refl) at s

    is_letter_3 : P ≡ A3 → value (near_letter below P) ≡ letter_3
    unfolding decimal scaled round scaled_by
    is_letter_3 e =
        rw (
          above_at 22_11 100 A3 e false refl,
          above_at 22_064 1000 A3 e false refl,
          above_at 21_93161551 (10 ^ 8) A3 e false refl,
          above_at 21_90096265 (10 ^ 8) A3 e true refl,
        )

    same_3 : (s w : Bool) → s ≡ w → cond s letters.U letters.X ≡ cond s letters.U (cond w letters.Z letters.X)
    same_3 true w e = refl
    same_3 false true e = absurd (true≢false (sym e))
    same_3 false false e = refl

    at_3 : P ≡ A3 → P ≤ 23 * Q → All O (saturation_line ∷ line3wx ∷ []) → near_rule p t ≡ letter_3
    unfolding decimal scaled round scaled_by near_rule line_at fits
    at_3 e m s =
        let q : p ≡ p3 = point_is p3 A3 tt exact_21_9010 e in
        let r = sat_range (upto_22_065 A3 (lit≤ tt) e) in
        let a = j saturation_line r s.0 in
        let u = accept (in_p uv) m in
        let f = accept (in_p ef) (wide 23 40 m (lit≤ tt)) in
        let w = j line3wx (wx_range m) s.1.0 in
        let v = followed p P g.p_f64 g.whole_p saturation_line r in
        let v-is : v.number ≡ S3 = one_value v.number S3 v.is (ap T_saturation q ∙ sat3) in
        let near-wx : Followed (value W3) (λ k. saturation k P) 2 reach = record {
          number = W3;
          is = refl;
          close = λ k deep. near3 (saturation k P) (subst (λ (z : Float). Near z (saturation k P) 1 reach) v-is (v.close k deep));
          positive = v.positive;
        } in
        let by-wx : Sided t W3 (below saturation_line) =
        judge_by p P g.p_f64 g.whole_p t n g.whole_t {θ = λ k. saturation k P} (lit< tt) near-wx (below saturation_line) s.0 in
        let one : below saturation_line ≡ below line3wx =
        sym by-wx.upto ∙ ap (le t) (sym (one_value w.number W3 w.is (ap (boundary_of Wx) q ∙ wx3))) ∙ w.sided.upto in
        rw (u.is, w.is, f.is, a.is)
        (rw (
          lt_at (decimal 22_11 2) (scaled_by 48 (decimal 22_11 2)) A3 exact_22_11 e false refl,
          lt_at p1 (scaled_by 48 p1) A3 exact_22_064 e false refl,
          lt_at p2 (scaled_by 48 p2) A3 exact_21_9316 e false refl,
          lt_at p3 A3 A3 exact_21_9010 e false refl,
          a.sided.upto,
        )
        (ap value (same_3 (below saturation_line) (below line3wx) one)))

    pub near_is : P ≤ 23 * Q → All O (near_lines P) → near_rule p t ≡ value (near_letter below P)
    near_is m s = go (ℕ_discrete P A1) (ℕ_discrete P A2) (ℕ_discrete P A3)
      where
        go : Dec (P ≡ A1) → Dec (P ≡ A2) → Dec (P ≡ A3) → near_rule p t ≡ value (near_letter below P)
        go (yes e) b c = at_1 e m (lines_1 e s) ∙ sym (is_letter_1 e)
        go (no a) (yes e) c = at_2 e m (lines_2 e s) ∙ sym (is_letter_2 e)
        go (no a) (no b) (yes e) = at_3 e m (lines_3 e s) ∙ sym (is_letter_3 e)
        go (no a) (no b) (no c) = away (record { not_22_064 = a; not_21_9316 = b; not_21_9010 = c }) m s
