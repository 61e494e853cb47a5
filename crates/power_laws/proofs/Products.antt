-- Where a power is not small, no product on the way to it is. With a base of size 1 at most every product is at most its factors in size, and the last r
-- takes all of them up; with a base of size 1 at least every product is, or is lost, and then so is the power. In order: a product beside its factors, the
-- bits with any such notion of a bad product, the two cases, and the law. Assumes nothing.
use mathlib.Core.Path.{◌≡◌, refl, sym, ap, ◌∙◌, subst}
use mathlib.Core.Logic.{◌⊎◌, inl, inr}
use mathlib.Core.Bool.{Bool, true, false, not, ◌&&◌}
use mathlib.Core.List.{List, [], ◌∷◌}
use Prim.Native.Nat.{ℕ, zero, suc, ◌*◌, ◌/◌, ◌%◌, ◌^◌, ◌≤◌, ◌<◌}
use native.Mathlib.Nat.{le_trans, le_of_eq, le_of_lt, mul-one, one-mul, mul-pos, mul_comm, mul_assoc, mul-le-mul, mul-le-mul_right, mul-le-mul_left, pow-suc}
use native.Mathlib.Omega.{arith}
use lib.Dec.{T, leb}
use lib.IntN.{ℤ, pos}
use lib.Pow.{pow_pos}
use lib.Ieee.{Float, nan, inf, fin, binary64, up, down, size, round, mul, le, lt, eq, fits, unlike}
use lib.Ieee.Digits.{size-lt, size_reaches}
use lib.Ieee.Fits.{down_pos, mul-fits}
use lib.Ieee.Order.{round_mono}
use lib.Ieee.Positive.{num, den}
use borrow.Author.Tests.{eq-eqb, leb-true, leb-false}
use Rattle.common.specs.Outcome.{finite}
use Rattle.common.proofs.Laws.{Lost, never, mul_left, mul_right}
use Rattle.sizes.proofs.Band.{round_size, of_finite}
use Rattle.sizes.proofs.Most.{Most, mul_most}
use Rattle.rules.specs.Power.{one, odd, lowest, bits}
use Rattle.rules.specs.RawPower.{over_bits}
use Rattle.rules.proofs.Rounds.{round_shape, le_sizes}
use Rattle.power_laws.specs.Laws.{every_product, products}
use Rattle.power_laws.proofs.Again.{other_sign, again}

-- ---- a product beside its factors

-- z is finite, and at most x in size
pub record Under (z x : Float) : Type 0 where
  pub kept : finite z ≡ true
  pub most : num z * den x ≤ num x * den z

-- a rounded fraction that is at most a number of the format
pub rounded_under : (s : Bool) (N D : ℕ) (t : Bool) (n : ℕ) (d : ℤ) → T (fits binary64 (fin t n d)) → 0 < D → N * down d ≤ n * up d * D
    → Under (round binary64 s N D) (fin t n d)
rounded_under s N D t n d h P l =
    let z = round binary64 false N D in
    let below = subst (λ (y : Float). T (le z y)) (again false n d (other_sign t false n d h)) (round_mono binary64 N D (n * up d) (down d) P (down_pos d) l) in
    let e = round_size N D s in
    let u = by_shape z (round_shape binary64 false N D) below in
    record { kept = e.lost ∙ u.kept; most = rw (e.over, e.under) u.most }
  where
    by_shape : (z : Float) → (z ≡ inf false) ⊎ ((m : ℕ) × (e : ℤ) × (z ≡ fin false m e)) → T (le z (fin false n d)) → Under z (fin t n d)
    by_shape z (inl i) b = absurd (unfold le lt eq in subst (λ (y : Float). T (le y (fin false n d))) i b)
    by_shape z (inr v) b =
        subst (λ (y : Float). Under y (fin t n d)) (sym v.2)
        (record { kept = refl; most = le_sizes v.0 v.1 n d (subst (λ (y : Float). T (le y (fin false n d))) v.2 b) })

by_right : (A B C D : ℕ) → A ≤ 1 * C → A * B * D ≤ B * (C * D)
by_right A B C D h =
    le_trans (mul-le-mul_right D (mul-le-mul_right B h)) (le_of_eq
    (ap (λ (x : ℕ). x * B * D) (one-mul C) ∙ ap (λ (x : ℕ). x * D) (mul_comm C B) ∙ mul_assoc B C D))

by_left : (A B C D : ℕ) → B ≤ 1 * D → A * B * C ≤ A * (C * D)
by_left A B C D h =
    le_trans (mul-le-mul_right C (mul-le-mul_left A h)) (le_of_eq
    (ap (λ (x : ℕ). A * x * C) (one-mul D) ∙ mul_assoc A D C ∙ ap (λ (x : ℕ). A * x) (mul_comm D C)))

-- where one factor is at most 1 in size
under_right : (r x : Float) → Most 0 r → finite x ≡ true → T (fits binary64 x) → Under (mul binary64 r x) x
under_right r x b f h = of_finite (λ r x. Most 0 r → T (fits binary64 x) → Under (mul binary64 r x) x) r x b.kept f by_parts b h
  where
    by_parts : (s : Bool) (m : ℕ) (e : ℤ) (t : Bool) (n : ℕ) (d : ℤ) → Most 0 (fin s m e) → T (fits binary64 (fin t n d))
        → Under (mul binary64 (fin s m e) (fin t n d)) (fin t n d)
    by_parts s m e t n d b h =
        unfold mul in rounded_under (unlike s t) (m * up e * (n * up d)) (down e * down d) t n d h (mul-pos (down_pos e) (down_pos d))
        (by_right (m * up e) (n * up d) (down e) (down d) b.most)

under_left : (r x : Float) → finite r ≡ true → T (fits binary64 r) → Most 0 x → Under (mul binary64 r x) r
under_left r x f h b = of_finite (λ r x. T (fits binary64 r) → Most 0 x → Under (mul binary64 r x) r) r x f b.kept by_parts h b
  where
    by_parts : (s : Bool) (m : ℕ) (e : ℤ) (t : Bool) (n : ℕ) (d : ℤ) → T (fits binary64 (fin s m e)) → Most 0 (fin t n d)
        → Under (mul binary64 (fin s m e) (fin t n d)) (fin s m e)
    by_parts s m e t n d h b =
        unfold mul in rounded_under (unlike s t) (m * up e * (n * up d)) (down e * down d) s m e h (mul-pos (down_pos e) (down_pos d))
        (by_left (m * up e) (n * up d) (down e) (down d) b.most)

-- where both are at least 1 in size
rounded_large : (s : Bool) (N D : ℕ) → 0 < D → D ≤ N → finite (round binary64 s N D) ≡ true → den (round binary64 s N D) ≤ num (round binary64 s N D)
rounded_large s N D P h f =
    let z = round binary64 false N D in
    let e = round_size N D s in
    let is_one : round binary64 false 1 1 ≡ one = unfold round in refl in
    let above = subst (λ (y : Float). T (le y z)) is_one (round_mono binary64 1 1 N D (pow_pos 0) P
    (le_trans (le_of_eq (one-mul D)) (le_trans h (le_of_eq (sym (mul-one N)))))) in
    rw (e.over, e.under) (by_shape z (round_shape binary64 false N D) (sym e.lost ∙ f) above)
  where
    by_shape : (z : Float) → (z ≡ inf false) ⊎ ((m : ℕ) × (e : ℤ) × (z ≡ fin false m e)) → finite z ≡ true → T (le one z) → den z ≤ num z
    by_shape z (inl i) f b = never (sym (sym (ap finite i) ∙ f))
    by_shape z (inr v) f b =
        subst (λ (y : Float). den y ≤ num y) (sym v.2)
        (sized (v.0 * up v.1) (down v.1) (le_sizes 1 (pos 0) v.0 v.1 (subst (λ (y : Float). T (le one y)) v.2 b)))
      where
        sized : (A C : ℕ) → 1 * 1 * C ≤ A * 1 → C ≤ A
        sized A C h = omega arith

-- x is lost, or 1 at least in size
abbrev Large : Float → Type 0
Large x = finite x ≡ true → den x ≤ num x

mul_large : (r x : Float) → Large r → Large x → Large (mul binary64 r x)
unfolding mul
mul_large nan x i j f = never (sym f)
mul_large (inf s) x i j f = never (sym (sym (mul_left (inf s) x refl) ∙ f))
mul_large (fin s m e) nan i j f = never (sym f)
mul_large (fin s m e) (inf t) i j f = never (sym (sym (mul_right (fin s m e) (inf t) refl) ∙ f))
mul_large (fin s m e) (fin t n d) i j f =
    rounded_large (unlike s t) (m * up e * (n * up d)) (down e * down d) (mul-pos (down_pos e) (down_pos d)) (mul-le-mul (i refl) (j refl)) f

-- ---- the bits, the highest of which is set

unfoldable pub highest : Bool → List Bool → Bool
highest bit [] = bit
highest bit (next ∷ higher) = highest next higher

pub top : (k n : ℕ) → 2 ^ k ≤ n → n < 2 ^ suc k → T (highest (odd n) (lowest k (n / 2)))
unfolding highest lowest
top zero n l h = subst T (sym (eq-eqb (n % 2) 1 (omega arith))) tt
top (suc k) n l h =
    let p : 2 ^ suc k ≡ 2 ^ k * 2 = pow-suc 2 k in
    let q : 2 ^ suc (suc k) ≡ 2 ^ suc k * 2 = pow-suc 2 (suc k) in
    top k (n / 2) (omega arith) (omega arith)

both : (p q : Bool) → p ≡ true → q ≡ true → (p && q) ≡ true
both p q h k = rw (h, k) refl

-- a bad number stays bad: no product is bad where the last r is good
module _ (good : Float → Bool) (Kind Bad : Float → Type 0)
    (kind : (r x : Float) → Kind r → Kind x → Kind (mul binary64 r x))
    (bad_kind : (x : Float) → Bad x → Kind x)
    (bad-left : (r x : Float) → Bad r → Kind x → Bad (mul binary64 r x))
    (bad-right : (r x : Float) → Kind r → Bad x → Bad (mul binary64 r x))
    (not-Good : (z : Float) → Bad z → good z ≡ true → ⊥)
    (or-bad : (z : Float) → Kind z → good z ≡ false → Bad z) where
  bad_r : (r x : Float) (bs : List Bool) → Bad r → Kind x → Bad (over_bits (λ r. r) r x bs)
  unfolding over_bits
  bad_r r x [] b i = b
  bad_r r x (true ∷ bs) b i = bad_r (mul binary64 r x) (mul binary64 x x) bs (bad-left r x b i) (kind x x i i)
  bad_r r x (false ∷ bs) b i = bad_r r (mul binary64 x x) bs b (kind x x i i)

  bad_x : (r x : Float) (b : Bool) (bs : List Bool) → Kind r → Bad x → T (highest b bs) → Bad (over_bits (λ r. r) r x (b ∷ bs))
  unfolding over_bits highest
  bad_x r x true [] i b t = bad-right r x i b
  bad_x r x false [] i b t = absurd t
  bad_x r x true (c ∷ cs) i b t = bad_r (mul binary64 r x) (mul binary64 x x) (c ∷ cs) (bad-right r x i b) (kind x x (bad_kind x b) (bad_kind x b))
  bad_x r x false (c ∷ cs) i b t = bad_x r (mul binary64 x x) c cs i (bad-right x x (bad_kind x b) b) t

  good_of : (z : Float) → Kind z → (Bad z → ⊥) → good z ≡ true
  good_of z i f = go (good z) refl
    where
      go : (b : Bool) → good z ≡ b → good z ≡ true
      go true e = e
      go false e = absurd (f (or-bad z i e))

  all_good : (r x : Float) (b : Bool) (bs : List Bool) → Kind r → Kind x → T (highest b bs) → good (over_bits (λ r. r) r x (b ∷ bs)) ≡ true
      → every_product (λ r x. good (mul binary64 r x)) r x (b ∷ bs) ≡ true
  unfolding over_bits highest every_product
  all_good r x true [] i j t h = h
  all_good r x false [] i j t h = refl
  all_good r x true (c ∷ cs) i j t h =
      let r2 = mul binary64 r x in
      let x2 = mul binary64 x x in
      let rest = every_product (λ r x. good (mul binary64 r x)) r2 x2 (c ∷ cs) in
      both (good r2) (good x2 && rest) (good_of r2 (kind r x i j) (λ b. not-Good _ (bad_r r2 x2 (c ∷ cs) b (kind x x j j)) h))
      (both (good x2) rest (good_of x2 (kind x x j j) (λ b. not-Good _ (bad_x r2 x2 c cs (kind r x i j) b t) h))
      (all_good r2 x2 c cs (kind r x i j) (kind x x j j) t h))
  all_good r x false (c ∷ cs) i j t h =
      let x2 = mul binary64 x x in
      let rest = every_product (λ r x. good (mul binary64 r x)) r x2 (c ∷ cs) in
      both (good x2) rest (good_of x2 (kind x x j j) (λ b. not-Good _ (bad_x r x2 c cs i b t) h)) (all_good r x2 c cs i (kind x x j j) t h)

-- ---- the law, for a notion of small that holds of whatever is at most a small number, and not of what is 1 at least
module _ (small : Float → Bool)
    (smaller : (z x : Float) → Under z x → finite x ≡ true → small x ≡ true → small z ≡ true)
    (below_one : (x : Float) → finite x ≡ true → small x ≡ true → num x ≤ 1 * den x)
    (not_one : (x : Float) → finite x ≡ true → den x ≤ num x → small x ≡ false) where
  abbrev good : Float → Bool
  good z = finite z && not (small z)

  small_good : (z : Float) → small z ≡ true → good z ≡ true → ⊥
  small_good z s h = never (sym (sym (ap (λ (b : Bool). finite z && not b) s ∙ gone (finite z)) ∙ h))
    where
      gone : (b : Bool) → (b && false) ≡ false
      gone true = refl
      gone false = refl

  lost_good : (z : Float) → Lost z → good z ≡ true → ⊥
  lost_good z l h = never (sym (sym (ap (λ (b : Bool). b && not (small z)) l) ∙ h))

  kept_small : (z : Float) → finite z ≡ true → good z ≡ false → small z ≡ true
  kept_small z f h = go (small z) refl
    where
      go : (b : Bool) → small z ≡ b → small z ≡ true
      go true e = e
      go false e = never (sym (both (finite z) (not (small z)) f (ap not e)) ∙ h)

  kept_lost : (z : Float) → Large z → good z ≡ false → Lost z
  kept_lost z i h = go (finite z) refl
    where
      go : (b : Bool) → finite z ≡ b → finite z ≡ false
      go true f = never (sym (kept_small z f h) ∙ not_one z f (i f))
      go false f = f

  -- from 1 and the base on
  pub good_products : (a : Float) (n : ℕ) → T (fits binary64 a) → finite a ≡ true → good (over_bits (λ r. r) one a (bits n)) ≡ true
      → products (λ r x. good (mul binary64 r x)) a n ≡ true
  good_products a n h f g = go (size n) (size-lt n) (size_reaches n) g
    where
      Small : Float → Type 0
      Small z = T (fits binary64 z) × Most 0 z

      Gone : Float → Type 0
      Gone z = T (fits binary64 z) × (finite z ≡ true) × (small z ≡ true)

      gone_left : (r x : Float) → Gone r → Small x → Gone (mul binary64 r x)
      gone_left r x b i =
          let u = under_left r x b.1 b.0 i.1 in
          (mul-fits binary64 r x, u.kept, smaller (mul binary64 r x) r u b.1 b.2)

      gone_right : (r x : Float) → Small r → Gone x → Gone (mul binary64 r x)
      gone_right r x i b =
          let u = under_right r x i.1 b.1 b.0 in
          (mul-fits binary64 r x, u.kept, smaller (mul binary64 r x) x u b.1 b.2)

      by_size : (b : Bool) → leb (num a) (den a) ≡ b → (c : Bool) (cs : List Bool) → T (highest c cs) → good (over_bits (λ r. r) one a (c ∷ cs)) ≡ true
          → every_product (λ r x. good (mul binary64 r x)) one a (c ∷ cs) ≡ true
      by_size true e c cs t g =
          all_good good Small Gone (λ r x i j. (mul-fits binary64 r x, mul_most 0 0 r x (omega arith) i.1 j.1))
          (λ x b. (b.0, record { kept = b.1; most = below_one x b.1 b.2 })) gone_left gone_right (λ z b. small_good z b.2)
          (λ z i k. (i.0, i.1.kept, kept_small z i.1.kept k)) one a c cs
          (unfold fits in tt, record { kept = refl; most = omega arith })
          (h, record { kept = f; most = le_trans (leb-true (num a) (den a) e) (le_of_eq (sym (one-mul (den a)))) }) t g
      by_size false e c cs t g =
          all_good good Large Lost mul_large (λ x b k. never (sym (sym b ∙ k))) (λ r x b i. mul_left r x b)
          (λ r x i b. mul_right r x b) lost_good kept_lost one a c cs
          (λ k. omega arith) (λ k. le_of_lt (leb-false (num a) (den a) e)) t g

      go : (k : ℕ) → n < 2 ^ k → ((j : ℕ) → j < k → 2 ^ j ≤ n) → good (over_bits (λ r. r) one a (lowest k n)) ≡ true
          → every_product (λ r x. good (mul binary64 r x)) one a (lowest k n) ≡ true
      go zero l r g = unfold lowest every_product in refl
      go (suc k) l r g = unfold lowest in by_size (leb (num a) (den a)) refl (odd n) (lowest k (n / 2)) (top k n (r k (omega arith)) l) g
