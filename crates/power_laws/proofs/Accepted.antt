-- What an accepted power says of the products on the way to it: all of them are normal. So a look at each square too would change no power. Assumes
-- nothing.
use mathlib.Core.Path.{◌≡◌, refl, sym, ap, ◌∙◌}
use mathlib.Core.Bool.{Bool, true, false, not, ◌&&◌, cond}
use mathlib.Core.List.{List, [], ◌∷◌}
use Prim.Native.Nat.{ℕ, ◌*◌, ◌^◌, ◌≤◌, ◌<◌}
use native.Mathlib.Nat.{le_trans, le_of_eq, le_of_lt, mul-one, one-mul, mul_comm, mul_assoc, mul_right_comm, mul-le-mul_right, mul-le-mul_left, le_of_mul-le-mul_right, mul-lt-mul_of_pos_right, lt_of_not-le, not-le_of_lt}
use lib.Dec.{T, leb, ltb}
use lib.IntN.{pos}
use lib.Pow.{pow_pos}
use lib.Ieee.{Float, nan, inf, fin, binary64, mul, fits}
use lib.Ieee.Positive.{num, den, den_pos}
use borrow.Author.Tests.{lt-ltb, le-ltb, ltb-true}
use Rattle.common.specs.Outcome.{Outcome, value, refused, finite, check, then}
use Rattle.common.proofs.Laws.{never}
use Rattle.sizes.specs.Lost.{subnormal, is_zero}
use Rattle.rules.specs.Power.{one, bits, check_power, by_bits, by_sign, power_rule}
use Rattle.rules.specs.RawPower.{over_bits}
use Rattle.rules.proofs.Squares as rules
use Rattle.power_laws.specs.Laws.{normal, every_product, products, by_bits_and_squares}
use Rattle.power_laws.proofs.Inverses.{other, value_of}
use Rattle.power_laws.proofs.Scales.{left, right}
use Rattle.power_laws.proofs.Doubling.{taken, accepted_bits}
use Rattle.power_laws.proofs.Products.{Under, good_products}

-- ---- a base that is not 0: an r is accepted exactly where it is normal

abbrev good : Float → Bool
good z = finite z && not (subnormal z)

look : (a z : Float) → is_zero a ≡ false → check_power a z ≡ cond (good z) (value z) (refused 5)
look a nan h = refl
look a (inf s) h = refl
look a (fin s m e) h = rw h (go (subnormal (fin s m e)))
  where
    go : (b : Bool) → cond (b && true) (refused 5) (value (fin s m e)) ≡ cond (true && not b) (value (fin s m e)) (refused 5)
    go true = refl
    go false = refl

-- so an accepted result is the number with no look at any, and it is normal
record Kept (r x y : Float) (bs : List Bool) : Type 0 where
  is : y ≡ over_bits (λ r. r) r x bs
  normal_last : good y ≡ true

kept : (a r x y : Float) (bs : List Bool) → is_zero a ≡ false → good r ≡ true → by_bits a r x bs ≡ value y → Kept r x y bs
unfolding by_bits over_bits
kept a r x y [] h g e = let s : y ≡ r = sym (value_of r y e) in record { is = s; normal_last = ap good s ∙ g }
kept a r x y (true ∷ bs) h g e =
    let z = mul binary64 r x in
    let after : Outcome Float → Outcome Float = (λ o. then o (λ r'. by_bits a r' (mul binary64 x x) bs)) in
    go (good z) refl (λ k d. kept a z (mul binary64 x x) y bs h k d) (sym (ap after (look a z h)) ∙ e)
  where
    go : (b : Bool) → good (mul binary64 r x) ≡ b
        → (good (mul binary64 r x) ≡ true → by_bits a (mul binary64 r x) (mul binary64 x x) bs ≡ value y → Kept (mul binary64 r x) (mul binary64 x x) y bs)
        → then (cond b (value (mul binary64 r x)) (refused 5)) (λ r'. by_bits a r' (mul binary64 x x) bs) ≡ value y → Kept r x y (true ∷ bs)
    go true k f e = let w = f k e in record { is = w.is; normal_last = w.normal_last }
    go false k f e = absurd (other 5 y e)
kept a r x y (false ∷ bs) h g e = let w = kept a r (mul binary64 x x) y bs h g e in record { is = w.is; normal_last = w.normal_last }

-- ---- what is at most a subnormal number is subnormal, and nothing that is 1 at least is

-- z at most x, and x at most t / u, or less
pub under_at_most : (Z C A D t u : ℕ) → 0 < D → Z * D ≤ A * C → A * t ≤ D * u → Z * t ≤ C * u
under_at_most Z C A D t u p h l =
    le_of_mul-le-mul_right
    (le_trans (le_of_eq (mul_right_comm Z t D))
    (le_trans (mul-le-mul_right t h)
    (le_trans (le_of_eq (mul_right_comm A C t))
    (le_trans (mul-le-mul_right C l)
    (le_of_eq (mul_assoc D u C ∙ mul_comm D (u * C) ∙ ap (λ (x : ℕ). x * D) (mul_comm u C))))))) p

under_below : (Z C A D t : ℕ) → 0 < D → 0 < C → Z * D ≤ A * C → A * t < D → Z * t < C
under_below Z C A D t p q h l =
    lt_of_not-le (λ (g : C ≤ Z * t).
    not-le_of_lt (mul-lt-mul_of_pos_right l q)
    (le_trans (le_of_eq (mul_comm D C))
    (le_trans (mul-le-mul_right D g)
    (le_trans (le_of_eq (mul_right_comm Z t D))
    (le_trans (mul-le-mul_right t h)
    (le_of_eq (mul_right_comm A C t)))))))

-- `subnormal` by size
small_is : (x : Float) → finite x ≡ true → subnormal x ≡ ltb (num x * 2 ^ 1022) (den x)
small_is nan f = never (sym f)
small_is (inf s) f = never (sym f)
small_is (fin s m e) f = refl

pub smaller : (z x : Float) → Under z x → finite x ≡ true → subnormal x ≡ true → subnormal z ≡ true
smaller z x u f h =
    small_is z u.kept
    ∙ lt-ltb (num z * 2 ^ 1022) (den z)
    (under_below (num z) (den z) (num x) (den x) (2 ^ 1022) (den_pos x) (den_pos z) u.most (ltb-true (num x * 2 ^ 1022) (den x) (sym (small_is x f) ∙ h)))

pub grows : (A t : ℕ) → 0 < t → A ≤ A * t
grows A t p = le_trans (le_of_eq (sym (mul-one A))) (mul-le-mul_left A p)

below_one : (x : Float) → finite x ≡ true → subnormal x ≡ true → num x ≤ 1 * den x
below_one x f h =
    le_trans (grows (num x) (2 ^ 1022) (pow_pos 1022))
    (le_trans (le_of_lt (ltb-true (num x * 2 ^ 1022) (den x) (sym (small_is x f) ∙ h))) (le_of_eq (sym (one-mul (den x)))))

not_one : (x : Float) → finite x ≡ true → den x ≤ num x → subnormal x ≡ false
not_one x f h = small_is x f ∙ le-ltb (num x * 2 ^ 1022) (den x) (le_trans h (grows (num x) (2 ^ 1022) (pow_pos 1022)))

-- ---- the law

pub record Accepted (a y : Float) (n : ℕ) : Type 0 where
  pub finite_base : finite a ≡ true
  pub finite_value : finite y ≡ true
  pub normal_value : subnormal y ≡ false
  pub is : y ≡ over_bits (λ r. r) one a (bits n)
  pub normal_products : products normal a n ≡ true

bits_of : (a y : Float) (n : ℕ) (p q : Bool) (o : Outcome Float) → cond p (cond q (then o (by_sign a (pos n))) (refused 3)) (refused 1) ≡ value y
    → (p ≡ true) × (o ≡ value y)
bits_of a y n true true (value x) e = (refl, e)
bits_of a y n true true (refused k) e = absurd (other k y e)
bits_of a y n true false o e = absurd (other 3 y e)
bits_of a y n false q o e = absurd (other 1 y e)

is_false : (b : Bool) → not b ≡ true → b ≡ false
is_false true h = never (sym h)
is_false false h = refl

-- the bits of any n, from 1 and the base on
normal_bits : (a y : Float) (n : ℕ) → T (fits binary64 a) → finite a ≡ true → is_zero a ≡ false → by_bits a one a (bits n) ≡ value y → Accepted a y n
normal_bits a y n f g h e =
    let k = kept a one a y (bits n) h refl e in
    record {
      finite_base = g;
      finite_value = left (finite y) (not (subnormal y)) k.normal_last;
      normal_value = is_false (subnormal y) (right (finite y) (not (subnormal y)) k.normal_last);
      is = k.is;
      normal_products = good_products subnormal smaller below_one not_one a n f g (sym (ap good k.is) ∙ k.normal_last);
    }

-- an accepted power of an f64 that is not 0: every product on the way is normal, the squares too
pub accepted_normal : (a y : Float) (n : ℕ) → T (fits binary64 a) → is_zero a ≡ false → power_rule a (pos n) ≡ value y → Accepted a y n
accepted_normal a y n f h e =
    let b : (finite a ≡ true) × (by_bits a one a (bits n) ≡ value y) = unfold power_rule in bits_of a y n (finite a) (leb n 64) (by_bits a one a (bits n)) e in
    normal_bits a y n f b.0 h b.1

-- ---- a look at each square would change no power

-- of 0 a look is the test for a finite number, and the law of `rules` has it
zero_look : (a z : Float) → is_zero a ≡ true → check_power a z ≡ check z
zero_look a z h = rw h (go (subnormal z))
  where
    go : (b : Bool) → cond (b && false) (refused 5) (check z) ≡ check z
    go true = refl
    go false = refl

after : {A B : Type 0} (o : Outcome A) (f g : A → Outcome B) → ((x : A) → f x ≡ g x) → then o f ≡ then o g
after (value x) f g h = h x
after (refused k) f g h = refl

zero_squares : (a r x : Float) (bs : List Bool) → is_zero a ≡ true → by_bits_and_squares a r x bs ≡ rules.by_bits_and_squares a r x bs
unfolding by_bits_and_squares rules.by_bits_and_squares
zero_squares a r x [] h = refl
zero_squares a r x (b ∷ []) h = refl
zero_squares a r x (true ∷ c ∷ cs) h =
    after (check_power a (mul binary64 r x)) _ _
    (λ r'. ap (λ (o : Outcome Float). then o (λ x2. by_bits_and_squares a r' x2 (c ∷ cs))) (zero_look a (mul binary64 x x) h)
    ∙ after (check (mul binary64 x x)) _ _ (λ x2. zero_squares a r' x2 (c ∷ cs) h))
zero_squares a r x (false ∷ c ∷ cs) h =
    ap (λ (o : Outcome Float). then o (λ x2. by_bits_and_squares a r x2 (c ∷ cs))) (zero_look a (mul binary64 x x) h)
    ∙ after (check (mul binary64 x x)) _ _ (λ x2. zero_squares a r x2 (c ∷ cs) h)

-- of another base: where every product is normal
accepted_squares : (a r x : Float) (bs : List Bool) → every_product normal r x bs ≡ true → by_bits_and_squares a r x bs ≡ value (over_bits (λ r. r) r x bs)
unfolding every_product by_bits_and_squares over_bits
accepted_squares a r x [] h = refl
accepted_squares a r x (b ∷ []) h = accepted_bits a r x (b ∷ []) (unfold every_product in h)
accepted_squares a r x (true ∷ c ∷ cs) h =
    let rest = every_product normal (mul binary64 r x) (mul binary64 x x) (c ∷ cs) in
    let g = right (normal r x) (normal x x && rest) h in
    rw (taken a r x (left (normal r x) (normal x x && rest) h), taken a x x (left (normal x x) rest g))
    (accepted_squares a (mul binary64 r x) (mul binary64 x x) (c ∷ cs) (right (normal x x) rest g))
accepted_squares a r x (false ∷ c ∷ cs) h =
    let rest = every_product normal r (mul binary64 x x) (c ∷ cs) in
    rw (taken a x x (left (normal x x) rest h)) (accepted_squares a r (mul binary64 x x) (c ∷ cs) (right (normal x x) rest h))

-- and where the power is refused: it is refused with 5
number_of : (k j : ℕ) → ◌≡◌ {A = Outcome Float} (refused k) (refused j) → k ≡ j
number_of k j e = cc

five : (a r x : Float) (bs : List Bool) (k : ℕ) → is_zero a ≡ false → by_bits a r x bs ≡ refused k → k ≡ 5
unfolding by_bits
five a r x [] k h e = absurd (other k r (sym e))
five a r x (true ∷ bs) k h e =
    let z = mul binary64 r x in
    go (good z) (λ d. five a z (mul binary64 x x) bs k h d) (sym
    (ap (λ (o : Outcome Float). then o (λ r'. by_bits a r' (mul binary64 x x) bs)) (look a z h)) ∙ e)
  where
    go : (b : Bool) → (by_bits a (mul binary64 r x) (mul binary64 x x) bs ≡ refused k → k ≡ 5)
        → then (cond b (value (mul binary64 r x)) (refused 5)) (λ r'. by_bits a r' (mul binary64 x x) bs) ≡ refused k → k ≡ 5
    go true f d = f d
    go false f d = sym (number_of 5 k d)
five a r x (false ∷ bs) k h e = five a r (mul binary64 x x) bs k h e

-- the look at x*x alone
squared : (a r w : Float) (bs : List Bool) (k : ℕ) → is_zero a ≡ false → by_bits a r w bs ≡ refused k → by_bits_and_squares a r w bs ≡ refused k
    → then (check_power a w) (λ x2. by_bits_and_squares a r x2 bs) ≡ refused k
squared a r w bs k h e i = ap (λ (o : Outcome Float). then o (λ x2. by_bits_and_squares a r x2 bs)) (look a w h) ∙ go (good w)
  where
    go : (b : Bool) → then (cond b (value w) (refused 5)) (λ x2. by_bits_and_squares a r x2 bs) ≡ refused k
    go true = i
    go false = ap refused (sym (five a r w bs k h e))

refused_squares : (a r x : Float) (bs : List Bool) (k : ℕ) → is_zero a ≡ false → by_bits a r x bs ≡ refused k → by_bits_and_squares a r x bs ≡ refused k
unfolding by_bits by_bits_and_squares
refused_squares a r x [] k h e = absurd (other k r (sym e))
refused_squares a r x (b ∷ []) k h e = e
refused_squares a r x (true ∷ c ∷ cs) k h e =
    let z = mul binary64 r x in
    let w = mul binary64 x x in
    ap (λ (o : Outcome Float). then o (λ r'. then (check_power a w) (λ x2. by_bits_and_squares a r' x2 (c ∷ cs)))) (look a z h)
    ∙ go (good z) (λ d. refused_squares a z w (c ∷ cs) k h d) (sym (ap (λ (o : Outcome Float). then o (λ r'. by_bits a r' w (c ∷ cs))) (look a z h)) ∙ e)
  where
    go : (b : Bool)
        → (by_bits a (mul binary64 r x) (mul binary64 x x) (c ∷ cs) ≡ refused k → by_bits_and_squares a (mul binary64 r x) (mul binary64 x x) (c ∷ cs) ≡ refused k)
        → then (cond b (value (mul binary64 r x)) (refused 5)) (λ r'. by_bits a r' (mul binary64 x x) (c ∷ cs)) ≡ refused k
        → then (cond b (value (mul binary64 r x)) (refused 5)) (λ r'. then (check_power a (mul binary64 x x)) (λ x2. by_bits_and_squares a r' x2 (c ∷ cs)))
        ≡ refused k
    go true f d = squared a (mul binary64 r x) (mul binary64 x x) (c ∷ cs) k h d (f d)
    go false f d = d
refused_squares a r x (false ∷ c ∷ cs) k h e = squared a r (mul binary64 x x) (c ∷ cs) k h e (refused_squares a r (mul binary64 x x) (c ∷ cs) k h e)

pub squares : (a : Float) (n : ℕ) → T (fits binary64 a) → finite a ≡ true → by_bits_and_squares a one a (bits n) ≡ by_bits a one a (bits n)
squares a n f g = go (is_zero a) refl (by_bits a one a (bits n)) refl
  where
    go : (z : Bool) → is_zero a ≡ z → (o : Outcome Float) → by_bits a one a (bits n) ≡ o → by_bits_and_squares a one a (bits n) ≡ by_bits a one a (bits n)
    go true h o e = zero_squares a one a (bits n) h ∙ rules.squares a a n
    go false h (value y) e =
        let p = (normal_bits a y n f g h e).normal_products in
        accepted_squares a one a (bits n) p ∙ sym (accepted_bits a one a (bits n) p)
    go false h (refused k) e = refused_squares a one a (bits n) k h e ∙ sym e
