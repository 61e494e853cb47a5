-- The bits of n, taken at a base and at twice the base: where no product leaves the normal range the result is exactly 2^n times as much. In order: tests
-- of products, the bits, that a power whose products are all normal is accepted, and the numbers of both powers. Assumes nothing.
use mathlib.Core.Path.{◌≡◌, refl, sym, ap, ◌∙◌, subst}
use mathlib.Core.Bool.{Bool, true, false, not, ◌&&◌}
use mathlib.Core.List.{List, [], ◌∷◌}
use Prim.Native.Nat.{ℕ, zero, suc, ◌+◌, ◌*◌, ◌/◌, ◌%◌, ◌^◌, ◌≤◌, ◌<◌}
use native.Mathlib.Nat.{pow-suc}
use native.Mathlib.Omega.{arith}
use lib.IntN.{pos}
use lib.Ieee.{Float, nan, inf, fin, binary64, size, mul}
use lib.Ieee.Digits.{size-lt}
use borrow.Author.Tests.{eqb-true, eqb-false, le-leb}
use Rattle.common.specs.Outcome.{value, finite}
use Rattle.common.proofs.Laws.{never, check_kept}
use Rattle.sizes.specs.Lost.{subnormal}
use Rattle.rules.specs.Power.{one, odd, lowest, bits, check_power, by_bits, power_rule}
use Rattle.rules.specs.Product.{times}
use Rattle.rules.specs.RawPower.{over_bits}
use Rattle.power_laws.specs.Laws.{Scaled, in_range, normal, of_bit, every_product, products}
use Rattle.power_laws.proofs.Scales.{left, right, mul_scaled, range_finite, range_normal}

-- ---- tests of products

-- a weaker test passes too
pub weaker : (p q : Float → Float → Bool) → ((r x : Float) → p r x ≡ true → q r x ≡ true) → (r x : Float) (bs : List Bool)
    → every_product p r x bs ≡ true → every_product q r x bs ≡ true
unfolding every_product
weaker p q f r x [] h = refl
weaker p q f r x (true ∷ []) h = f r x h
weaker p q f r x (false ∷ []) h = refl
weaker p q f r x (true ∷ c ∷ cs) h =
    let rest = every_product p (mul binary64 r x) (mul binary64 x x) (c ∷ cs) in
    let g = right (p r x) (p x x && rest) h in
    rw (f r x (left (p r x) (p x x && rest) h), f x x (left (p x x) rest g))
    (weaker p q f (mul binary64 r x) (mul binary64 x x) (c ∷ cs) (right (p x x) rest g))
weaker p q f r x (false ∷ c ∷ cs) h =
    let rest = every_product p r (mul binary64 x x) (c ∷ cs) in
    rw (f x x (left (p x x) rest h)) (weaker p q f r (mul binary64 x x) (c ∷ cs) (right (p x x) rest h))

-- the product is finite
abbrev pub kept : Float → Float → Bool
kept r x = finite (mul binary64 r x)

pub range_is_normal : (r x : Float) → in_range r x ≡ true → normal r x ≡ true
range_is_normal r x h = rw (range_finite r x h, range_normal r x h) refl

pub normal_is_kept : (r x : Float) → normal r x ≡ true → kept r x ≡ true
normal_is_kept r x h = left (kept r x) (not (subnormal (mul binary64 r x))) h

-- ---- the bits of n, taken from r and x on and from 2^i times r and 2^j times x on

-- how many doublings of r and of x one bit adds up
abbrev plus : Bool → ℕ → ℕ → ℕ
plus true i j = i + j
plus false i j = i

count : (b : Bool) (n i j : ℕ) → odd n ≡ b → plus b i j + (j + j) * (n / 2) ≡ i + j * n
count true n i j h =
    let o : n % 2 ≡ 1 = eqb-true (n % 2) 1 h in
    let e : 1 + 2 * (n / 2) ≡ n = omega arith in
    grown i j (n / 2) ∙ ap (λ (x : ℕ). i + j * x) e
  where
    grown : (i j h : ℕ) → i + j + (j + j) * h ≡ i + j * (1 + 2 * h)
    grown i j h = omega arith
count false n i j h =
    let o : n % 2 ≡ 1 → ⊥ = eqb-false (n % 2) 1 h in
    let e : 2 * (n / 2) ≡ n = even n o in
    grown i j (n / 2) ∙ ap (λ (x : ℕ). i + j * x) e
  where
    even : (n : ℕ) → (n % 2 ≡ 1 → ⊥) → 2 * (n / 2) ≡ n
    even n o = omega arith

    grown : (i j h : ℕ) → i + (j + j) * h ≡ i + j * (2 * h)
    grown i j h = omega arith

last_count : (b : Bool) (n i j : ℕ) → odd n ≡ b → n < 2 → plus b i j ≡ i + j * n
last_count b n i j h l =
    let z : n / 2 ≡ 0 = omega arith in
    none (plus b i j) (j + j) ∙ ap (λ (x : ℕ). plus b i j + (j + j) * x) (sym z) ∙ count b n i j h
  where
    none : (a b : ℕ) → a ≡ a + b * 0
    none a b = omega arith

bit_scaled : (b : Bool) (i j : ℕ) (r x r' x' : Float) → Scaled i r r' → Scaled j x x' → of_bit in_range b r x ≡ true → of_bit kept b r' x' ≡ true
    → Scaled (plus b i j) (times b r x) (times b r' x')
bit_scaled true i j r x r' x' u v p q = mul_scaled i j r x r' x' u v p q
bit_scaled false i j r x r' x' u v p q = u

scaled_bits : (k n i j : ℕ) (r x r' x' : Float) → n < 2 ^ k → Scaled i r r' → Scaled j x x'
    → every_product in_range r x (lowest k n) ≡ true → every_product kept r' x' (lowest k n) ≡ true
    → Scaled (i + j * n) (over_bits (λ r. r) r x (lowest k n)) (over_bits (λ r. r) r' x' (lowest k n))
unfolding every_product over_bits lowest
scaled_bits zero n i j r x r' x' l u v p q =
    let z : n ≡ 0 = omega arith in
    subst (λ (k : ℕ). Scaled k r r') (none i j ∙ ap (λ (x : ℕ). i + j * x) (sym z)) u
  where
    none : (i j : ℕ) → i ≡ i + j * 0
    none i j = omega arith
scaled_bits (suc zero) n i j r x r' x' l u v p q =
    subst (λ (k : ℕ). Scaled k (times (odd n) r x) (times (odd n) r' x')) (last_count (odd n) n i j refl (omega arith))
    (bit_scaled (odd n) i j r x r' x' u v p q)
scaled_bits (suc (suc k)) n i j r x r' x' l u v p q =
    let half : n / 2 < 2 ^ suc k = let z : 2 ^ suc (suc k) ≡ 2 ^ suc k * 2 = pow-suc 2 (suc k) in omega arith in
    let rest = every_product in_range (times (odd n) r x) (mul binary64 x x) (lowest (suc k) (n / 2)) in
    let rest' = every_product kept (times (odd n) r' x') (mul binary64 x' x') (lowest (suc k) (n / 2)) in
    let above = right (of_bit in_range (odd n) r x) (in_range x x && rest) p in
    let above' = right (of_bit kept (odd n) r' x') (kept x' x' && rest') q in
    subst (λ (k' : ℕ). Scaled k' (over_bits (λ r. r) (times (odd n) r x) (mul binary64 x x) (lowest (suc k) (n / 2)))
    (over_bits (λ r. r) (times (odd n) r' x') (mul binary64 x' x') (lowest (suc k) (n / 2))))
    (count (odd n) n i j refl)
    (scaled_bits (suc k) (n / 2) (plus (odd n) i j) (j + j) (times (odd n) r x) (mul binary64 x x) (times (odd n) r' x') (mul binary64 x' x') half
    (bit_scaled (odd n) i j r x r' x' u v (left (of_bit in_range (odd n) r x) (in_range x x && rest) p) (left (of_bit kept (odd n) r' x') (kept x' x' && rest') q))
    (mul_scaled j j x x x' x' v v (left (in_range x x) rest above) (left (kept x' x') rest' above'))
    (right (in_range x x) rest above) (right (kept x' x') rest' above'))

-- ---- a power whose products are all normal is accepted

looked_at : (a z : Float) → finite z ≡ true → subnormal z ≡ false → check_power a z ≡ value z
looked_at a z f n = rw n (check_kept z f)

pub taken : (a r x : Float) → normal r x ≡ true → check_power a (mul binary64 r x) ≡ value (mul binary64 r x)
taken a r x h =
    let z = mul binary64 r x in
    looked_at a z (left (finite z) (not (subnormal z)) h) (turned (subnormal z) (right (finite z) (not (subnormal z)) h))
  where
    turned : (b : Bool) → not b ≡ true → b ≡ false
    turned true h = never (sym h)
    turned false h = refl

pub accepted_bits : (a r x : Float) (bs : List Bool) → every_product normal r x bs ≡ true → by_bits a r x bs ≡ value (over_bits (λ r. r) r x bs)
unfolding every_product by_bits over_bits
accepted_bits a r x [] h = refl
accepted_bits a r x (true ∷ []) h = rw (taken a r x h) refl
accepted_bits a r x (false ∷ []) h = refl
accepted_bits a r x (true ∷ c ∷ cs) h =
    let rest = every_product normal (mul binary64 r x) (mul binary64 x x) (c ∷ cs) in
    rw (taken a r x (left (normal r x) (normal x x && rest) h))
    (accepted_bits a (mul binary64 r x) (mul binary64 x x) (c ∷ cs) (right (normal x x) rest (right (normal r x) (normal x x && rest) h)))
accepted_bits a r x (false ∷ c ∷ cs) h =
    accepted_bits a r (mul binary64 x x) (c ∷ cs) (right (normal x x) (every_product normal r (mul binary64 x x) (c ∷ cs)) h)

pub accepted : (a : Float) (n : ℕ) → finite a ≡ true → n ≤ 64 → products normal a n ≡ true → power_rule a (pos n) ≡ value (over_bits (λ r. r) one a (bits n))
unfolding power_rule
accepted a n f l h = rw (f, le-leb n 64 l, accepted_bits a one a (bits n) h) refl

-- ---- both powers

pub ends : (k : ℕ) (x y : Float) → Scaled k x y → (finite x ≡ true) × (finite y ≡ true)
ends k nan y u = absurd u
ends k (inf s) y u = absurd u
ends k (fin s m e) nan u = absurd u
ends k (fin s m e) (inf t) u = absurd u
ends k (fin s m e) (fin t n d) u = (refl, refl)

-- of the numbers themselves, with no look at any
pub scaled_raw : (a b : Float) (n : ℕ) → Scaled 1 a b → products in_range a n ≡ true → products kept b n ≡ true
    → Scaled n (over_bits (λ r. r) one a (bits n)) (over_bits (λ r. r) one b (bits n))
scaled_raw a b n u p q =
    subst (λ (k : ℕ). Scaled k (over_bits (λ r. r) one a (bits n)) (over_bits (λ r. r) one b (bits n))) (all n)
    (scaled_bits (size n) n 0 1 one a one b (size-lt n) (refl, refl) u p q)
  where
    all : (n : ℕ) → 0 + 1 * n ≡ n
    all n = omega arith
