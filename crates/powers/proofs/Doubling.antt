-- The table of powers by doubling has the written rule's bits: the highest bit's factor is the last one taken. Assumes nothing.
use Rattle.common.specs.Formula.{lost_or}
use mathlib.Core.Path.{◌≡◌, refl, sym, ap, ◌∙◌, subst}
use mathlib.Core.Bool.{Bool, true, false}
use mathlib.Core.List.{List}
use Prim.Native.Nat.{ℕ, zero, suc, ◌+◌, ◌-◌, ◌*◌, ◌^◌, ◌/◌, ◌%◌, ◌<◌, ◌≤◌}
use native.Mathlib.Nat.{pow-suc}
use native.Mathlib.Omega.{arith}
use lib.Dec.{T, eqb, leb, ltb, leb→le, le→leb}
use lib.IntN.{ℤ, pos, negsuc}
use lib.ListN.{length, get_or, set, length-set}
use lib.Seq.{get_or-set_same, get_or-set_other, ext_get_or}
use lib.Ieee.{Float, nan, binary64, mul, div}
use borrow.Author.Tests.{eqb-true, eqb-false, lt-ltb, le-ltb, ltb-true, ltb-false}
use Rattle.rules.specs.Power.{one, odd}
use Rattle.rules.specs.Product.{times}
use Rattle.rules.specs.RawPower.{raw_higher_bits, raw_by_bits, raw_power}
use Rattle.powers.specs.Reach.{squared}
use Rattle.powers.specs.Powers.{exponent_at, Has, HasPowers, Written, WrittenBy}

-- ---- the law

rest : (k : ℕ) (r a : Float) (n : ℕ) → n ≡ 0 → raw_by_bits k r a n ≡ r
unfolding raw_higher_bits
rest zero r a n e = rw e
rest (suc k) r a n e = rw e

-- one bit: what is left is taken from a*a on
bit_by : (b : Bool) (k : ℕ) (r a : Float) (n : ℕ) → eqb (n / 2) 0 ≡ b → raw_by_bits (suc k) r a n ≡ raw_by_bits k (times (odd n) r a) (mul binary64 a a) (n / 2)
unfolding raw_higher_bits
bit_by true k r a n e = rw e (sym (rest k (times (odd n) r a) (mul binary64 a a) (n / 2) (eqb-true (n / 2) 0 e)))
bit_by false k r a n e = rw e

bit : (k : ℕ) (r a : Float) (n : ℕ) → raw_by_bits (suc k) r a n ≡ raw_by_bits k (times (odd n) r a) (mul binary64 a a) (n / 2)
bit k r a n = bit_by (eqb (n / 2) 0) k r a n refl

-- r times a to the n + 2^h, for an n below 2^h, is r times a to the n, times a squared h times
pub highest_last : (h k : ℕ) → h ≤ k → (r a : Float) (n : ℕ) → n < 2 ^ h → raw_by_bits k r a (n + 2 ^ h) ≡ mul binary64 (raw_by_bits k r a n) (squared h a)
unfolding squared raw_higher_bits
highest_last zero k l r a n s =
    let z : n ≡ 0 = omega arith in
    rw (z, rest k r a 0 refl) (first k)
  where
    first : (k : ℕ) → raw_by_bits k r a 1 ≡ mul binary64 r a
    first zero = refl
    first (suc k) = refl
highest_last (suc h) zero l r a n s = absurd (omega arith)
highest_last (suc h) (suc k) l r a n s =
    let p : 2 ^ suc h ≡ 2 ^ h * 2 = pow-suc 2 h in
    let half : (n + 2 ^ suc h) / 2 ≡ n / 2 + 2 ^ h = omega arith in
    let same : (n + 2 ^ suc h) % 2 ≡ n % 2 = omega arith in
    let odd-same : odd (n + 2 ^ suc h) ≡ odd n = ap (λ (m : ℕ). eqb m 1) same in
    bit k r a (n + 2 ^ suc h)
    ∙ rw (half, odd-same) (highest_last h k (omega arith) (times (odd n) r a) (mul binary64 a a) (n / 2) (omega arith))
    ∙ ap (λ (x : Float). mul binary64 x (squared h (mul binary64 a a))) (sym (bit k r a n))

-- ---- where a power stands

pub at_up : (k : ℕ) → exponent_at (64 + k) ≡ pos k
at_up k = rw (le-ltb (64 + k) 64 (omega arith)) (ap pos (omega arith))

pub at_down : (k : ℕ) → k < 64 → exponent_at (63 - k) ≡ negsuc k
at_down k h = rw (lt-ltb (63 - k) 64 (omega arith)) (ap negsuc (omega arith))

-- one more power, from the one that stands 2^h before it
right_up : (a x : Float) (h k : ℕ) → h ≤ 31 → k < 2 ^ h → x ≡ raw_power a (exponent_at (64 + k)) →
    mul binary64 x (squared h a) ≡ raw_power a (exponent_at (64 + 2 ^ h + k))
unfolding raw_power
right_up a x h k l s e =
    let q : 64 + 2 ^ h + k ≡ 64 + (k + 2 ^ h) = omega arith in
    rw (q, at_up (k + 2 ^ h), highest_last h 31 l one a k s) (ap (λ (y : Float). mul binary64 y (squared h a)) (e ∙ ap (raw_power a) (at_up k)))

-- the power -(k + 1), from the power k + 1
right_down : (a x : Float) (k : ℕ) → k < 64 → x ≡ raw_power a (exponent_at (65 + k)) → lost_or x (div binary64 one x) ≡ raw_power a (exponent_at (63 - k))
unfolding raw_power
right_down a x k l e =
    let q : 65 + k ≡ 64 + suc k = omega arith in
    rw (at_down k l) (ap (λ (y : Float). lost_or y (div binary64 one y)) (e ∙ ap (λ (n : ℕ). raw_power a (exponent_at n)) q ∙ ap (raw_power a) (at_up (suc k))))

-- ---- the table is filled

lower : (n i : ℕ) → n ≤ i → (n ≡ i → ⊥) → n < i
lower n i l d = omega arith

upper : (n k : ℕ) → k < 64 → 63 - k ≤ n → (n ≡ 63 - k → ⊥) → 64 - k ≤ n
upper n k l m d = omega arith

-- with the power i in its place
has_set : (f : ℤ → Float) (w : List Float) (lo hi : ℕ) (i : ℕ) (x : Float) → Has f w lo hi → i < 129 → x ≡ f (exponent_at i) → (lo' hi' : ℕ)
    → ((k : ℕ) → lo' ≤ k → k < hi' → (k ≡ i → ⊥) → (lo ≤ k) × (k < hi)) → Has f (set w i x) lo' hi'
has_set f w lo hi i x h l e lo' hi' within = record {
  size = length-set w i x ∙ h.size;
  at = λ k m n. by k m n (eqb k i) refl;
}
  where
    by : (k : ℕ) → lo' ≤ k → k < hi' → (b : Bool) → eqb k i ≡ b → get_or (set w i x) k nan ≡ f (exponent_at k)
    by k m n true q = let s : k ≡ i = eqb-true k i q in let z : i < length w = rw h.size l in rw (s, get_or-set_same w i x nan z) e
    by k m n false q =
        let d : k ≡ i → ⊥ = eqb-false k i q in
        let t : (lo ≤ k) × (k < hi) = within k m n d in
        rw (get_or-set_other w i k x nan d) (h.at k t.0 t.1)

has_none : (f : ℤ → Float) (w : List Float) (i : ℕ) → length w ≡ 129 → Has f w i i
has_none f w i e = record { size = e; at = λ k m n. absurd (omega arith) }

filled_one : (a : Float) (w : List Float) → length w ≡ 129 → HasPowers a (set w 64 one) 64 65
unfolding raw_power raw_higher_bits
filled_one a w e = has_set (raw_power a) w 64 64 64 one (has_none (raw_power a) w 64 e) (omega arith) refl 64 65 (λ k m n d. absurd (d (omega arith)))

filled_up : (a : Float) (w : List Float) (h k : ℕ) → h ≤ 31 → k < 2 ^ h → 2 ^ h + k < 65 → HasPowers a w 64 (64 + 2 ^ h + k)
    → HasPowers a (set w (64 + 2 ^ h + k) (mul binary64 (get_or w (64 + k) nan) (squared h a))) 64 (64 + 2 ^ h + (k + 1))
filled_up a w h k l s m f =
    has_set (raw_power a) w 64 (64 + 2 ^ h + k) (64 + 2 ^ h + k) (mul binary64 (get_or w (64 + k) nan) (squared h a)) f (omega arith)
    (right_up a (get_or w (64 + k) nan) h k l s (f.at (64 + k) (omega arith) (omega arith))) 64 (64 + 2 ^ h + (k + 1))
    (λ n p q d. (omega arith, lower n (64 + 2 ^ h + k) (omega arith) d))

filled_down : (a : Float) (w : List Float) (hi k : ℕ) → k < 64 → 65 + k < hi → HasPowers a w (64 - k) hi
    → HasPowers a (set w (63 - k) (lost_or (get_or w (65 + k) nan) (div binary64 one (get_or w (65 + k) nan)))) (64 - (k + 1)) hi
filled_down a w hi k l m f =
    has_set (raw_power a) w (64 - k) hi (63 - k) (lost_or (get_or w (65 + k) nan) (div binary64 one (get_or w (65 + k) nan))) f (omega arith)
    (right_down a (get_or w (65 + k) nan) k l (f.at (65 + k) (omega arith) (omega arith))) (64 - (k + 1)) hi
    (λ n p q d. (upper n k l (omega arith) d, omega arith))

-- ---- and nothing else is written

written_set : (f : ℤ → Float) (b w : List Float) (lo hi : ℕ) (i : ℕ) (x : Float) → WrittenBy f b w lo hi → (lo' hi' : ℕ) → Has f (set w i x) lo' hi'
    → lo' ≤ i → i < hi' → ((k : ℕ) → lo ≤ k → k < hi → (lo' ≤ k) × (k < hi')) → WrittenBy f b (set w i x) lo' hi'
written_set f b w lo hi i x h lo' hi' g p q wider = record {
  held = g;
  rest = λ k out.
      get_or-set_other w i k x nan (λ (e : k ≡ i). out (rw e p) (rw e q))
      ∙ h.rest k (λ m n. out (wider k m n).0 (wider k m n).1);
}

pub written_none : (f : ℤ → Float) (w : List Float) (i : ℕ) → length w ≡ 129 → WrittenBy f w w i i
written_none f w i e = record { held = has_none f w i e; rest = λ k out. refl }

pub written_same : (a : Float) (b w : List Float) (lo hi hi' : ℕ) → hi ≡ hi' → Written a b w lo hi → Written a b w lo hi'
written_same a b w lo hi hi' e f = rw e at f

pub written_one : (a : Float) (w v : List Float) → length w ≡ 129 → v ≡ set w 64 one → Written a w v 64 65
written_one a w v e h =
    rw h (written_set (raw_power a) w w 64 64 64 one (written_none (raw_power a) w 64 e) 64 65 (filled_one a w e) (omega arith) (omega arith)
    (λ k m n. absurd (omega arith)))

pub written_up : (a : Float) (b w : List Float) (h k : ℕ) → h ≤ 31 → k < 2 ^ h → 2 ^ h + k < 65 → Written a b w 64 (64 + 2 ^ h + k)
    → Written a b (set w (64 + 2 ^ h + k) (mul binary64 (get_or w (64 + k) nan) (squared h a))) 64 (64 + 2 ^ h + (k + 1))
written_up a b w h k l s m f =
    written_set (raw_power a) b w 64 (64 + 2 ^ h + k) (64 + 2 ^ h + k) _ f 64 (64 + 2 ^ h + (k + 1)) (filled_up a w h k l s m f.held)
    (omega arith) (omega arith) (λ n p q. (omega arith, omega arith))

pub written_down : (a : Float) (b w : List Float) (hi k : ℕ) → k < 64 → 65 + k < hi → Written a b w (64 - k) hi
    → Written a b (set w (63 - k) (lost_or (get_or w (65 + k) nan) (div binary64 one (get_or w (65 + k) nan)))) (64 - (k + 1)) hi
written_down a b w hi k l m f =
    written_set (raw_power a) b w (64 - k) hi (63 - k) _ f (64 - (k + 1)) hi (filled_down a w hi k l m f.held) (omega arith) (omega arith)
    (λ n p q. (omega arith, omega arith))

-- what is written is determined
pub written_once : (f : ℤ → Float) (b v w : List Float) (lo hi : ℕ) → WrittenBy f b v lo hi → WrittenBy f b w lo hi → v ≡ w
written_once f b v w lo hi p g = ext_get_or nan v w (p.held.size ∙ sym g.held.size) (λ k l. by k (leb lo k) (ltb k hi) refl refl)
  where
    by : (k : ℕ) (x y : Bool) → leb lo k ≡ x → ltb k hi ≡ y → get_or v k nan ≡ get_or w k nan
    by k true true x y =
        let m : lo ≤ k = leb→le lo k (subst T (sym x) tt) in
        let n : k < hi = ltb-true k hi y in
        p.held.at k m n ∙ sym (g.held.at k m n)
    by k true false x y =
        let n : hi ≤ k = ltb-false k hi y in
        p.rest k (λ s t. omega arith) ∙ sym (g.rest k (λ s t. omega arith))
    by k false y x e =
        p.rest k (λ s t. outside k x s) ∙ sym (g.rest k (λ s t. outside k x s))
      where
        outside : (k : ℕ) → leb lo k ≡ false → lo ≤ k → ⊥
        outside k p x = subst T p (le→leb lo k x)
