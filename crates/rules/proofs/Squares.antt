-- Refusing at a lost x*x too is the same rule: x*x is only formed while a higher bit remains, and then r takes it up. In order: the bits with both tests,
-- that the highest bit is set, and the theorem. Assumes nothing.
use mathlib.Core.Path.{◌≡◌, refl, sym, ◌∙◌, subst}
use mathlib.Core.Bool.{Bool, true, false}
use mathlib.Core.List.{List, [], ◌∷◌}
use Prim.Native.Nat.{ℕ, zero, suc, ◌*◌, ◌/◌, ◌%◌, ◌^◌, ◌<◌, ◌≤◌}
use native.Mathlib.Nat.{pow-suc}
use native.Mathlib.Omega.{arith}
use lib.Dec.{T}
use lib.Ieee.{Float, binary64, size, mul}
use lib.Ieee.Digits.{size-lt, size_reaches}
use borrow.Author.Tests.{eq-eqb}
use Rattle.common.specs.Outcome.{Outcome, value, finite, check, then}
use Rattle.common.proofs.Laws.{Lost, next, check_lost, mul_left, mul_right}
use Rattle.sizes.specs.Lost.{looked}
use Rattle.rules.specs.Power.{one, odd, lowest, bits, check_power, by_bits}
use Rattle.rules.specs.Product.{taken}
use Rattle.rules.specs.RawPower.{over_bits}
use Rattle.rules.proofs.Powers.{look_check, look_lost, bits_lost, bits_check}

-- as `by_bits`, where a lost x*x is refused too
unfoldable pub by_bits_and_squares : Float → Float → Float → List Bool → Outcome Float
unfolding by_bits
by_bits_and_squares a r x [] = value r
by_bits_and_squares a r x (bit ∷ []) = by_bits a r x (bit ∷ [])
by_bits_and_squares a r x (true ∷ next ∷ higher) =
    then (check_power a (mul binary64 r x)) (λ r'. then (check (mul binary64 x x)) (λ x2. by_bits_and_squares a r' x2 (next ∷ higher)))
by_bits_and_squares a r x (false ∷ next ∷ higher) = then (check (mul binary64 x x)) (λ x2. by_bits_and_squares a r x2 (next ∷ higher))

-- the highest of some bits is set
unfoldable highest : Bool → List Bool → Bool
highest bit [] = bit
highest bit (next ∷ higher) = highest next higher

-- so r takes up a lost x
taken_up : (a r x : Float) (b : Bool) (bs : List Bool) → Lost x → T (highest b bs) → Lost (over_bits (looked a) r x (b ∷ bs))
unfolding over_bits highest
taken_up a r x true [] l t = look_lost a (mul binary64 r x) (mul_right r x l)
taken_up a r x false [] l t = absurd t
taken_up a r x b (c ∷ cs) l t = taken_up a (taken (looked a) b r x) (mul binary64 x x) c cs (mul_left x x l) t

both_tests : (a r x : Float) (b : Bool) (bs : List Bool) → finite r ≡ true → T (highest b bs) → by_bits_and_squares a r x (b ∷ bs) ≡ check (over_bits (looked a) r x (b ∷ bs))
unfolding by_bits_and_squares over_bits highest
both_tests a r x b [] f t = bits_check a r x (b ∷ []) f
both_tests a r x true (c ∷ cs) f t =
    let x2 = mul binary64 x x in
    let s = looked a (mul binary64 r x) in
    let o = check (over_bits (looked a) s x2 (c ∷ cs)) in
    rw (look_check a (mul binary64 r x))
    (next s _ o
    (λ g. next x2 _ o (λ _. both_tests a s x2 c cs g t) (λ l. check_lost (over_bits (looked a) s x2 (c ∷ cs)) (taken_up a s x2 c cs l t)))
    (λ l. check_lost (over_bits (looked a) s x2 (c ∷ cs)) (bits_lost a s x2 (c ∷ cs) l)))
both_tests a r x false (c ∷ cs) f t =
    let x2 = mul binary64 x x in
    let o = check (over_bits (looked a) r x2 (c ∷ cs)) in
    next x2 _ o (λ _. both_tests a r x2 c cs f t) (λ l. check_lost (over_bits (looked a) r x2 (c ∷ cs)) (taken_up a r x2 c cs l t))

top : (k n : ℕ) → 2 ^ k ≤ n → n < 2 ^ suc k → T (highest (odd n) (lowest k (n / 2)))
unfolding highest lowest
top zero n l h = subst T (sym (eq-eqb (n % 2) 1 (omega arith))) tt
top (suc k) n l h =
    let p : 2 ^ suc k ≡ 2 ^ k * 2 = pow-suc 2 k in
    let q : 2 ^ suc (suc k) ≡ 2 ^ suc k * 2 = pow-suc 2 (suc k) in
    top k (n / 2) (omega arith) (omega arith)

pub squares : (a x : Float) (n : ℕ) → by_bits_and_squares a one x (bits n) ≡ by_bits a one x (bits n)
squares a x n = go (size n) (size-lt n) (size_reaches n)
  where
    go : (k : ℕ) → n < 2 ^ k → ((j : ℕ) → j < k → 2 ^ j ≤ n) → by_bits_and_squares a one x (lowest k n) ≡ by_bits a one x (lowest k n)
    go zero l h = unfold by_bits_and_squares by_bits lowest in refl
    go (suc k) l h = unfold lowest in both_tests a one x (odd n) (lowest k (n / 2)) refl (top k n (h k (omega arith)) l) ∙ sym (bits_check a one x (odd n ∷ lowest k (n / 2)) refl)
