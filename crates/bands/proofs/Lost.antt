-- A number less itself is 0, or a NaN where it is lost; so a sum of such differences is lost exactly where one of the numbers is. Assumes nothing.
use mathlib.Core.Path.{◌≡◌, refl, sym, ap, ◌∙◌}
use mathlib.Core.Bool.{Bool, true, false, not, ◌&&◌}
use mathlib.Core.List.{List, [], ◌∷◌}
use Prim.Native.Nat.{ℕ, ◌-◌, ◌*◌, ◌<◌}
use native.Mathlib.Nat.{lt_irrefl, mul-pos}
use native.Mathlib.Omega.{arith}
use lib.Dec.{T, ltb, ltb→lt}
use lib.Ieee.{Float, nan, inf, fin, binary64, up, down, round, neg, sum, add, sub}
use lib.Ieee.Fits.{down_pos}
use lib.Ieee.Scale.{round_same}
use Rattle.common.specs.Outcome.{finite, zero_f}
use Rattle.common.specs.Sum.{every}

-- 0 where the test passes
abbrev zero_if : Bool → Float
zero_if true = zero_f
zero_if false = nan

zero_is : (c : ℕ) → 0 < c → round binary64 false 0 c ≡ zero_f
zero_is c h = round_same binary64 false 0 c 0 1 h (omega arith) (omega arith) ∙ (unfold round in refl)

not_below : (a : ℕ) → ltb a a ≡ false
not_below a = go (ltb a a) (ltb→lt a a)
  where
    go : (b : Bool) → (T b → a < a) → b ≡ false
    go true h = absurd (lt_irrefl a (h tt))
    go false h = refl

nothing : (a : ℕ) → a - a ≡ 0
nothing a = omega arith

equal : (s : Bool) (a c : ℕ) → 0 < c → sum binary64 s a (not s) a c ≡ zero_f
unfolding sum
equal true a c h = rw (not_below a, nothing a) (zero_is c h)
equal false a c h = rw (not_below a, nothing a) (zero_is c h)

less_itself : (x : Float) → sub binary64 x x ≡ zero_if (finite x)
unfolding sub add neg
less_itself nan = refl
less_itself (inf true) = refl
less_itself (inf false) = refl
less_itself (fin s m e) = equal s (m * up e * down e) (down e * down e) (mul-pos (down_pos e) (down_pos e))

both : (a b : Bool) → add binary64 (zero_if a) (zero_if b) ≡ zero_if (a && b)
unfolding add sum round
both true true = refl
both true false = refl
both false b = refl

-- z and the differences of a list, added in their order
abbrev pub spread : Float → List Float → Float
spread z [] = z
spread z (x ∷ xs) = spread (add binary64 z (sub binary64 x x)) xs

spread_is : (b : Bool) (xs : List Float) → finite (spread (zero_if b) xs) ≡ (b && every finite xs)
unfolding every
spread_is true [] = refl
spread_is false [] = refl
spread_is b (x ∷ xs) = ap (λ (z : Float). finite (spread z xs)) (ap (add binary64 (zero_if b)) (less_itself x) ∙ both b (finite x)) ∙ spread_is (b && finite x) xs ∙ regroup b (finite x) (every finite xs)
  where
    regroup : (a b c : Bool) → ((a && b) && c) ≡ (a && (b && c))
    regroup true b c = refl
    regroup false b c = refl

pub none_lost : (x : Float) (xs : List Float) → finite (spread (sub binary64 x x) xs) ≡ every finite (x ∷ xs)
unfolding every
none_lost x xs = ap (λ (z : Float). finite (spread z xs)) (less_itself x) ∙ spread_is (finite x) xs

-- every one of the numbers that a band tests is kept where the number that it tests for them is
pub one_kept : (x : Float) → every finite (x ∷ []) ≡ finite x
unfolding every
one_kept x = go (finite x)
  where
    go : (b : Bool) → (b && true) ≡ b
    go true = refl
    go false = refl

pub two_kept : (x y : Float) → every finite (x ∷ y ∷ []) ≡ finite (add binary64 (sub binary64 x x) (sub binary64 y y))
two_kept x y = sym (none_lost x (y ∷ []))

pub three_kept : (x y z : Float) →
    every finite (x ∷ y ∷ z ∷ []) ≡ finite (add binary64 (add binary64 (sub binary64 x x) (sub binary64 y y)) (sub binary64 z z))
three_kept x y z = sym (none_lost x (y ∷ z ∷ []))
