-- The exact test of a root on whole numbers: the whole part of (r*r + t) / 2^52 by r's two halves, and what it says of r. Assumes nothing.
use mathlib.Core.Path.{◌≡◌, ap}
use Prim.Native.Nat.{ℕ, ◌+◌, ◌-◌, ◌*◌, ◌/◌, ◌%◌, ◌^◌, ◌≤◌, ◌<◌}
use native.Mathlib.Nat.{mul-le-mul}
use native.Mathlib.Omega.{arith}

-- with r = a * 2^27 + b
pub high_is : (r t : ℕ) → let a = r / 2 ^ 27 in let b = r % 2 ^ 27 in a * a * 4 + (a * b + (b * b + t) / 2 ^ 28) / 2 ^ 24 ≡ (r * r + t) / 2 ^ 52
high_is r t =
    let a = r / 2 ^ 27 in
    let b = r % 2 ^ 27 in
    let p : r ≡ a * 2 ^ 27 + b = omega arith in
    let x : r * r ≡ (a * 2 ^ 27 + b) * (a * 2 ^ 27 + b) = ap (λ (y : ℕ). y * y) p in
    last a b (r * r) t x
  where
    last : (a b s t : ℕ) → s ≡ (a * 2 ^ 27 + b) * (a * 2 ^ 27 + b) → a * a * 4 + (a * b + (b * b + t) / 2 ^ 28) / 2 ^ 24 ≡ (s + t) / 2 ^ 52
    last a b s t x = omega arith

-- the parts' products
pub products : (r : ℕ) → r ≤ 2 ^ 53 → let a = r / 2 ^ 27 in let b = r % 2 ^ 27 in (a * a ≤ 2 ^ 52) × (a * b ≤ 2 ^ 53) × (b * b ≤ 2 ^ 54)
products r h = (
  mul-le-mul {n₁ = r / 2 ^ 27} {m₁ = r / 2 ^ 27} {n₂ = 2 ^ 26} {m₂ = 2 ^ 26} (omega arith) (omega arith),
  mul-le-mul {n₁ = r / 2 ^ 27} {m₁ = r % 2 ^ 27} {n₂ = 2 ^ 26} {m₂ = 2 ^ 27} (omega arith) (omega arith),
  mul-le-mul {n₁ = r % 2 ^ 27} {m₁ = r % 2 ^ 27} {n₂ = 2 ^ 27} {m₂ = 2 ^ 27} (omega arith) (omega arith),
)

-- halving: the nearest root is from `low` to `up`
pub record Between (d low up : ℕ) : Type 0 where
  pub order : low ≤ up
  pub most : up ≤ 2 ^ 53
  pub under : low * low < d * 2 ^ 52 + low
  pub over : d * 2 ^ 52 ≤ up * up + up
