-- The last arm of a match over numbers, for all that is left, knows that x is none of the keys before it, as `c.match.rest` says it: `none_of` has that for each
-- key in turn. Assumes nothing.
use mathlib.Core.Path.{◌≡◌}
use mathlib.Core.List.{List, [], ◌∷◌}
use Prim.Native.Nat.{ℕ}

-- what the last arm knows, after what was known before
abbrev pub Rest : Type 0 → ℕ → List ℕ → Type 0
Rest A x [] = A
Rest A x (k ∷ ks) = Rest (A × (x ≡ k → ⊥)) x ks

abbrev pub NoneOf : ℕ → List ℕ → Type 0
NoneOf x [] = Unit
NoneOf x (k ∷ ks) = (x ≡ k → ⊥) × NoneOf x ks

rest_of : (A : Type 0) (x : ℕ) (ks : List ℕ) → Rest A x ks → A × NoneOf x ks
rest_of A x [] r = (r, tt)
rest_of A x (k ∷ ks) r = let q = rest_of (A × (x ≡ k → ⊥)) x ks r in (q.0.0, (q.0.1, q.1))

pub none_of : (x : ℕ) (ks : List ℕ) → Rest Unit x ks → NoneOf x ks
none_of x ks r = (rest_of Unit x ks r).1
