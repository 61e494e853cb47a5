-- Helps proofs only: how far the exponents of a column go. Assumes nothing: these are definitions.
use Rattle.std.specs.Prelude.{ℕ, suc, ◌+◌, ◌-◌, cond, List, [], ◌∷◌, ltb, ℤ, pos, negsuc}
use Rattle.algo.specs.declared.Order.{Order}
use Rattle.algo.specs.declared.Order.TheVariants.{Zero, One, Two}

abbrev pub steps : Order → ℕ
steps Zero = 0
steps One = 1
steps Two = 2

-- how far an exponent goes up, and how far down
abbrev pub up_of : ℤ → ℕ
up_of (pos k) = k
up_of (negsuc k) = 0

abbrev pub down_of : ℤ → ℕ
down_of (pos k) = 0
down_of (negsuc k) = suc k

abbrev pub most : ℕ → ℕ → ℕ
most a b = cond (ltb a b) b a

-- the most of u and what f gives of a column
unfoldable pub farthest : (ℤ → ℕ) → ℕ → List ℤ → ℕ
farthest f u [] = u
farthest f u (k ∷ ks) = farthest f (most u (f k)) ks

-- how far its powers go, up and down, differentiated so often
abbrev pub ups : Order → List ℤ → ℕ
ups d ks = farthest up_of 0 ks - steps d

abbrev pub downs : Order → List ℤ → ℕ
downs d ks = farthest down_of 0 ks + steps d
