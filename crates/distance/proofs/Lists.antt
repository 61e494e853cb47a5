-- What holds of each element of a list, from a computed test of each. Assumes nothing.
use mathlib.Core.Bool.{Bool}
use mathlib.Core.List.{List, [], ◌∷◌}
use lib.Dec.{T}
use Rattle.common.specs.Sum.{every}
use Rattle.common.proofs.Sums.{both_left, both_right}
use Rattle.distance.specs.Letter.{All}

pub all_of : {A : Type 0} (f : A → Bool) (F : A → Type 0) → ((x : A) → T (f x) → F x) → (xs : List A) → T (every f xs) → All F xs
unfolding every
all_of f F h [] t = tt
all_of f F h (x ∷ xs) t = (h x (both_left (f x) (every f xs) t), all_of f F h xs (both_right (f x) (every f xs) t))
