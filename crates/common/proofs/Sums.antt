-- A sum with a check at each step is the raw sum checked once, over any rows and any kind of term. Assumes nothing.
use mathlib.Core.Path.{◌≡◌, refl, sym}
use mathlib.Core.Bool.{Bool, true, false, ◌&&◌}
use mathlib.Core.List.{List, [], ◌∷◌}
use lib.Dec.{T}
use lib.Ieee.{Float, binary64, add}
use Rattle.common.specs.Outcome.{Outcome, finite, check, then}
use Rattle.common.specs.Sum.{total, raw_total, every}
use Rattle.common.proofs.Laws.{Lost, add_left, add_right, check_kept, step}

pub both_left : (a b : Bool) → T (a && b) → T a
both_left true b t = tt
both_left false b t = absurd t

pub both_right : (a b : Bool) → T (a && b) → T b
both_right true b t = t
both_right false b t = absurd t

pub T_true : (b : Bool) → T b → b ≡ true
T_true true t = refl
T_true false t = absurd t

module _ {R : Type 0} where
  pub total_lost : (u : R → Float) (s : Float) (rs : List R) → Lost s → Lost (raw_total u s rs)
  unfolding raw_total
  total_lost u s [] l = l
  total_lost u s (r ∷ rs) l = total_lost u (add binary64 s (u r)) rs (add_left s (u r) l)

  -- where each term is the check of the raw term
  pub total_check : (t : R → Outcome Float) (u : R → Float) (f : R → Bool) → ((r : R) → T (f r) → t r ≡ check (u r)) → (s : Float) (rs : List R) → finite s ≡ true → T (every f rs) → total t s rs ≡ check (raw_total u s rs)
  unfolding raw_total total every
  total_check t u f e s [] fs h = sym (check_kept s fs)
  total_check t u f e s (r ∷ rs) fs h =
      rw (e r (both_left (f r) (every f rs) h))
      (step (u r) (λ x. then (check (add binary64 s x)) (λ s'. total t s' rs)) (λ x. raw_total u (add binary64 s x) rs)
      (λ _. step (add binary64 s (u r)) (λ s'. total t s' rs) (λ s'. raw_total u s' rs)
      (λ g. total_check t u f e (add binary64 s (u r)) rs g (both_right (f r) (every f rs) h))
      (total_lost u (add binary64 s (u r)) rs))
      (λ l. total_lost u (add binary64 s (u r)) rs (add_right s (u r) l)))
