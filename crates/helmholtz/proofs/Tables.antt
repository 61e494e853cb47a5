-- A sum over table 30 at two numbers is the sum of what δ and τ come to. In order: where one of them is not finite; each kind of sum; how far table 30
-- goes; and what the code gives, which fills the powers itself.
use mathlib.Core.Path.{◌≡◌, refl, sym, ap}
use mathlib.Core.List.{List}
use lib.Dec.{T}
use lib.Ieee.{Float, nan, inf, fin}
use Rattle.common.specs.Outcome.{Outcome, refused, check, then, or_nan}
use Rattle.common.proofs.Laws.{Lost, never, next}
use Rattle.common.specs.Sum.{every}
use Rattle.algo.specs.declared.Order.{Order}
use Rattle.algo.specs.declared.Order.TheVariants.{Zero, One, Two}
use Rattle.algo.specs.declared.Share.{Share}
use Rattle.algo.specs.Table.{Row, differentiated, sum_rule}
use Rattle.algo.specs.Joint.{share_rule}
use Rattle.powers.specs.Powers.{Powers}
use Rattle.powers.proofs.Looked.{powers_hold}
use Rattle.algo.specs.Raw.{Summed, SharesSummed, raw_divided, gate, covers}
use Rattle.algo.proofs.Sums.{slope_ends, share_ends}
use Rattle.algo.proofs.Settled.{slope_settled, share_settled}
use Rattle.common.specs.Number.{Number}
use Rattle.common.proofs.Numbers.{settled_number}
use Rattle.printed.specs.Table30.{table30}
use Rattle.helmholtz.specs.Hfe.{slope, share}

module _ (t : Float → Float → Row → Outcome Float) (rs : List Row) where
  first_lost : (x y : Float) → Lost x → sum_rule t x y rs ≡ refused 5
  unfolding sum_rule
  first_lost nan y l = refl
  first_lost (inf s) y l = refl
  first_lost (fin s m e) y l = never l

  second_lost : (x y : Float) → Lost y → sum_rule t x y rs ≡ refused 5
  unfolding sum_rule
  second_lost nan y l = refl
  second_lost (inf s) y l = refl
  second_lost (fin s m e) nan l = refl
  second_lost (fin s m e) (inf t) l = refl
  second_lost (fin s m e) (fin t n d) l = never l

-- a rule that refuses what is lost, and whose outcome is settled by its number
settled : (f : Float → Float → Outcome Float) (x y r : Float) → (Lost x → f x y ≡ refused 5) → (Lost y → f x y ≡ refused 5) → check (or_nan (f x y)) ≡ f x y → r ≡ or_nan (f x y) → then (check x) (λ a. then (check y) (λ b. f a b)) ≡ check r
settled f x y r lx ly h e =
    rw e
    (next x _ _ (λ _. next y _ _ (λ _. sym h) (λ l. ap (λ (o : Outcome Float). check (or_nan o)) (ly l)))
    (λ l. ap (λ (o : Outcome Float). check (or_nan o)) (lx l)))

slope_gives : (a b : Order) (x y r : Float) → r ≡ or_nan (sum_rule (differentiated a b) x y table30) → Number (slope a b (check x) (check y)) r
unfolding slope
slope_gives a b x y r e = settled_number (slope_settled a b x y table30) e record {
  is = settled (λ u v. sum_rule (differentiated a b) u v table30) x y r (first_lost (differentiated a b) table30 x y) (second_lost (differentiated a b) table30 x y) (slope_settled a b x y table30) e;
}

share_gives : (s : Share) (x y r : Float) → r ≡ or_nan (share_rule Zero s x y table30) → Number (share s (check x) (check y)) r
unfolding share share_rule
share_gives s x y r e = settled_number (share_settled Zero s x y table30) e record {
  is = settled (λ u v. share_rule Zero s u v table30) x y r
      (λ l. rw (first_lost _ table30 x y l))
      (λ l. rw (second_lost _ table30 x y l))
      (share_settled Zero s x y table30) e;
}

-- table 30 goes no further than the powers that the code fills, however often its terms are differentiated
reached : (a b : Order) → T (every (covers a b 11 2 26 2) table30)
unfolding table30 every
reached Zero Zero = tt
reached Zero One = tt
reached Zero Two = tt
reached One Zero = tt
reached One One = tt
reached One Two = tt
reached Two Zero = tt
reached Two One = tt
reached Two Two = tt

plain_reached : T (every (covers Zero Zero 11 0 26 0) table30)
unfolding table30 every
plain_reached = tt

-- what a sum over table 30 gives by the powers of x and y
module _ (x y : Float) {wi₀ wi wj₀ wj : List Float} where
  pub slope_of : Powers x wi₀ wi 11 2 → Powers y wj₀ wj 26 2 → (a b : Order) {s r : Float} → Summed a b wi wj table30 s → r ≡ or_nan (gate x y s) →
      Number (slope a b (check x) (check y)) r
  slope_of p q a b {r = r} h g =
      slope_gives a b x y r (slope_ends x y wi wj 11 2 26 2 (powers_hold x wi₀ wi 11 2 p) (powers_hold y wj₀ wj 26 2 q) (reached a b) h g)

  pub share_of : Powers x wi₀ wi 11 0 → Powers y wj₀ wj 26 0 → (t : Share) {s r : Float} → SharesSummed Zero t wi wj table30 s →
      r ≡ or_nan (gate x y (raw_divided t x y s)) → Number (share t (check x) (check y)) r
  share_of p q t {r = r} h g =
      share_gives t x y r (share_ends x y wi wj 11 0 26 0 (powers_hold x wi₀ wi 11 0 p) (powers_hold y wj₀ wj 26 0 q) plain_reached h g)
