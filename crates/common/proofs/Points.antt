-- Points of the definitions, worked out by antt: the number of each refusal, and the checks before any step at the ends of the ranges, just outside them, and
-- where more than one of them speaks. Assumes nothing.
use mathlib.Core.Path.{◌≡◌, refl}
use mathlib.Core.Bool.{false}
use mathlib.Core.List.{List, [], ◌∷◌, map}
use Prim.Native.Nat.{ℕ}
use lib.Ieee.{Float, nan, inf, le}
use Rattle.common.specs.Outcome.{Outcome, number_in}
use Rattle.common.specs.Answer.{number_of}
use Rattle.common.specs.Decimal.{decimal, whole, scaled}
use Rattle.common.specs.Range.{pT_box, Td_box, ph_box, ps_box, hs_box, p_box, T_box, saturated_p_box, saturated_t_box, saturated_box}
use Rattle.common.specs.declared.Refusal.TheVariants.{NotFinite, First, Second, State, Step, Property, Columns, Border, Unfound}

pub refusals : map number_of (NotFinite ∷ First ∷ Second ∷ State ∷ Step ∷ Property ∷ Columns ∷ Border ∷ Unfound ∷ []) ≡ 1 ∷ 2 ∷ 3 ∷ 4 ∷ 5 ∷ 6 ∷ 7 ∷ 8 ∷ 15 ∷ []
refusals = refl

-- each box at its lower ends, at its upper ends, just below the first, just above the first, just below the second, just above the second
abbrev edges : (Float → Float → Outcome Unit) → Float → Float → Float → Float → Float → Float → Float → Float → List ℕ
edges box a A b B a' A' b' B' =
    map number_in (box a b ∷ box A B ∷ box a' b ∷ box A' B ∷ box a b' ∷ box A B' ∷ box a' b' ∷ box nan B' ∷ box A' (inf false) ∷ [])

abbrev told : List ℕ
told = 0 ∷ 0 ∷ 2 ∷ 2 ∷ 3 ∷ 3 ∷ 2 ∷ 1 ∷ 1 ∷ []

pub pT_edges : edges pT_box (decimal 16_529 3) (whole 100) (decimal 623_15 2) (decimal 863_15 2) (decimal 16_5289999 7) (decimal 100_0000001 7) (decimal 623_1499999 7) (decimal 863_1500001 7) ≡ told
unfolding le decimal whole scaled
pT_edges = refl

pub Td_edges : edges Td_box (decimal 623_15 2) (decimal 863_15 2) (whole 100) (whole 800) (decimal 623_1499999 7) (decimal 863_1500001 7) (decimal 99_9999999 7) (decimal 800_0000001 7) ≡ told
unfolding le decimal whole scaled
Td_edges = refl

pub ph_edges : edges ph_box (decimal 16_529 3) (whole 100) (whole 1500) (whole 2900) (decimal 16_5289999 7) (decimal 100_0000001 7) (decimal 1499_9999999 7) (decimal 2900_0000001 7) ≡ told
unfolding le decimal whole scaled
ph_edges = refl

pub ps_edges : edges ps_box (decimal 16_529 3) (whole 100) (decimal 3_3 1) (decimal 5_3 1) (decimal 16_5289999 7) (decimal 100_0000001 7) (decimal 3_2999999 7) (decimal 5_3000001 7) ≡ told
unfolding le decimal whole scaled
ps_edges = refl

pub hs_edges : edges hs_box (whole 1500) (whole 2900) (decimal 3_3 1) (decimal 5_3 1) (decimal 1499_9999999 7) (decimal 2900_0000001 7) (decimal 3_2999999 7) (decimal 5_3000001 7) ≡ told
unfolding le decimal whole scaled
hs_edges = refl

pub saturated_edges : edges saturated_box (decimal 16_529 3) (decimal 22_064 3) (decimal 623_15 2) (decimal 647_096 3) (decimal 16_5289999 7) (decimal 22_0640001 7) (decimal 623_1499999 7) (decimal 647_0960001 7) ≡ told
unfolding le decimal whole scaled
saturated_edges = refl

-- one argument: at both ends, just outside them, and not finite
abbrev ends : (Float → Outcome Unit) → Float → Float → Float → Float → List ℕ
ends box a A a' A' = map number_in (box a ∷ box A ∷ box a' ∷ box A' ∷ box nan ∷ box (inf false) ∷ [])

pub p_ends : ends p_box (decimal 16_529 3) (whole 100) (decimal 16_5289999 7) (decimal 100_0000001 7) ≡ 0 ∷ 0 ∷ 2 ∷ 2 ∷ 1 ∷ 1 ∷ []
unfolding le decimal whole scaled
p_ends = refl

pub t_ends : ends T_box (decimal 623_15 2) (decimal 863_15 2) (decimal 623_1499999 7) (decimal 863_1500001 7) ≡ 0 ∷ 0 ∷ 2 ∷ 2 ∷ 1 ∷ 1 ∷ []
unfolding le decimal whole scaled
t_ends = refl

pub saturated_p_ends : ends saturated_p_box (decimal 16_529 3) (decimal 22_064 3) (decimal 16_5289999 7) (decimal 22_0640001 7) ≡ 0 ∷ 0 ∷ 2 ∷ 2 ∷ 1 ∷ 1 ∷ []
unfolding le decimal whole scaled
saturated_p_ends = refl

pub saturated_t_ends : ends saturated_t_box (decimal 623_15 2) (decimal 647_096 3) (decimal 623_1499999 7) (decimal 647_0960001 7) ≡ 0 ∷ 0 ∷ 2 ∷ 2 ∷ 1 ∷ 1 ∷ []
unfolding le decimal whole scaled
saturated_t_ends = refl
