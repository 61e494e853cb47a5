-- The theorem at work: at a point of each band and of each near-critical letter the premises hold, by the test in f64, and the theorem gives the letter that
-- S05rev has there (exact_lines/proofs/Published). Computed. Assumes nothing.
use mathlib.Core.Path.{◌≡◌, refl, ap, ◌∙◌}
use mathlib.Core.Bool.{Bool, ◌&&◌}
use mathlib.Core.List.{List, [], ◌∷◌, map}
use lib.Dec.{T}
use lib.Ieee.{Float, binary64, round, neg, add, sub, sum, mul, div, of_int, of_bits, fits, le, lt, eq}
use Rattle.common.specs.Outcome.{value}
use Rattle.common.specs.Decimal.{scaled, decimal, whole, plus, minus}
use Rattle.common.specs.Constant.{p_range_from, p_range_to, t_range_from, t_range_to}
use Rattle.common.specs.Sum.{total, every}
use Rattle.common.proofs.Sums.{both_left, both_right}
use Rattle.rules.specs.Power.{power_rule}
use Rattle.rules.specs.Exp.{L}
use Rattle.inverses.specs.Units.{in_units}
use Rattle.inverses.specs.Root.{root_rule, nearest_root, whole_root}
use Rattle.inverses.specs.Log.{logarithm_rule, ln_of, ln_steps}
use Rattle.border.specs.Border.{B23_p2T}
use Rattle.r4.specs.Saturation.{T_saturation}
use Rattle.boundaries.specs.Boundary.{walk_rule, row_at, table, straight3ef}
use Rattle.rounding.specs.Fraction.{scaled_by}
use Rattle.subregion.specs.declared.Letter.TheVariants as letters
use Rattle.boundary.specs.Choice.{letter_rule}
use Rattle.distance.specs.Letter.{All}
use Rattle.distance.proofs.Lists.{all_of}
use Rattle.exact_lines.specs.Letter.{exact_band, exact_letter}
use Rattle.exact_lines.proofs.Published.{Point, at}
use Rattle.exact.proofs.Tested.{f64_test, letter_f64, tested}

-- two lists that are one are so element by element
head_or : {B : Type 0} → B → List B → B
head_or b [] = b
head_or b (c ∷ cs) = c

tail : {B : Type 0} → List B → List B
tail [] = []
tail (c ∷ cs) = cs

alike : {A B : Type 0} (f g : A → B) (xs : List A) → map f xs ≡ map g xs → All (λ x. f x ≡ g x) xs
unfolding head_or tail
alike f g [] e = tt
alike f g (x ∷ xs) e = (ap (head_or (f x)) e, alike f g xs (ap tail e))

both : {A : Type 0} (F G H : A → Type 0) → ((x : A) → F x → G x → H x) → (xs : List A) → All F xs → All G xs → All H xs
both F G H h [] a b = tt
both F G H h (x ∷ xs) a b = (h x a.0 b.0, both F G H h xs a.1 b.1)

abbrev box_tests : Float → Float → List Bool
box_tests p t = fits binary64 p ∷ fits binary64 t ∷ le p_range_from p ∷ le p p_range_to ∷ le t_range_from t ∷ le t t_range_to ∷ []

abbrev point_test : Point → Bool
point_test x = every (λ b. b) (box_tests x.p x.t) && f64_test x.p x.t

by_theorem : (x : Point) → T (point_test x) → letter_rule x.p x.t ≡ value (letter_f64 x.p x.t)
by_theorem x h =
    let box = every (λ b. b) (box_tests x.p x.t) in
    let e = all_of (λ b. b) T (λ b t. t) (box_tests x.p x.t) (both_left box (f64_test x.p x.t) h) in
    tested x.p x.t
    (record { p_f64 = e.0; t_f64 = e.1.0; p_from = e.1.1.0; p_to = e.1.1.1.0; t_from = e.1.1.1.1.0; t_to = e.1.1.1.1.1.0 })
    (both_right box (f64_test x.p x.t) h)

-- ---- the points
unfoldable pub points : List Point
unfolding decimal whole
points =
    at (whole 50) (whole 630) letters.A
    ∷ at (whole 26) (whole 656) letters.D
    ∷ at (decimal 23_6 1) (whole 652) letters.H
    ∷ at (decimal 23_5 1) (whole 655) letters.J
    ∷ at (decimal 22_6 1) (decimal 649_1 1) letters.O
    ∷ at (decimal 21_1 1) (whole 640) letters.Q
    ∷ at (decimal 20_8 1) (decimal 642_5 1) letters.R
    ∷ at (decimal 19_1 1) (whole 635) letters.S
    ∷ at (whole 17) (whole 626) letters.T
    ∷ at (decimal 21_5 1) (decimal 644_6 1) letters.U
    ∷ at (decimal 22_5 1) (decimal 648_6 1) letters.«V»
    ∷ at (decimal 22_15 2) (decimal 647_5 1) letters.W
    ∷ at (decimal 22_11 2) (whole 648) letters.X
    ∷ at (decimal 22_064 3) (decimal 647_05 2) letters.Y
    ∷ at (decimal 22_064 3) (decimal 647_15 2) letters.Z
    ∷ []

abbrev Got : Point → Type 0
Got x = letter_rule x.p x.t ≡ value x.letter

tests : T (every point_test points)
unfolding points every B23_p2T T_saturation walk_rule row_at table straight3ef total power_rule root_rule nearest_root whole_root logarithm_rule ln_of ln_steps L
    in_units exact_band scaled_by plus minus scaled decimal whole of_bits of_int round neg add sub sum mul div fits le lt eq
tests = tt

letters_are : map (λ x. letter_f64 x.p x.t) points ≡ map (λ x. x.letter) points
unfolding points B23_p2T T_saturation walk_rule row_at table straight3ef total power_rule root_rule nearest_root whole_root logarithm_rule ln_of ln_steps L in_units
    exact_letter exact_band scaled_by plus minus scaled decimal whole of_bits of_int round neg add sub sum mul div le lt
letters_are = refl

pub worked : All Got points
worked =
    both (λ x. letter_rule x.p x.t ≡ value (letter_f64 x.p x.t)) (λ x. letter_f64 x.p x.t ≡ x.letter) Got (λ x a b. a ∙ ap value b) points
    (all_of point_test (λ x. letter_rule x.p x.t ≡ value (letter_f64 x.p x.t)) by_theorem points tests)
    (alike (λ x. letter_f64 x.p x.t) (λ x. x.letter) points letters_are)
