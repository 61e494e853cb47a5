-- The points of docs/SCOPE.md that these crates and the rules answer, worked out by antt from the definitions: one table, one statement. The starred
-- ones come first. Assumes nothing.
use mathlib.Core.Path.{◌≡◌, refl, sym, ap, ◌∙◌}
use mathlib.Core.List.{List, [], ◌∷◌, map}
use lib.IntN.{ℤ, pos}
use lib.Ieee.{Float, nan, binary64, of_bits, round, neg, add, sub, sum, mul, div, of_int, le, lt, eq}
use Rattle.common.specs.Outcome.{Outcome, value, refused}
use Rattle.common.specs.Decimal.{scaled, decimal, whole, negative, plus, minus}
use Rattle.common.specs.Sum.{total}
use Rattle.subregion.specs.declared.Letter.{Letter}
use Rattle.subregion.specs.declared.Letter.TheVariants.{A, B, C, G, H, I, J, K, L, T}
use Rattle.inverses.specs.Units.{in_units}
use Rattle.rules.specs.Power.{power_rule}
use Rattle.inverses.specs.Root.{root_rule, nearest_root, whole_root}
use Rattle.inverses.specs.Log.{logarithm_rule, L as ln2}
use Rattle.rules.specs.Exp.{exponential_rule}
use Rattle.border.specs.Border.{region3_box, beside_border, B23_p2T}
use Rattle.r4.specs.Saturation.{p_saturation, T_saturation}
use Rattle.boundaries.specs.Boundary.{boundary_rule, walk_rule, row_at, table, straight3ef}
use Rattle.boundary.specs.Choice.{letter_rule, letter_at, limit, ab_rule, cdef_rule, chijk_rule, ct_rule}
use Rattle.boundaries.specs.declared.Boundary.TheVariants.{Ef}
use Rattle.distance.specs.Letter.{All}

-- a call, with the numbers as printed
pub data Call : Type 0 where
  letter : Float → Float → Call
  ef : Float → Call
  power : Float → ℤ → Call
  ln exp root : Float → Call

-- what a call answers: a letter or a number
pub data Found : Type 0 where
  taken : Outcome Letter → Found
  number· : Outcome Float → Found

infixl 20 ◌gives◌
pub data Point : Type 0 where
  ◌gives◌ : Call → Found → Point

pub got : Point → Found
unfolding letter_rule boundary_rule power_rule logarithm_rule exponential_rule root_rule
got (letter p t gives o) = taken (letter_rule p t)
got (ef p gives o) = number· (boundary_rule Ef p)
got (power a n gives o) = number· (power_rule a n)
got (ln x gives o) = number· (logarithm_rule x)
got (exp x gives o) = number· (exponential_rule x)
got (root x gives o) = number· (root_rule x)

pub wanted : Point → Found
wanted (c gives o) = o

abbrev is : Letter → Found
is l = taken (value l)

abbrev be : Float → Found
be x = number· (value x)

pub points : List Point
unfolding decimal whole neg
points =
    (letter (whole 24) (whole 640) gives is C)
    ∷ (letter (whole 24) (whole 650) gives is G)
    ∷ (letter (whole 24) (decimal 653_5 1) gives is H)
    ∷ (letter (whole 24) (whole 655) gives is I)
    ∷ (letter (whole 24) (whole 660) gives is J)
    ∷ (letter (whole 24) (whole 670) gives is K)
    ∷ (letter (decimal 23_2 1) (whole 648) gives is L)
    ∷ (letter (whole 40) (whole 630) gives is C)
    ∷ (ef (decimal 22_064 3) gives be (decimal 647_096 3))
    ∷ (power (whole 2) (negative 3) gives be (decimal 0_125 3))
    ∷ (power (whole 0) (pos 0) gives be (whole 1))
    ∷ (ln (whole 1) gives be (whole 0))
    ∷ (exp (whole 0) gives be (whole 1))
    ∷ (letter (whole 50) (whole 700) gives is A)
    ∷ (letter (whole 50) (whole 720) gives is B)
    ∷ (letter (whole 18) (whole 625) gives is C)
    ∷ (letter (whole 18) (decimal 635_8209528593616 13) gives is T)
    ∷ (letter (whole 18) (decimal 635_8209528593617 13) gives taken (refused 8))
    ∷ (letter (whole 18) (whole 640) gives taken (refused 8))
    ∷ (letter (whole 24) (decimal 623_15 2) gives is C)
    ∷ (letter (whole 24) (decimal 623_149 3) gives taken (refused 3))
    ∷ (letter nan (whole 900) gives taken (refused 1))
    ∷ (letter (whole 101) (whole 900) gives taken (refused 2))
    ∷ (letter (whole 100) (decimal 863_15 2) gives taken (refused 8))
    ∷ (letter (whole 100) (decimal 863_1499999999929 13) gives is B)
    ∷ (root (neg (whole 1)) gives number· (refused 5))
    ∷ []

-- as f64s, both sides the same one: two unlike roundings are not compared as such
ef_holds : got (ef (decimal 22_064 3) gives be (decimal 647_096 3)) ≡ be (decimal 647_096 3)
unfolding got boundary_rule straight3ef decimal whole scaled round add sub sum mul le of_bits
ef_holds = is_it ∙ sym printed
  where
    is_it : got (ef (decimal 22_064 3) gives be (decimal 647_096 3)) ≡ be (of_bits binary64 0x408438c49ba5e354)
    is_it = refl

    printed : be (decimal 647_096 3) ≡ be (of_bits binary64 0x408438c49ba5e354)
    printed = refl

abbrev Holds : Point → Type 0
Holds x = got x ≡ wanted x

held : (xs : List Point) → All Holds xs → map got xs ≡ map wanted xs
held [] h = refl
held (x ∷ xs) h = ap (λ (r : Found). r ∷ map got xs) h.0 ∙ ap (λ (rs : List Found). wanted x ∷ rs) (held xs h.1)

pub points_hold : map got points ≡ map wanted points
unfolding got wanted points letter_rule region3_box beside_border B23_p2T letter_at limit p_saturation T_saturation ab_rule cdef_rule chijk_rule ct_rule boundary_rule
    walk_rule row_at table straight3ef total power_rule root_rule nearest_root whole_root logarithm_rule ln2 exponential_rule in_units decimal whole plus minus scaled
    round neg add sub sum mul div of_int le lt eq
points_hold = held points (
  refl,
  (
    refl,
    (
      refl,
      (
        refl,
        (
          refl,
          (
            refl,
            (
              refl,
              (
                refl,
                (
                  ef_holds,
                  (
                    refl,
                    (
                      refl,
                      (
                        refl,
                        (
                          refl,
                          (
                            refl,
                            (
                              refl,
                              (
                                refl,
                                (
                                  refl,
                                  (
                                    refl,
                                    (
                                      refl,
                                      (
                                        refl,
                                        (
                                          refl,
                                          (
                                            refl,
                                            (
                                              refl,
                                              (
                                                refl,
                                                (
                                                  refl,
                                                  (
                                                    refl,
                                                    tt,
                                                  ),
                                                ),
                                              ),
                                            ),
                                          ),
                                        ),
                                      ),
                                    ),
                                  ),
                                ),
                              ),
                            ),
                          ),
                        ),
                      ),
                    ),
                  ),
                ),
              ),
            ),
          ),
        ),
      ),
    ),
  ),
)
