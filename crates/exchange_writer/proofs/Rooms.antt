-- Points of the definitions, worked out by antt: the record of (p,T) = (24, 650) in rooms of 21 bytes, 22 and 70, an entry's refusal before the room's, and the
-- pairs by their bytes. Assumes nothing.
use mathlib.Core.Path.{◌≡◌, refl}
use mathlib.Core.List.{List, [], ◌∷◌, ◌++◌, map}
use Prim.Native.Nat.{ℕ}
use lib.ListN.{replicate}
use lib.Ieee.{to_bits}
use Rattle.common.specs.Outcome.{value, refused}
use Rattle.common.specs.Decimal.{whole, scaled}
use Rattle.exchange_record.specs.declared.Pair.TheVariants as pair
use Rattle.exchange_record.specs.Reading.{pair_by}
use Rattle.exchange_writer.specs.declared.Point.{Point}
use Rattle.exchange_writer.specs.declared.Point.TheVariants as at
use Rattle.exchange_writer.specs.Written.{after}

abbrev point : Point
point = at.PT (record { 0 = whole 24 }) (record { 0 = whole 650 })

abbrev written : List ℕ
written = 1 ∷ 0 ∷ 8 ∷ 64 ∷ 56 ∷ 0 ∷ 0 ∷ 0 ∷ 0 ∷ 0 ∷ 0 ∷ 2 ∷ 0 ∷ 8 ∷ 64 ∷ 132 ∷ 80 ∷ 0 ∷ 0 ∷ 0 ∷ 0 ∷ 0 ∷ []

pub rooms :
    map (λ n. after (value tt) point (replicate n 90)) (0 ∷ 21 ∷ 22 ∷ 70 ∷ [])
    ≡ (refused 16, []) ∷ (refused 16, replicate 21 90) ∷ (value tt, written) ∷ (value tt, written ++ replicate 48 90) ∷ []
unfolding to_bits whole scaled
rooms = refl

pub refusals :
    map (λ n. after (refused 8) point (replicate n 90)) (21 ∷ 70 ∷ []) ≡ (refused 8, replicate 21 90) ∷ (refused 8, replicate 70 90) ∷ []
refusals = refl

pub pairs :
    map pair_by (0 ∷ 1 ∷ 2 ∷ 3 ∷ 4 ∷ 5 ∷ 6 ∷ 255 ∷ [])
    ≡ refused 255 ∷ value pair.PT ∷ value pair.TD ∷ value pair.PH ∷ value pair.PS ∷ value pair.HS ∷ refused 255 ∷ refused 255 ∷ []
pairs = refl
