-- To believe: the point of a pair's two numbers, or of their bits. Assumes nothing: these are definitions.
use Rattle.std.specs.Prelude.{Float}
use Rattle.std.specs.Float.{binary64}
use Rattle.std.specs.Float.Ieee.{of_bits}
use Rattle.exchange_record.specs.declared.Pair.{Pair}
use Rattle.exchange_record.specs.declared.Pair.TheVariants as pair
use Rattle.exchange_record.specs.declared.Asked.{Asked}
use Rattle.exchange_writer.specs.declared.Point.{Point}
use Rattle.exchange_writer.specs.declared.Point.TheVariants as at

-- the two numbers in the order of their tags, which is each entry's own order
abbrev pub point_at : Pair → Float → Float → Point
point_at pair.PT a b = at.PT (record { 0 = a }) (record { 0 = b })
point_at pair.TD a b = at.TD (record { 0 = a }) (record { 0 = b })
point_at pair.PH a b = at.PH (record { 0 = a }) (record { 0 = b })
point_at pair.PS a b = at.PS (record { 0 = a }) (record { 0 = b })
point_at pair.HS a b = at.HS (record { 0 = a }) (record { 0 = b })

-- any eight bytes are a number, a NaN's patterns too
abbrev pub point_of : Asked → Point
point_of q = point_at q.pair (of_bits binary64 q.a) (of_bits binary64 q.b)
