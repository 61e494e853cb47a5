-- To believe: the numbers of common/property_id.rs that name the 25 properties at a (T,d), as printed there. Assumes nothing: these are definitions.
use Rattle.std.specs.Prelude.{List, [], ◌∷◌, ℤ, pos}

unfoldable pub property_numbers : List ℤ
property_numbers =
    pos 0 ∷ pos 3 ∷ pos 4 ∷ pos 5 ∷ pos 6  -- OP OV OH OS OE
    ∷ pos 7 ∷ pos 8 ∷ pos 9 ∷ pos 10 ∷ pos 11  -- OU OCP OCV OW OKS
    ∷ pos 12 ∷ pos 13 ∷ pos 14 ∷ pos 17 ∷ pos 18  -- OF OG OZ OEC OKT
    ∷ pos 19 ∷ pos 20 ∷ pos 21 ∷ pos 22 ∷ pos 23  -- ODVDT ODVDP ODPDT OIJTC OJTC
    ∷ pos 31 ∷ pos 32 ∷ pos 33 ∷ pos 34 ∷ pos 35  -- OPC OBETAP OFI OFU OALFAP
    ∷ []
