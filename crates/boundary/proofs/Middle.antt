-- A p that is above one pressure and not above another, both between 1 and 128 MPa, is from 2^-7 to 2^7: what no boundary is lost at. Assumes nothing.
use mathlib.Core.Path.{◌≡◌, refl, sym, subst}
use mathlib.Core.Bool.{Bool, true, false, ◌||◌}
use Prim.Native.Nat.{ℕ, ◌*◌, ◌≤◌}
use native.Mathlib.Omega.{arith}
use lib.Dec.{T, leb, leb→le}
use lib.IntN.{pos}
use lib.Ieee.{Float, nan, inf, fin, up, down, lt, le, eq}
use lib.Ieee.Positive.{num, den, positive, above, above_of_le, le→cross, cross→le, le_trans_positive}
use borrow.Author.Tests.{ltb-false}
use Rattle.sizes.proofs.Band.{Band}
use Rattle.rules.specs.Power.{one}

abbrev top : Float
top = fin false 1 (pos 7)

-- x < y is x ≤ y
at_most : (x y : Float) → lt x y ≡ true → T (le x y)
unfolding le
at_most x y e = subst (λ (b : Bool). T (b || eq x y)) (sym e) tt

no : true ≡ false → ⊥
no e = subst T e tt

-- not above b, but above 0: at most b
upto : (b p : Float) → T (positive b) → T (above p) → lt b p ≡ false → T (positive p) × T (le p b)
unfolding lt
upto nan p q a e = absurd q
upto (inf s) p q a e = absurd q
upto (fin true n d) p q a e = absurd q
upto (fin false n d) nan q a e = absurd a
upto (fin false n d) (inf true) q a e = absurd a
upto (fin false n d) (inf false) q a e = absurd (no e)
upto (fin false n d) (fin true m k) q a e = absurd a
upto (fin false n d) (fin false m k) q a e =
    (a, cross→le (fin false m k) (fin false n d) a q (ltb-false (n * up d * down k) (m * up k * down d) e))

least : (A D : ℕ) → 1 * D ≤ A * 1 → D ≤ A * 128
least A D h = omega arith

most : (A D : ℕ) → A * 1 ≤ 128 * D → A ≤ 128 * D
most A D h = omega arith

band : (p : Float) → T (positive p) → T (le one p) → T (le p top) → Band 7 p
band nan q from to = absurd q
band (inf s) q from to = absurd q
band (fin true m e) q from to = absurd q
band (fin false m e) q from to =
    record {
      kept = refl;
      least = least (m * up e) (down e) (le→cross one (fin false m e) tt q from);
      most = most (m * up e) (down e) (le→cross (fin false m e) top q tt to);
    }

-- f from 1 MPa on, b up to 128 MPa
pub middle : (f b p : Float) → T (positive f) → T (positive b) → T (leb (1 * den f) (num f * 1)) → T (leb (num b * 1) (128 * den b)) → lt f p ≡ true → lt b p ≡ false → Band 7 p
middle f b p F B low high from to =
    let u = upto b p B (above_of_le f p F (at_most f p from)) to in
    let P = u.0 in
    let lowest : T (le one f) = cross→le one f tt F (leb→le (1 * den f) (num f * 1) low) in
    let highest : T (le b top) = cross→le b top B tt (leb→le (num b * 1) (128 * den b) high) in
    band p P (le_trans_positive one f p tt F P lowest (at_most f p from)) (le_trans_positive p b top P B tt u.1 highest)
