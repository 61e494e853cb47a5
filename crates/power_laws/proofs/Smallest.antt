-- The powers that are 2^-1022 itself in size, the smallest that is accepted. There a product could have been below 2^-1022 and rounded up to it, and twice
-- the base would round otherwise. None is: powers grow with the size of the base, so that for each n only the bases between two neighbours can have such a
-- power; for 57 of the n from 2 to 64 there is none between them, and for 6 one, whose products are worked out here. So the doubling law needs no more than
-- two accepted powers. Assumes nothing.
use mathlib.Core.Path.{◌≡◌, refl, sym, ap, ap₂, ◌∙◌, subst}
use mathlib.Core.Logic.{◌⊎◌, inl, inr}
use mathlib.Core.Bool.{Bool, true, false, not, ◌&&◌}
use mathlib.Core.List.{List, [], ◌∷◌}
use Prim.Native.Nat.{ℕ, zero, suc, ◌+◌, ◌-◌, ◌*◌, ◌^◌, ◌≤◌, ◌<◌}
use native.Mathlib.Nat.{pow-suc, le_of_suc-le-suc, le_trans, le_of_eq, le_of_lt, lt_of_not-le, not-le_of_lt, mul-one, one-mul, mul-pos, mul_comm, mul_assoc, mul_right_comm, mul-mul-mul_comm, mul-le-mul, mul-le-mul_right, eq_of_mul-eq-mul_right}
use native.Mathlib.Omega.{arith}
use lib.Dec.{T, eqb, leb}
use lib.IntN.{ℤ, pos, negsuc}
use lib.ListN.{length}
use lib.Pow.{pow-add, pow_pos, pow_mono}
use lib.Ieee.{Float, nan, inf, fin, binary64, up, down, size, round, mul, le, lt, eq, fits, unlike}
use lib.Ieee.Fits.{down_pos}
use lib.Ieee.Order.{round_mono}
use lib.Ieee.Positive.{num, den}
use borrow.Author.Tests.{le-leb, leb-true, leb-false, ltb-false, eqb-true}
use Rattle.common.specs.Outcome.{value, finite}
use Rattle.common.proofs.Laws.{never}
use Rattle.sizes.specs.Lost.{subnormal, is_zero}
use Rattle.sizes.proofs.Band.{round_size, of_finite}
use Rattle.rules.specs.Power.{one, lowest, bits, power_rule}
use Rattle.rules.specs.RawPower.{over_bits}
use Rattle.rules.proofs.Rounds.{round_shape, le_sizes, rescale}
use Rattle.rules.proofs.Fields as fields
use Rattle.power_laws.specs.Laws.{in_range, normal, every_product, products}
use Rattle.power_laws.proofs.Again.{other_sign, parts, again}
use Rattle.power_laws.proofs.Scales.{left, right}
use Rattle.power_laws.proofs.Doubling.{kept, weaker, normal_is_kept}
use Rattle.power_laws.proofs.Products.{Under}
use Rattle.power_laws.proofs.Accepted as accept
use Rattle.power_laws.proofs.Accepted.{Accepted, accepted_normal}
use Rattle.power_laws.proofs.Above as above_least
use Rattle.power_laws.proofs.Above.{at_most_least}

-- ---- powers grow with the size of the base

below_finite : (s t : Bool) (N D N' D' : ℕ) → 0 < D → 0 < D' → N * D' ≤ N' * D → finite (round binary64 t N' D') ≡ true
    → Under (round binary64 s N D) (round binary64 t N' D')
below_finite s t N D N' D' P P' h f =
    let e = round_size N D s in
    let e' = round_size N' D' t in
    let u = by_shape (round binary64 false N D) (round binary64 false N' D') (round_shape binary64 false N D) (round_shape binary64 false N' D')
    (sym e'.lost ∙ f) (round_mono binary64 N D N' D' P P' h) in
    record { kept = e.lost ∙ u.kept; most = rw (e.over, e.under, e'.over, e'.under) u.most }
  where
    by_shape : (z y : Float) → (z ≡ inf false) ⊎ ((m : ℕ) × (e : ℤ) × (z ≡ fin false m e)) → (y ≡ inf false) ⊎ ((m : ℕ) × (e : ℤ) × (y ≡ fin false m e))
        → finite y ≡ true → T (le z y) → Under z y
    by_shape z y c (inl j) f b = never (sym (sym (ap finite j) ∙ f))
    by_shape z y (inl i) (inr w) f b = absurd (unfold le lt eq in subst (λ (x : Float). T (le (inf false) x)) w.2 (subst (λ (x : Float). T (le x y)) i b))
    by_shape z y (inr v) (inr w) f b =
        subst (λ (x : Float). Under z x) (sym w.2) (subst (λ (x : Float). Under x (fin false w.0 w.1)) (sym v.2)
        (record {
          kept = refl;
          most = le_sizes v.0 v.1 w.0 w.1
              (subst (λ (x : Float). T (le (fin false v.0 v.1) x)) w.2 (subst (λ (x : Float). T (le x y)) v.2 b));
        }))

mul_under : (r x r' x' : Float) → finite r' ≡ true → finite x' ≡ true → Under r r' → Under x x' → kept r' x' ≡ true
    → Under (mul binary64 r x) (mul binary64 r' x')
mul_under r x r' x' f g u v k =
    of_finite (λ r x. (r' x' : Float) → finite r' ≡ true → finite x' ≡ true → Under r r' → Under x x' → kept r' x' ≡ true → Under (mul binary64 r x)
    (mul binary64 r' x')) r x u.kept v.kept outer r' x' f g u v k
  where
    outer : (s : Bool) (m : ℕ) (e : ℤ) (t : Bool) (n : ℕ) (d : ℤ) (r' x' : Float) → finite r' ≡ true → finite x' ≡ true → Under (fin s m e) r'
        → Under (fin t n d) x'
        → kept r' x' ≡ true → Under (mul binary64 (fin s m e) (fin t n d)) (mul binary64 r' x')
    outer s m e t n d r' x' f g u v k =
        of_finite (λ r' x'. Under (fin s m e) r' → Under (fin t n d) x' → kept r' x' ≡ true → Under (mul binary64 (fin s m e) (fin t n d))
        (mul binary64 r' x')) r' x' f g inner u v k
      where
        crossed : (A B C D A' B' C' D' : ℕ) → A * C' ≤ A' * C → B * D' ≤ B' * D → A * B * (C' * D') ≤ A' * B' * (C * D)
        crossed A B C D A' B' C' D' p q = le_trans (le_of_eq (mul-mul-mul_comm A B C' D')) (le_trans (mul-le-mul p q) (le_of_eq (mul-mul-mul_comm A' C B' D)))

        inner : (s' : Bool) (m' : ℕ) (e' : ℤ) (t' : Bool) (n' : ℕ) (d' : ℤ) → Under (fin s m e) (fin s' m' e') → Under (fin t n d) (fin t' n' d')
            → kept (fin s' m' e') (fin t' n' d') ≡ true → Under (mul binary64 (fin s m e) (fin t n d)) (mul binary64 (fin s' m' e') (fin t' n' d'))
        inner s' m' e' t' n' d' u v k =
            unfold mul in below_finite (unlike s t) (unlike s' t') (m * up e * (n * up d)) (down e * down d) (m' * up e' * (n' * up d')) (down e' * down d')
            (mul-pos (down_pos e) (down_pos d)) (mul-pos (down_pos e') (down_pos d'))
            (crossed (m * up e) (n * up d) (down e) (down d) (m' * up e') (n' * up d') (down e') (down d') u.most v.most) k

grown : (r x r' x' : Float) (bs : List Bool) → finite r' ≡ true → finite x' ≡ true → Under r r' → Under x x' → every_product kept r' x' bs ≡ true
    → Under (over_bits (λ r. r) r x bs) (over_bits (λ r. r) r' x' bs)
unfolding every_product over_bits
grown r x r' x' [] f g u v h = u
grown r x r' x' (true ∷ []) f g u v h = mul_under r x r' x' f g u v h
grown r x r' x' (false ∷ []) f g u v h = u
grown r x r' x' (true ∷ c ∷ cs) f g u v h =
    let rest = every_product kept (mul binary64 r' x') (mul binary64 x' x') (c ∷ cs) in
    let k = left (kept r' x') (kept x' x' && rest) h in
    let l = right (kept r' x') (kept x' x' && rest) h in
    let j = left (kept x' x') rest l in
    grown (mul binary64 r x) (mul binary64 x x) (mul binary64 r' x') (mul binary64 x' x') (c ∷ cs) k j (mul_under r x r' x' f g u v k)
    (mul_under x x x' x' g g v v j) (right (kept x' x') rest l)
grown r x r' x' (false ∷ c ∷ cs) f g u v h =
    let rest = every_product kept r' (mul binary64 x' x') (c ∷ cs) in
    let j = left (kept x' x') rest h in
    grown r (mul binary64 x x) r' (mul binary64 x' x') (c ∷ cs) f j u (mul_under x x x' x' g g v v j) (right (kept x' x') rest h)

abbrev raw : Float → ℕ → Float
raw a n = over_bits (λ r. r) one a (bits n)

one_under : Under one one
one_under = record { kept = refl; most = omega arith }

-- ---- for each n from 2 on: q*2^-w, whose power is below 2^-1022, and the next multiple of 2^-w whose power is above it, with none or one between them;
-- that one is m*2^-(j + 1)

data Gap : Type 0 where
  none : ℕ → ℕ → Gap
  single : ℕ → ℕ → ℕ → ℕ → Gap

abbrev place : ℕ → ℕ → Float
place w q = fin false q (negsuc w)

abbrev ends : ℕ → ℕ → ℕ → ℕ → Bool
ends n w q h = leb (2 ^ 52) q && (subnormal (raw (place w q) n) && (products kept (place w q) n && not (at_most_least (raw (place w h) n))))

abbrev holds : ℕ → Gap → Bool
holds n (none w q) = ends n w q (q + 1)
holds n (single w q m j) =
    ends n w q (q + 2) && (fits binary64 (fin false m (negsuc j)) &&
    (eqb (m * 1 * 2 ^ suc w) ((q + 1) * 2 ^ suc j) && (products in_range (fin false m (negsuc j)) n && products in_range (fin true m (negsuc j)) n)))

unfoldable hold : ℕ → List Gap → Bool
hold n [] = true
hold n (g ∷ gs) = holds n g && hold (suc n) gs

gaps : List Gap
gaps =
    single 563 9007199254740991 1 510 ∷ single 392 5674179970822794 5674179970822795 392 ∷ none 307 6369051672525772 ∷ none 256 6826180564135516
    ∷ none 222 7149018786131516
    ∷ single 198 9007199254740991 1 145 ∷ none 179 5355712719992597 ∷ none 165 6128453337714821 ∷ none 154 7841222384935200 ∷ none 144 4796518653536082
    ∷ none 137 8024502270083369 ∷ single 130 5879501995333721 2939750997666861 129 ∷ single 125 9007199254740991 1 72 ∷ none 120 8212066119472173
    ∷ none 115 4911210218475899
    ∷ none 112 8301842246985055 ∷ none 108 5253579747951861 ∷ none 105 5211161233453043 ∷ none 103 8404014066019090 ∷ none 100 5674179970822794
    ∷ none 98 6572914060101612 ∷ none 96 6663573054715719 ∷ none 94 6011584269839454 ∷ none 92 4894218721922882 ∷ single 91 7277214164130259 1819303541032565 89
    ∷ none 89 4990646524508719 ∷ none 88 6369051672525772 ∷ none 87 7619515510328020 ∷ none 86 8600448583137597 ∷ none 84 4605432480318680
    ∷ none 83 4702991017412879 ∷ none 82 4599195763662709 ∷ none 82 8647331802355052 ∷ none 81 7841222384935200 ∷ none 80 6878956286419792
    ∷ none 79 5854138812247510 ∷ none 78 4844479723267164 ∷ none 78 7813399447600211 ∷ none 77 6152098391292192 ∷ none 76 4737905121800233
    ∷ none 76 7149018786131516 ∷ none 75 5291353180848472 ∷ none 75 7694384096444876 ∷ none 74 5502043193799453 ∷ none 74 7747265985646006
    ∷ none 73 5375495428092945 ∷ none 73 7358501026371512 ∷ none 72 4972377122365053 ∷ none 72 6639518297635996 ∷ none 72 8765661028795667
    ∷ none 71 5724828294182484 ∷ none 71 7402741794957297 ∷ none 70 4740872686343235 ∷ none 70 6017901090365677 ∷ none 70 7574121564787629
    ∷ none 69 4728078587154237 ∷ none 69 5857921748628688 ∷ none 69 7205230971937612 ∷ none 69 8801474539443671 ∷ none 68 5340519977060941
    ∷ none 68 6440655867571747 ∷ none 68 7721367363485397 ∷ none 67 4602215617889652 ∷ []

gaps_hold : (hold 2 gaps ≡ true) × (length gaps ≡ 63)
unfolding gaps hold over_bits lowest size every_product mul round fits
gaps_hold = (refl, refl)

start : (n : ℕ) → n ≡ n + 0
start n = omega arith

onward : (n i : ℕ) → suc n + i ≡ n + suc i
onward n i = omega arith

pick : (n i : ℕ) (gs : List Gap) → hold n gs ≡ true → i < length gs → (g : Gap) × (holds (n + i) g ≡ true)
unfolding hold
pick n i [] h l = absurd (omega arith)
pick n zero (g ∷ gs) h l = (g, subst (λ (k : ℕ). holds k g ≡ true) (start n) (left (holds n g) (hold (suc n) gs) h))
pick n (suc i) (g ∷ gs) h l =
    let z = pick (suc n) i gs (right (holds n g) (hold (suc n) gs) h) (le_of_suc-le-suc l) in
    (z.0, subst (λ (k : ℕ). holds k z.0 ≡ true) (onward n i) z.1)

-- ---- a base whose power is 2^-1022 lies between the two

subnormal_finite : (x : Float) → subnormal x ≡ true → finite x ≡ true
subnormal_finite nan h = never (sym h)
subnormal_finite (inf s) h = never (sym h)
subnormal_finite (fin s m e) h = refl

least_finite : (x : Float) → at_most_least x ≡ true → finite x ≡ true
least_finite nan h = never (sym h)
least_finite (inf s) h = never (sym h)
least_finite (fin s m e) h = refl

between : (a x : Float) (n w q h : ℕ) → ends n w q h ≡ true → Accepted a x n → at_most_least x ≡ true
    → (2 ^ 52 ≤ q) × (q * 1 * den a < num a * 2 ^ suc w) × (num a * 2 ^ suc w < h * 1 * den a)
between a x n w q h e k t =
    let lo = place w q in
    let hi = place w h in
    let B = subnormal (raw lo n) in
    let C = products kept lo n in
    let D = not (at_most_least (raw hi n)) in
    let e' = right (leb (2 ^ 52) q) (B && (C && D)) e in
    let e'' = right B (C && D) e' in (
      leb-true (2 ^ 52) q (left (leb (2 ^ 52) q) (B && (C && D)) e),
      above (left B (C && D) e') (left C D e'') (leb (num a * den lo) (num lo * den a)) refl,
      below (right C D e'') (leb (num hi * den a) (num a * den hi)) refl,
    )
  where
    above : subnormal (raw (place w q) n) ≡ true → products kept (place w q) n ≡ true → (b : Bool) → leb (num a * 2 ^ suc w) (q * 1 * den a) ≡ b
        → q * 1 * den a < num a * 2 ^ suc w
    above s c true l =
        let u = grown one a one (place w q) (bits n) refl refl one_under
        (record { kept = k.finite_base; most = leb-true (num a * 2 ^ suc w) (q * 1 * den a) l }) c in
        never (sym (ap subnormal k.is ∙ accept.smaller (raw a n) (raw (place w q) n) u (subnormal_finite (raw (place w q) n) s) s) ∙ k.normal_value)
    above s c false l = leb-false (num a * 2 ^ suc w) (q * 1 * den a) l

    below : not (at_most_least (raw (place w h) n)) ≡ true → (b : Bool) → leb (h * 1 * den a) (num a * 2 ^ suc w) ≡ b → num a * 2 ^ suc w < h * 1 * den a
    below s true l =
        let c = weaker normal kept normal_is_kept one a (bits n) k.normal_products in
        let t' = sym (ap at_most_least k.is) ∙ t in
        let u = grown one (place w h) one a (bits n) refl k.finite_base one_under
        (record { kept = refl; most = leb-true (h * 1 * den a) (num a * 2 ^ suc w) l }) c in
        never (sym s ∙ ap not (above_least.smaller (raw (place w h) n) (raw a n) u (least_finite (raw a n) t') t'))
    below s false l = leb-false (h * 1 * den a) (num a * 2 ^ suc w) l

-- ---- an f64 that is 2^52 * 2^-w at least is a multiple of 2^-w

multiple : (w q m : ℕ) (e : ℤ) → m < 2 ^ 53 → 2 ^ 52 ≤ q → q * 1 * down e < m * up e * 2 ^ w → (k : ℕ) × (m * up e * 2 ^ w ≡ k * down e)
multiple w q m (pos j) f l h = (m * 2 ^ j * 2 ^ w, sym (mul-one (m * 2 ^ j * 2 ^ w)))
multiple w q m (negsuc j) f l h = go (leb (suc j) w) refl
  where
    go : (b : Bool) → leb (suc j) w ≡ b → (k : ℕ) × (m * 1 * 2 ^ w ≡ k * 2 ^ suc j)
    go true c =
        let g : w - suc j + suc j ≡ w = let z = leb-true (suc j) w c in omega arith in (
          m * 2 ^ (w - suc j),
          ap (λ (x : ℕ). x * 2 ^ w) (mul-one m) ∙ ap (λ (x : ℕ). m * 2 ^ x) (sym g) ∙ ap (λ (x : ℕ). m * x)
              (pow-add 2 (w - suc j) (suc j)) ∙ sym (mul_assoc m (2 ^ (w - suc j)) (2 ^ suc j)),
        )
    go false c =
        let far : suc w ≤ suc j = leb-false (suc j) w c in
        absurd (not-le_of_lt h
        (le_trans (mul-le-mul_right (2 ^ w) (le_trans (le_of_eq (mul-one m)) (le_of_lt f)))
        (le_trans (le_of_eq (halves 52 w))
        (mul-le-mul (le_trans l (le_of_eq (sym (mul-one q)))) (pow_mono far)))))
      where
        halves : (p w : ℕ) → 2 ^ suc p * 2 ^ w ≡ 2 ^ p * 2 ^ suc w
        halves p w = ap (λ (x : ℕ). x * 2 ^ w) (pow-suc 2 p) ∙ mul_assoc (2 ^ p) 2 (2 ^ w) ∙ ap (λ (x : ℕ). 2 ^ p * x) (mul_comm 2 (2 ^ w) ∙ sym (pow-suc 2 w))

-- so it is one of those between the two
counted : (q k h d : ℕ) → 0 < d → q * 1 * d < k * d → k * d < h * 1 * d → (q < k) × (k < h)
counted q k h d p u v = (
  lt_of_not-le (λ (g : k ≤ q). not-le_of_lt u (mul-le-mul_right d (le_trans g (le_of_eq (sym (mul-one q)))))),
  lt_of_not-le (λ (g : h ≤ k). not-le_of_lt v (mul-le-mul_right d (le_trans (le_of_eq (mul-one h)) g))),
)

-- two f64s of one sign and size are one
the_same : (s : Bool) (m : ℕ) (e : ℤ) (n j w k : ℕ) → T (fits binary64 (fin s m e)) → T (fits binary64 (fin s n (negsuc j))) → m * up e * 2 ^ w ≡ k * down e
    → n * 1 * 2 ^ w ≡ k * 2 ^ suc j
    → fin s m e ≡ fin s n (negsuc j)
the_same s m e n j w k f g u v =
    let p = parts s m e f in
    let A = m * 2 ^ p.shift in
    fields.same (fin s m e) (fin s n (negsuc j)) s A f g (refl, p.exact)
    (rescale (fin s n (negsuc j)) s k (2 ^ w) A (2 ^ 1074) (pow_pos w) (crossed (m * up e) (down e) A k (2 ^ 1074) (2 ^ w) (down_pos e) p.exact u) (refl, v))
  where
    crossed : (M d A k L W : ℕ) → 0 < d → M * L ≡ A * d → M * W ≡ k * d → A * W ≡ k * L
    crossed M d A k L W p u v = eq_of_mul-eq-mul_right d p (A * W) (k * L)
        (mul_right_comm A W d ∙ ap (λ (x : ℕ). x * W) (sym u) ∙ mul_right_comm M L W ∙ ap (λ (x : ℕ). x * L) v ∙ mul_right_comm k d L)

by_gap : (s : Bool) (m : ℕ) (e : ℤ) (x : Float) (n : ℕ) (g : Gap) → T (fits binary64 (fin s m e)) → holds n g ≡ true → Accepted (fin s m e) x n
    → at_most_least x ≡ true
    → products in_range (fin s m e) n ≡ true
by_gap s m e x n (none w q) f h k t =
    let z = between (fin s m e) x n w q (q + 1) h k t in
    let c = multiple (suc w) q m e (parts s m e f).few z.0 z.1 in
    let o = counted q c.0 (q + 1) (down e) (down_pos e) (rw (sym c.1) z.1) (rw (sym c.1) z.2) in
    absurd (empty q c.0 o.0 o.1)
  where
    empty : (q k : ℕ) → q < k → k < q + 1 → ⊥
    empty q k u v = omega arith
by_gap s m e x n (single w q m0 j) f h k t =
    let E = ends n w q (q + 2) in
    let F = fits binary64 (fin false m0 (negsuc j)) in
    let G = eqb (m0 * 1 * 2 ^ suc w) ((q + 1) * 2 ^ suc j) in
    let P = products in_range (fin false m0 (negsuc j)) n in
    let Q = products in_range (fin true m0 (negsuc j)) n in
    let h1 = right E (F && (G && (P && Q))) h in
    let h2 = right F (G && (P && Q)) h1 in
    let h3 = right G (P && Q) h2 in
    let z = between (fin s m e) x n w q (q + 2) (left E (F && (G && (P && Q))) h) k t in
    let c = multiple (suc w) q m e (parts s m e f).few z.0 z.1 in
    let o = counted q c.0 (q + 2) (down e) (down_pos e) (rw (sym c.1) z.1) (rw (sym c.1) z.2) in
    let g = other_sign false s m0 (negsuc j) (subst T (sym (left F (G && (P && Q)) h1)) tt) in
    let same = the_same s m e m0 j (suc w) (q + 1) f g (c.1 ∙ ap (λ (y : ℕ). y * down e) (middle q c.0 o.0 o.1))
    (eqb-true (m0 * 1 * 2 ^ suc w) ((q + 1) * 2 ^ suc j) (left G (P && Q) h2)) in
    ap (λ (y : Float). products in_range y n) same ∙ by_sign s (left P Q h3) (right P Q h3)
  where
    middle : (q k : ℕ) → q < k → k < q + 2 → k ≡ q + 1
    middle q k u v = omega arith

    by_sign : (s : Bool) → products in_range (fin false m0 (negsuc j)) n ≡ true → products in_range (fin true m0 (negsuc j)) n ≡ true
        → products in_range (fin s m0 (negsuc j)) n ≡ true
    by_sign true p q = q
    by_sign false p q = p

-- ---- the law: no product of an accepted power was outside the normal range before it was rounded, whatever the power

-- 1 times an f64 is that f64
one_times : (s : Bool) (m : ℕ) (e : ℤ) → T (fits binary64 (fin s m e)) → mul binary64 one (fin s m e) ≡ fin s m e
unfolding mul
one_times s m e f =
    ap (λ (t : Bool). round binary64 t (1 * 1 * (m * up e)) (1 * down e)) (plain s)
    ∙ ap₂ (round binary64 s) (one-mul (m * up e)) (one-mul (down e))
    ∙ again s m e f
  where
    plain : (s : Bool) → unlike false s ≡ s
    plain true = refl
    plain false = refl

first : (s : Bool) (m : ℕ) (e : ℤ) → T (fits binary64 (fin s m e)) → normal one (fin s m e) ≡ true → in_range one (fin s m e) ≡ true
first s m e f h =
    let z = mul binary64 one (fin s m e) in
    let n : subnormal (fin s m e) ≡ false = sym (ap subnormal (one_times s m e f)) ∙ turn (subnormal z) (right (finite z) (not (subnormal z)) h) in
    rw (le-leb (1 * down e) (1 * 1 * (m * up e) * 2 ^ 1022)
    (le_trans (le_of_eq (one-mul (down e))) (le_trans (ltb-false (m * up e * 2 ^ 1022) (down e) n)
    (le_of_eq (ap (λ (x : ℕ). x * 2 ^ 1022) (sym (one-mul (m * up e)))))))) (left (finite z) (not (subnormal z)) h)
  where
    turn : (b : Bool) → not b ≡ true → b ≡ false
    turn true h = never (sym h)
    turn false h = refl

at_least : (s : Bool) (m : ℕ) (e : ℤ) (x : Float) (n : ℕ) → T (fits binary64 (fin s m e)) → n ≤ 64 → Accepted (fin s m e) x n → at_most_least x ≡ true
    → products in_range (fin s m e) n ≡ true
unfolding every_product lowest size
at_least s m e x zero f l k t = refl
at_least s m e x (suc zero) f l k t = first s m e f k.normal_products
at_least s m e x (suc (suc i)) f l k t =
    let g = pick 2 i gaps gaps_hold.0 (rw gaps_hold.1 (le_of_suc-le-suc l)) in
    by_gap s m e x (suc (suc i)) g.0 f (subst (λ (n : ℕ). holds n g.0 ≡ true) (two_more i) g.1) k t
  where
    two_more : (i : ℕ) → 2 + i ≡ suc (suc i)
    two_more i = omega arith

pub accepted_range : (a x : Float) (n : ℕ) → T (fits binary64 a) → is_zero a ≡ false → n ≤ 64 → power_rule a (pos n) ≡ value x → products in_range a n ≡ true
accepted_range a x n f h l p = go (at_most_least x) refl
  where
    by_parts : (a : Float) → T (fits binary64 a) → finite a ≡ true → Accepted a x n → at_most_least x ≡ true → products in_range a n ≡ true
    by_parts nan f g k t = never (sym g)
    by_parts (inf s) f g k t = never (sym g)
    by_parts (fin s m e) f g k t = at_least s m e x n f l k t

    go : (b : Bool) → at_most_least x ≡ b → products in_range a n ≡ true
    go false t = above_least.above_range a x n f h p t
    go true t = let k = accepted_normal a x n f h p in by_parts a f k.finite_base k t
