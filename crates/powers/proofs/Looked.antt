-- A power that is looked up in a table is the written rule's, checked: a power that is lost and an exponent that the rule does not take are refused alike.
use mathlib.Core.Path.{◌≡◌, refl, sym, ap, ◌∙◌, subst}
use mathlib.Core.Bool.{Bool, true, false}
use mathlib.Core.List.{List}
use Prim.Native.Nat.{ℕ, suc, ◌+◌, ◌-◌, ◌<◌, ◌≤◌}
use native.Mathlib.Omega.{arith}
use lib.Dec.{T, leb, leb→le, ltb→lt}
use lib.IntN.{ℤ, pos, negsuc, nat_abs}
use lib.Signed.{lt_z}
use lib.Ieee.{Float}
use borrow.Author.Tests.{lt-leb, ltb-true, leb-true}
use Rattle.common.specs.Outcome.{finite, check, inside}
use Rattle.common.proofs.Laws.{inside_check, raw_inside}
use Rattle.rules.specs.Power.{power_rule}
use Rattle.rules.specs.RawPower.{raw_power, looked_power}
use Rattle.rules.proofs.Powers.{power_looked}
use Rattle.rules.proofs.Usual.{power_usual}
use Rattle.sizes.specs.Usual.{usual_base}
use Rattle.powers.specs.Powers.{WrittenBy, BarePowers, Powers, ruled, capped, highest, looked_up}
use Rattle.powers.specs.Reach.{spans}
use Rattle.powers.proofs.Doubling.{at_up, at_down}

-- ---- the tests of an exponent

pub too_low : (n : ℤ) → lt_z n (negsuc 63) ≡ true → leb (nat_abs n) 64 ≡ false
too_low (pos a) h = absurd (subst T (sym h) tt)
too_low (negsuc a) h = let l : 63 < a = ltb-true 63 a h in lt-leb (suc a) 64 (omega arith)

pub too_high : (n : ℤ) → lt_z (pos 64) n ≡ true → leb (nat_abs n) 64 ≡ false
too_high (pos a) h = lt-leb a 64 (ltb-true 64 a h)
too_high (negsuc a) h = absurd (subst T (sym h) tt)

-- ---- what is looked up

within_high : (k h : ℕ) → 63 - k < 72 + (h - 7)
within_high k h = omega arith

within_top : (k h : ℕ) → k ≤ h → 64 + k < 72 + (h - 7)
within_top k h l = omega arith

-- the power n as f has it
looked : (f : ℤ → Float) (b w : List Float) (u d : ℕ) → WrittenBy f b w (64 - capped d) (72 + (highest u d - 7)) →
    (n : ℤ) → leb (nat_abs n) 64 ≡ true → T (spans u d n) → looked_up w n ≡ f n
looked f b w u d p (pos k) s t =
    let l : k ≤ 64 = leb-true k 64 s in
    let m : k ≤ u = leb→le k u t in
    rw s (p.held.at (64 + k) (omega arith) (within_top k (highest u d) (omega arith)) ∙ ap f (at_up k))
looked f b w u d p (negsuc k) s t =
    let l : suc k ≤ 64 = leb-true (suc k) 64 s in
    let m : k < d = ltb→lt k d t in
    rw s (p.held.at (63 - k) (omega arith) (within_high k (highest u d)) ∙ ap f (at_down k (omega arith)))

-- w has the powers of a from -d to u, each as the written rule has it
abbrev pub Holds : Float → List Float → ℕ → ℕ → Type 0
Holds a w u d = (n : ℤ) → finite a ≡ true → T (spans u d n) → inside (power_rule a n) ≡ check (looked_up w n)

-- where f has them so
holds : (a : Float) (f : ℤ → Float) (b w : List Float) (u d : ℕ) → WrittenBy f b w (64 - capped d) (72 + (highest u d - 7))
    → ((n : ℤ) → finite a ≡ true → leb (nat_abs n) 64 ≡ true → inside (power_rule a n) ≡ check (f n)) → Holds a w u d
unfolding power_rule
holds a f b w u d p e n g t = by (leb (nat_abs n) 64) refl
  where
    by : (s : Bool) → leb (nat_abs n) 64 ≡ s → inside (power_rule a n) ≡ check (looked_up w n)
    by true s = e n g s ∙ ap check (sym (looked f b w u d p n s t))
    by false s = rw (g, s)

pub powers_hold : (a : Float) (b w : List Float) (u d : ℕ) → Powers a b w u d → Holds a w u d
powers_hold a b w u d p =
    holds a (ruled a) b w u d p (λ n f s. sym (raw_inside (power_rule a n) (looked_power a n) (power_looked a n f s)))

-- at a usual base no power needs a look
pub bare_hold : (a : Float) (b w : List Float) (u d : ℕ) → usual_base a ≡ true → BarePowers a b w u d → Holds a w u d
bare_hold a b w u d h p =
    holds a (raw_power a) b w u d p (λ n f s. ap inside (power_usual a n h s) ∙ inside_check (raw_power a n))
