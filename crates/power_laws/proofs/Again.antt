-- A number of the format, rounded again, is itself. Assumes nothing.
use mathlib.Core.Path.{◌≡◌, refl, sym, ap, ◌∙◌}
use mathlib.Core.Bool.{Bool, ◌&&◌}
use Prim.Native.Nat.{ℕ, zero, suc, ◌+◌, ◌-◌, ◌*◌, ◌%◌, ◌^◌, ◌≤◌, ◌<◌}
use native.Mathlib.Nat.{le_trans, le_of_eq, lt_of_not-le, not-le_of_lt, mul-one, one-mul, zero-mul, mul_assoc, mul_right_comm, mul-le-mul_right, mul-lt-mul_of_pos_right}
use native.Mathlib.Omega.{arith}
use lib.Dec.{T, eqb, ltb, leb, ltb→lt, leb→le}
use lib.IntN.{ℤ, pos, negsuc}
use lib.Pow.{pow-add, pow_pos, pow-lt}
use lib.Ieee.{fin, binary64, up, down, round, fits}
use lib.Ieee.Fits.{and_l, and_r, down_pos, round-fits}
use lib.Ieee.Exact.{round_exact}
use Rattle.rules.proofs.Rounds.{rescale}
use Rattle.rules.proofs.Fields as fields

-- the sign does not matter to whether the format holds a number
pub other_sign : (s t : Bool) (m : ℕ) (e : ℤ) → T (fits binary64 (fin s m e)) → T (fits binary64 (fin t m e))
unfolding fits
other_sign s t zero e h = h
other_sign s t (suc m) e h = h

-- in units of 2^-1074 it is m * 2^shift

pub record Parts (m : ℕ) (e : ℤ) : Type 0 where
  pub shift : ℕ
  pub exact : m * up e * 2 ^ 1074 ≡ m * 2 ^ shift * down e
  pub few : m < 2 ^ 53
  pub under : m * 2 ^ shift < 2 ^ 2098

pow_le : (a l : ℕ) → 2 ^ a ≤ 2 ^ l → a ≤ l
pow_le a l h = less (λ (g : l < a). not-le_of_lt (pow-lt g) h)
  where
    less : (l < a → ⊥) → a ≤ l
    less f = omega (arith, f)

shifted : (l : ℕ) (e : ℤ) → down e ≤ 2 ^ l → (j : ℕ) × (up e * 2 ^ l ≡ 2 ^ j * down e)
shifted l (pos k) h = (k + l, sym (pow-add 2 k l) ∙ sym (mul-one (2 ^ (k + l))))
shifted l (negsuc k) h =
    let s : suc k ≤ l = pow_le (suc k) l h in
    let e : l - suc k + suc k ≡ l = omega arith in
    (l - suc k, one-mul (2 ^ l) ∙ sym (sym (pow-add 2 (l - suc k) (suc k)) ∙ ap (λ (x : ℕ). 2 ^ x) e))

below : (a d l h q : ℕ) → 0 < d → 0 < l → a * l ≡ q * d → a < h * d → q < h * l
below a d l h q p r e g =
    lt_of_not-le (λ (z : h * l ≤ q).
    not-le_of_lt (mul-lt-mul_of_pos_right g r)
    (le_trans (le_of_eq (mul_right_comm h d l)) (le_trans (mul-le-mul_right d z) (le_of_eq (sym e)))))

pub parts : (s : Bool) (m : ℕ) (e : ℤ) → T (fits binary64 (fin s m e)) → Parts m e
unfolding fits
parts s zero e h = record { shift = 0; exact = none (up e) (2 ^ 1074) (down e); few = pow_pos 53; under = pow_pos 2098 }
  where
    none : (u l d : ℕ) → 0 * u * l ≡ 0 * d
    none u l d = ap (λ (x : ℕ). x * l) (zero-mul u) ∙ zero-mul l ∙ sym (zero-mul d)
parts s (suc m) e h =
    let o = eqb (suc m % 2) 1 in
    let a = ltb (suc m) (2 ^ 53) in
    let b = leb (down e) (2 ^ 1074) in
    let c = ltb (suc m * up e) (2 ^ 1024 * down e) in
    let top = ltb→lt (suc m * up e) (2 ^ 1024 * down e) (and_r (o && a && b) c h) in
    let fine = leb→le (down e) (2 ^ 1074) (and_r (o && a) b (and_l (o && a && b) c h)) in
    let z = shifted 1074 e fine in
    let equal : suc m * up e * 2 ^ 1074 ≡ suc m * 2 ^ z.0 * down e = mul_assoc (suc m) (up e) (2 ^ 1074) ∙ ap (λ (x : ℕ). suc m * x) z.1 ∙ sym
    (mul_assoc (suc m) (2 ^ z.0) (down e)) in
    record {
      shift = z.0;
      exact = equal;
      few = ltb→lt (suc m) (2 ^ 53) (and_r o a (and_l (o && a) b (and_l (o && a && b) c h)));
      under = below (suc m * up e) (down e) (2 ^ 1074) (2 ^ 1024) (suc m * 2 ^ z.0) (down_pos e) (pow_pos 1074) equal top;
    }

-- rounded again, it is itself
pub again : (s : Bool) (m : ℕ) (e : ℤ) → T (fits binary64 (fin s m e)) → round binary64 s (m * up e) (down e) ≡ fin s m e
again s m e h =
    let p = parts s m e h in
    let q = m * 2 ^ p.shift in
    let v = round_exact binary64 s (m * up e) (down e) m p.shift (down_pos e) p.few p.under p.exact in
    fields.same (round binary64 s (m * up e) (down e)) (fin s m e) s q (round-fits binary64 s (m * up e) (down e)) h
    (rescale (round binary64 s (m * up e) (down e)) s (m * up e) (down e) q (2 ^ 1074) (down_pos e) (sym p.exact) v)
    (refl, p.exact)
