-- The laws on the contract of `power` itself: r is any answer that it admits at a and m, and s any that it admits at b and n. Assumes nothing.
use mathlib.Core.Path.{◌≡◌, sym, ap, ap₂, ◌∙◌, subst}
use Prim.Native.Nat.{ℕ, ◌≤◌}
use mathlib.Core.Bool.{Bool, true}
use lib.Dec.{T}
use lib.IntN.{pos, neg_ℤ, nat_abs}
use lib.Ieee.{Float, binary64, neg, mul, div, fits}
use contract.Lifetimes.{Lfts}
use denote.Triple.Clauses.{AtExit}
use borrow.Fn.Kinds.{Dens, ended_of, res_t}
use Rattle.common.specs.Outcome.{value, finite}
use Rattle.common.specs.Answer.{paper}
use Rattle.rules.specs.Power.{one, odd, power_rule}
use Rattle.rules.proofs.power.Kinds as kinds
use Rattle.rules.proofs.power.Reads as power
use Rattle.power_laws.specs.Laws.{turned, SignBitOnly, two_to, in_range, products, Doubled}
use Rattle.power_laws.proofs.Signs.{sign_law}
use Rattle.power_laws.proofs.Bits.{turned_bits}
use Rattle.power_laws.proofs.Inverses.{inverse_law, value_of}
use Rattle.power_laws.proofs.Doubles as doubles
use Rattle.power_laws.proofs.Short as short

module _ (κs ls : Lfts 0) (a : Dens κs kinds.ps) (b : Dens ls kinds.ps)
    (d : AtExit (ended_of 0 kinds.ps kinds.r) κs) (e : AtExit (ended_of 0 kinds.ps kinds.r) ls)
    (r : (res_t kinds.r κs).Denot) (s : (res_t kinds.r ls).Denot) (p : power.Post κs a r d) (q : power.Post ls b s e) where
  -- b is -a, and n is m
  pub sign : b.0 ≡ neg a.0 → b.1.0 ≡ a.1.0 → paper s ≡ turned (odd (nat_abs a.1.0)) (paper r)
  sign u v = q ∙ ap₂ power_rule u v ∙ sign_law a.0 a.1.0 ∙ ap (turned (odd (nat_abs a.1.0))) (sym p)

  -- where n is odd: the two values differ in the sign bit alone
  pub sign_bit : b.0 ≡ neg a.0 → b.1.0 ≡ a.1.0 → odd (nat_abs a.1.0) ≡ true → (x : Float) → paper r ≡ value x
      → (y : Float) × (paper s ≡ value y) × SignBitOnly x y
  sign_bit u v o x h =
      (neg x, sign u v ∙ ap (λ (t : Bool). turned t (paper r)) o ∙ ap (turned true) h, turned_bits a.0 a.1.0 x (sym p ∙ h))

  -- b is a, and n is -m, for an m from 0 on: both accepted
  pub inverse : (n : ℕ) → b.0 ≡ a.0 → a.1.0 ≡ pos n → b.1.0 ≡ neg_ℤ (pos n) → (x y : Float) → paper r ≡ value x → paper s ≡ value y
      → y ≡ div binary64 one x
  inverse n u v w x y h k =
      inverse_law a.0 n x y (sym (p ∙ ap (power_rule a.0) v) ∙ h) (sym (q ∙ ap₂ power_rule u w) ∙ k)

  -- b is 2*a and finite, n is m, from 0 to 64, and no product of either computation leaves the normal range
  pub doubling : (n : ℕ) → n ≤ 64 → a.1.0 ≡ pos n → b.1.0 ≡ pos n → T (fits binary64 a.0) → b.0 ≡ mul binary64 (two_to 1) a.0 → finite b.0 ≡ true
      → products in_range a.0 n ≡ true → products in_range b.0 n ≡ true
      → (z : Doubled a.0 b.0 n) × (paper r ≡ value z.of_base) × (paper s ≡ value z.of_double)
  doubling n l v w f u g h k =
      let z = subst (λ (y : Float). Doubled a.0 y n) (sym u)
      (doubles.doubling a.0 n f l (sym (ap finite u) ∙ g) h (subst (λ (y : Float). products in_range y n ≡ true) u k)) in
      (z, p ∙ ap (power_rule a.0) v ∙ z.base_accepted, q ∙ ap (power_rule b.0) w ∙ z.double_accepted)

  -- the short form: both are accepted
  pub doubling_accepted : (n : ℕ) → n ≤ 64 → a.1.0 ≡ pos n → b.1.0 ≡ pos n → T (fits binary64 a.0)
      → b.0 ≡ mul binary64 (two_to 1) a.0 → finite b.0 ≡ true → (x y : Float) → paper r ≡ value x → paper s ≡ value y
      → (z : Doubled a.0 b.0 n) × (x ≡ z.of_base) × (y ≡ z.of_double)
  doubling_accepted n l v w f u g x y i j =
      let p' = sym (p ∙ ap (power_rule a.0) v) ∙ i in
      let q' = sym (q ∙ ap (power_rule b.0) w) ∙ j in
      let z = subst (λ (y : Float). Doubled a.0 y n) (sym u)
      (short.doubling_accepted a.0 n f l (sym (ap finite u) ∙ g) x y p' (sym (ap (λ (c : Float). power_rule c (pos n)) u) ∙ q')) in
      (z, value_of x z.of_base (sym p' ∙ z.base_accepted), value_of y z.of_double (sym q' ∙ z.double_accepted))
