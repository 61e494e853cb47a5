-- `number_entries::letter_of` meets its contract: a number that is a letter's byte, or none. Assumes nothing.
use Rattle.std.proofs.Common.{◌≡◌, ℕ, ℤ, pos, negsuc, ◌-◌, ◌<◌, ◌≤◌, ◌⊎◌, inl, inr, Option, None, Some, Result, Ok, Err, refl, sym, ap, ◌∙◌, arith, get_or}
use Rattle.std.specs.Result.{OkIff, result_ok}
use Rattle.std.specs.Option.{unwrap_or}
use Rattle.std.specs.Int.{FitsUnsignedBits}
use Rattle.std.proofs.lemmas.Option.{slice_get_past, slice_get-get_or}
use lib.IntN.{nat_abs}
use mir.Syntax.{w32}
use mir.ValLaws.{to_z-of_z}
use borrow.Author.Tests.{lt-ltb, le-ltb}
use Rattle.subregion.specs.declared.Letter.{Letter}
use Rattle.subregion.specs.declared.Letter.TheVariants.{A}
use Rattle.subregion.specs.declared.NoLetter.{NoLetter}
use Rattle.subregion.specs.Letter.{alphabet, Decodes}
use Rattle.subregion.proofs.Bytes.{byte_of}
use Rattle.number_entries.specs.Named.{letter_at}
use Rattle.number_entries.proofs.letter_of.Goals as goal

none_past : (k : ℕ) → 122 < k → letter_at (pos k) ≡ None
none_past k h = rw (le-ltb k 97 (omega arith)) (slice_get_past alphabet (k - 97) (omega arith))

decoded : (b : ℕ) (r : Result Letter NoLetter) → Decodes b r → result_ok r ≡ letter_at (pos b)
decoded b (Ok l) h =
    let q = byte_of l in
    let high : 97 ≤ b = omega (arith, q.high, h) in
    let low : b - 97 < 26 = omega (arith, q.low, h) in
    rw (le-ltb b 97 high)
    (ap Some (sym q.back ∙ ap (λ (k : ℕ). get_or alphabet (k - 97) A) h) ∙ sym (slice_get-get_or alphabet (b - 97) A low))
decoded b (Err e) h = go h.1
  where
    go : (b < 97) ⊎ (122 < b) → None ≡ letter_at (pos b)
    go (inl l) = rw (lt-ltb b 97 l) refl
    go (inr l) = sym (none_past b l)

module _ {E : Type 0} where
  byte_read : (n : ℤ) (r : Result ℕ E) (b : ℕ) → OkIff r (FitsUnsignedBits 8 n) (nat_abs n) → Some b ≡ result_ok r → pos b ≡ n
  byte_read (pos k) (Ok x) b h e = ap pos (ap (λ (o : Option ℕ). unwrap_or o 0) e ∙ h.1)
  byte_read (negsuc k) (Ok x) b h e = absurd h.0
  byte_read n (Err x) b h e = cc

  no_byte : (n : ℤ) (r : Result ℕ E) → OkIff r (FitsUnsignedBits 8 n) (nat_abs n) → None ≡ result_ok r → None ≡ letter_at n
  no_byte n (Ok x) h e = cc
  no_byte (negsuc k) (Err x) h e = refl
  no_byte (pos k) (Err x) h e = sym (none_past k (omega (arith, h)))

pub returns-in_err-byte : goal.returns-in_err-byte
returns-in_err-byte c =
    let z = to_z-of_z w32 c.args.n c.ranges.n in
    c.from_residual.ensures ∙ no_byte c.args.n c.try_from.result (rw z at c.try_from.ensures) c.in_err-byte.ensures.value

pub returns : goal.returns
returns c =
    let z = to_z-of_z w32 c.args.n c.ranges.n in
    c.ok-2.ensures.value
    ∙ decoded c.in_ok-byte.byte c.try_from-2.result c.try_from-2.ensures
    ∙ ap letter_at (byte_read c.args.n c.try_from.result c.in_ok-byte.byte (rw z at c.try_from.ensures) c.in_ok-byte.ensures.value)
