-- The length of a record, and two fields one after the other. Assumes nothing.
use mathlib.Core.Path.{◌≡◌, refl, ap, ◌∙◌}
use mathlib.Core.List.{List, ◌++◌}
use Prim.Native.Nat.{ℕ, ◌≤◌}
use native.Mathlib.Omega.{arith}
use lib.ListN.{length}
use lib.Seq.{sets, length-sets}
use Rattle.buffer.specs.Bytes.{placed}
use Rattle.buffer.proofs.Laws.{sets_then, placed_all}
use Rattle.exchange_writer.specs.declared.Point.{Point}
use Rattle.exchange_writer.specs.declared.Point.TheVariants as at
use Rattle.exchange_writer.specs.Written.{record_of}

pub record_length : (x : Point) → length (record_of x) ≡ 22
record_length (at.PT p t) = refl
record_length (at.TD t d) = refl
record_length (at.PH p h) = refl
record_length (at.PS p s) = refl
record_length (at.HS h s) = refl

-- two runs of eleven bytes at the front of bytes that have room for both
pub two_runs : (found mid out xs ys : List ℕ) → length xs ≡ 11 → length ys ≡ 11 → 22 ≤ length found
    → mid ≡ placed found 0 xs → out ≡ placed mid 11 ys → out ≡ sets found 0 (xs ++ ys)
two_runs found mid out xs ys hx hy room first second =
    let one : mid ≡ sets found 0 xs = first ∙ placed_all found 0 xs (omega arith) in
    let l : length mid ≡ length found = ap length one ∙ length-sets found 0 xs in
    second ∙ placed_all mid 11 ys (omega arith) ∙ ap (λ (m : List ℕ). sets m 11 ys) one ∙ sets_then xs ys found 0 11 (omega arith)
