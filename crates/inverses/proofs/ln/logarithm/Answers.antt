-- `inverses::logarithm` meets its contract: the tests choose the case, and m and e are read off the 53 digits. Assumes nothing.
use Prim.Native.Nat.{◌+◌, ◌-◌, ◌*◌, ◌^◌, ◌≤◌}
use mathlib.Core.Path.{◌≡◌, sym, ap, ◌∙◌}
use mathlib.Core.Bool.{true, false}
use mathlib.Core.Logic.{⊎_elim}
use native.Mathlib.Omega.{arith}
use lib.Dec.{T}
use lib.Ieee.{Float, binary64, le, of_bits}
use Rattle.common.specs.Outcome.{check, finite}
use Rattle.inverses.specs.Units.{in_units, positive}
use Rattle.inverses.specs.Log.{places, logarithm_rule}
use Rattle.inverses.specs.RawLog.{raw_ln}
use Rattle.rules.proofs.Fields.{no_nan_bits}
use Rattle.inverses.proofs.Signs.{is_above, lost}
use Rattle.inverses.proofs.Logs.{places_low, places_high, ln_at, ln_of_lem, refused_below}
use Rattle.inverses.proofs.ln.logarithm.Goals as goal
use Rattle.inverses.proofs.ln.logarithm.Goals.{else-p-lt-ONE_AND_HALF, then-p-lt-ONE_AND_HALF}

pub returns-then-not-is_finite : goal.returns-then-not-is_finite
unfolding logarithm_rule
returns-then-not-is_finite c = ⊎_elim (λ e. rw e) (λ e. rw e.1) (lost c.args.x (sym c.if-not-is_finite.ensures))

pub returns-then-x : goal.returns-then-x
unfolding of_bits
returns-then-x c = sym (refused_below c.args.x (sym c.if-not-is_finite.ensures) c.if-x.true)

above_zero : (x : Float) → true ≡ finite x → le x (of_bits binary64 0) ≡ false → T (positive x)
unfolding of_bits
above_zero x f = is_above x (sym f)

pub unpack-p-requires : goal.unpack-p-requires
unpack-p-requires c = above_zero c.args.x c.if-not-is_finite.ensures c.if-x.false

pub float_from_bits-m : goal.float_from_bits-m
float_from_bits-m c = no_nan_bits (1022 * 2 ^ 52 + c.unpack-p.result.d - c.if-p-lt-ONE_AND_HALF.up * 2 ^ 52) (omega (arith, c.unpack-p.ensures))

pub returns : goal.returns
returns c =
    let x = c.args.x in
    let p = c.unpack-p in
    let up = c.if-p-lt-ONE_AND_HALF.up in
    let placed : (up ≤ 1) × (places (in_units x) ≡ p.result.e + up) =
    elim c.if-p-lt-ONE_AND_HALF.branch [
      | then-p-lt-ONE_AND_HALF w ↦ rw w.up-is (omega arith, places_low _ _ _ p.ensures w.if-p-lt-ONE_AND_HALF.true)
      | else-p-lt-ONE_AND_HALF w ↦ rw w.up-is (omega arith, places_high _ _ _ p.ensures w.if-p-lt-ONE_AND_HALF.false)
    ] in
    c.settle.ensures
    ∙ ap check c.ln_steps.ensures
    ∙ ap (λ (e : Float). check (raw_ln (of_bits binary64 (1022 * 2 ^ 52 + p.result.d - up * 2 ^ 52)) e)) c.exponent.ensures
    ∙ sym (ln_at _ p.result.d p.result.e p.ensures up placed.0 placed.1)
    ∙ sym (ln_of_lem x (above_zero x c.if-not-is_finite.ensures c.if-x.false))
