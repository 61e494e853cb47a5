-- `powers::fill_up` meets its contract: each doubling fills as many places more as are wanted, from a squared once more. In order: how many that are, what
-- stands after each doubling, and what stands at each way out. Assumes nothing.
use mathlib.Core.Path.{◌≡◌, refl}
use Prim.Native.Nat.{ℕ, suc, ◌+◌, ◌-◌, ◌<◌, ◌≤◌, min}
use native.Mathlib.Omega.{arith}
use lib.Dec.{lit≤}
use lib.Ieee.{of_bits}
use Rattle.powers.specs.Reach.{squared}
use Rattle.powers.specs.Powers.{Written}
use Rattle.powers.proofs.Doubling.{written_one, written_same}
use Rattle.powers.proofs.fill_up.Goals as goal
use Rattle.powers.proofs.fill_up.Goals.{After-double, After-double-2, After-double-3, After-double-4, After-double-5, After-double-6, After-double-7}

-- of h more powers, or as many as reach t, as many as that are made
record Made (h t r : ℕ) : Type 0 where
  whole : h + h ≤ t → 64 + h + r ≡ 64 + (h + h)
  part : h ≤ t → t < h + h → 64 + h + r ≡ 72 + (t - 7)

made : (m t r : ℕ) → 7 ≤ m → r ≡ min (t - m) (suc m) → Made (suc m) t r
made m t r s e = record { whole = λ l. omega arith; part = λ l n. omega arith }

-- none more, and all of them, where the highest is 64
none : (t : ℕ) → t < 8 → 72 ≡ 72 + (t - 7)
none t p = omega arith

all : (t : ℕ) → 64 ≤ t → t ≤ 64 → 129 ≡ 72 + (t - 7)
all t p q = omega arith

-- ---- what stands after each doubling: the powers from 0 on

full1 : (c : After-double) → Written c.args.a c.args.w.now c.double.new.w 64 66
unfolding squared of_bits
full1 c = c.double.ensures c.args.a c.args.w.now 0 (lit≤ tt) refl refl (written_one c.args.a c.args.w.now _ c.told-w refl)

full2 : (c : After-double-2) → Written c.args.a c.args.w.now c.double-2.new.w 64 68
unfolding squared
full2 c = c.double-2.ensures c.args.a c.args.w.now 1 (lit≤ tt) refl refl (full1 (goal.at.After-double-2 c).After-double)

full3 : (c : After-double-3) → Written c.args.a c.args.w.now c.double-3.new.w 64 72
unfolding squared
full3 c = c.double-3.ensures c.args.a c.args.w.now 2 (lit≤ tt) refl refl (full2 (goal.at.After-double-3 c).After-double-2)

full4 : (c : After-double-4) → Written c.args.a c.args.w.now c.double-4.new.w 64 (64 + 8 + c.min.result)
unfolding squared
full4 c = c.double-4.ensures c.args.a c.args.w.now 3 (lit≤ tt) refl refl (full3 (goal.at.After-double-4 c).After-double-3)

full5 : (c : After-double-5) → Written c.args.a c.args.w.now c.double-5.new.w 64 (64 + 16 + c.min-2.result)
unfolding squared
full5 c =
    let more = (made 7 c.args.top _ (lit≤ tt) c.min.ensures).whole c.if-top-lt16.false in
    c.double-5.ensures c.args.a c.args.w.now 4 (lit≤ tt) refl refl
    (written_same c.args.a c.args.w.now c.double-4.new.w 64 _ 80 more (full4 (goal.at.After-double-5 c).After-double-4))

full6 : (c : After-double-6) → Written c.args.a c.args.w.now c.double-6.new.w 64 (64 + 32 + c.min-3.result)
unfolding squared
full6 c =
    let more = (made 15 c.args.top _ (lit≤ tt) c.min-2.ensures).whole c.if-top-lt32.false in
    c.double-6.ensures c.args.a c.args.w.now 5 (lit≤ tt) refl refl
    (written_same c.args.a c.args.w.now c.double-5.new.w 64 _ 96 more (full5 (goal.at.After-double-6 c).After-double-5))

full7 : (c : After-double-7) → Written c.args.a c.args.w.now c.double-7.new.w 64 129
unfolding squared
full7 c =
    let more = (made 31 c.args.top _ (lit≤ tt) c.min-3.ensures).whole c.if-top-lt64.false in
    c.double-7.ensures c.args.a c.args.w.now 6 (lit≤ tt) refl refl
    (written_same c.args.a c.args.w.now c.double-6.new.w 64 _ 128 more (full6 (goal.at.After-double-7 c).After-double-6))

-- ---- the ways out

pub returns : goal.returns
returns c =
    let end = all c.args.top c.if-top-lt64.false c.requires in
    written_same c.args.a c.args.w.now c.double-7.new.w 64 129 _ end (full7 c)

pub returns-then-top-lt64 : goal.returns-then-top-lt64
returns-then-top-lt64 c =
    let m = made 31 c.args.top _ (lit≤ tt) c.min-3.ensures in
    written_same c.args.a c.args.w.now c.double-6.new.w 64 _ _ (m.part c.if-top-lt32.false c.if-top-lt64.true)
    (full6 (goal.at.returns-then-top-lt64 c).After-double-6)

pub returns-then-top-lt32 : goal.returns-then-top-lt32
returns-then-top-lt32 c =
    let m = made 15 c.args.top _ (lit≤ tt) c.min-2.ensures in
    written_same c.args.a c.args.w.now c.double-5.new.w 64 _ _ (m.part c.if-top-lt16.false c.if-top-lt32.true)
    (full5 (goal.at.returns-then-top-lt32 c).After-double-5)

pub returns-then-top-lt16 : goal.returns-then-top-lt16
returns-then-top-lt16 c =
    let m = made 7 c.args.top _ (lit≤ tt) c.min.ensures in
    written_same c.args.a c.args.w.now c.double-4.new.w 64 _ _ (m.part c.if-top-lt8.false c.if-top-lt16.true)
    (full4 (goal.at.returns-then-top-lt16 c).After-double-4)

pub returns-then-top-lt8 : goal.returns-then-top-lt8
returns-then-top-lt8 c =
    written_same c.args.a c.args.w.now c.double-3.new.w 64 72 _ (none c.args.top c.if-top-lt8.true) (full3 (goal.at.returns-then-top-lt8 c).After-double-3)
