-- `text::put_digits` meets its contract: the digits of the tenth part, and then the last one; the measure is the number. Assumes nothing.
use native.Mathlib.Omega.{arith}
use Rattle.text.proofs.Laws.{last_length, more_length, wrote_last, wrote_more}
use Rattle.text.proofs.+put_digits.Goals as goal

pub bounds-out-at : goal.bounds-out-at
bounds-out-at t c = omega (arith, last_length c.args.n c.if-n-lt10.true)

pub returns-then-n-lt10 : goal.returns-then-n-lt10
returns-then-n-lt10 t c = let a = c.args in wrote_last a.out.now a.at a.n c.digit.result c.if-n-lt10.true c.digit.ensures

pub put_digits-next-requires : goal.put_digits-next-requires
put_digits-next-requires t c =
    let e = more_length c.args.n c.if-n-lt10.false in
    (omega arith, omega arith)

pub bounds-out-next : goal.bounds-out-next
bounds-out-next t c = omega (arith, more_length c.args.n c.if-n-lt10.false)

pub overflow_add-result-2 : goal.overflow_add-result-2
overflow_add-result-2 t c = omega (arith, more_length c.args.n c.if-n-lt10.false)

pub returns : goal.returns
returns t c =
    let a = c.args in
    let r = c.put_digits-next in
    wrote_more a.out.now r.new.out a.at a.n r.result c.digit-2.result c.if-n-lt10.false r.ensures c.digit-2.ensures
