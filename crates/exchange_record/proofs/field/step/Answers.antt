-- `exchange_record::field::step` meets its contract: a header or a body cut off, or a whole field and its fate. Assumes nothing.
use mathlib.Core.Path.{◌≡◌, refl, sym, ap, ◌∙◌}
use mathlib.Core.Logic.{inl}
use Rattle.std.specs.Prelude.{Ok}
use Rattle.std.proofs.lemmas.Result.{err_from_is_err_and}
use Rattle.exchange_record.specs.Grammar.{fate_of, taken}
use Rattle.exchange_record.specs.Walk.{paper_fate}
use Rattle.exchange_record.proofs.Fields.{cut_header, cut_body, taken_size, passes, takes, stops}
use Rattle.exchange_record.proofs.field.step.Goals as goal
use Rattle.exchange_record.proofs.field.step.Goals.{in-Skipped, in-Taken}

pub returns-in_default : goal.returns-in_default
returns-in_default c = inl (cut_header c.args.s.now c.requires c.in_default.len_below, refl)

pub returns-in_default-split_at_checked : goal.returns-in_default-split_at_checked
returns-in_default-split_at_checked c =
    inl (cut_body c.args.s.now c.said-size.result c.in-len3-up.len_at_least c.said-size.ensures c.in_default-split_at_checked.ensures.cases, refl)

pub returns-in_err-judge : goal.returns-in_err-judge
returns-in_err-judge c =
    let p = err_from_is_err_and c.from_residual.result c.from_residual.ensures.1 in
    rw (p.1, p.2)
    (stops c.args.s.now c.said-size.result c.in-len3-up.len_at_least c.said-size.ensures c.args.seen.now _ c.last.ensures _ _ c.in-Some.ensures.cases
    _ (sym c.in_err-judge.ensures))

pub word_of-requires : goal.word_of-requires
word_of-requires c =
    let e : fate_of c.last.result _ _ ≡ taken = sym c.in_ok-judge.ensures ∙ ap (λ f. paper_fate (Ok f)) c.in-Taken.is in
    c.in-Some.ensures.cases.3 ∙ taken_size _ _ _ e

pub returns : goal.returns
returns c =
    elim c.match-branch-2.branch [
      | in-Skipped w ↦
          rw w.seen-is
          (passes c.args.s.now c.said-size.result c.in-len3-up.len_at_least c.said-size.ensures c.args.seen.now _ c.last.ensures _ _ c.in-Some.ensures.cases
          (sym c.in_ok-judge.ensures ∙ ap (λ f. paper_fate (Ok f)) w.in-Skipped.is))
      | in-Taken w ↦
          takes c.args.s.now c.said-size.result c.in-len3-up.len_at_least c.said-size.ensures c.args.seen.now _ c.last.ensures _ _ c.in-Some.ensures.cases
          (sym c.in_ok-judge.ensures ∙ ap (λ f. paper_fate (Ok f)) w.in-Taken.is) _ (w.seen-is ∙ w.with.ensures ∙ rw w.word_of.ensures)
    ]
