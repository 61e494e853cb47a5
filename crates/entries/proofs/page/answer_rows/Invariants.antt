-- `entries::answer_rows`: after i turns the first i replies stand in the page. Assumes nothing.
use Rattle.std.proofs.Common.{◌≡◌, length}
use Rattle.std.proofs.lemmas.List.Edits.{sets}
use Rattle.entries.specs.Rows.{replies_to}
use Rattle.entries.proofs.page.answer_rows.Given as goal

abbrev pub invariant-loop-i : goal.invariant-loop-i
invariant-loop-i l = record {
  same_length : length l.replies ≡ length l.initial.replies;
  answered : l.replies ≡ sets l.initial.replies 0 (replies_to l.rows l.i);
}
