-- `sums_by_number::sum_of` meets its contract: a sum of the list, or none past its end. Assumes nothing.
use Rattle.std.proofs.Common.{◌≡◌, ℕ, List, Option, None, Some, Bor, refl, sym, ap, ◌∙◌}
use Rattle.std.specs.List.{slice_get}
use Rattle.std.specs.Option.{option_copied}
use Rattle.std.specs.Slice.{IsItemAt}
use Rattle.std.proofs.lemmas.Option.{slice_get_past, slice_get_read}
use Rattle.sums_by_number.specs.Sums.{sum_of, numbered}
use Rattle.sums_by_number.proofs.sums.sum_of.Goals as goal

found : {A : Type 0} (xs : List A) (k : ℕ) (r : Option (Bor A)) → IsItemAt xs k r → option_copied r ≡ slice_get xs k
found xs k None h = sym (slice_get_past xs k h.3)
found xs k (Some x) h = sym (slice_get_read xs _ k x.now refl h.3.0 (h.3.1 x.now))

pub returns : goal.returns
unfolding sum_of
returns c = c.copied.ensures ∙ found numbered c.from.result c.get.result c.get.ensures.lookup ∙ ap (slice_get numbered) c.from.ensures
