-- `entry_numbers::entry_of` meets its contract: an entry of the table, or none past its end. Assumes nothing.
use Rattle.std.proofs.Common.{◌≡◌, ℕ, List, get_or, Option, None, Some, Bor, ap, ◌∙◌, le_refl}
use Rattle.std.specs.Option.{option_copied, option_flatten}
use Rattle.std.specs.Slice.{IsItemAt}
use Rattle.entry_numbers.specs.Numbers.{entry_of, entries}
use Rattle.entry_numbers.specs.declared.Entry.{Entry}
use Rattle.entry_numbers.proofs.entry_of.Goals as goal

found : {A : Type 0} (xs : List (Option A)) (k : ℕ) (r : Option (Bor (Option A))) → IsItemAt xs k r → option_flatten (option_copied r) ≡ get_or xs k None
found xs k None h = h.4 (le_refl k) None
found xs k (Some x) h = h.4 (le_refl k) None

pub returns : goal.returns
unfolding entry_of
returns c =
    c.flatten.ensures
    ∙ ap (λ (o : Option (Option Entry)). option_flatten o) c.copied.ensures
    ∙ found entries c.from.result c.get.result c.get.ensures.lookup
    ∙ ap (λ (k : ℕ). get_or entries k None) c.from.ensures
