-- To believe: what a whole number names.
use Rattle.std.specs.Prelude.{cond, ◌-◌, List, ltb, ℤ, pos, negsuc, Option, None, Some, slice_get}
use Rattle.subregion.specs.declared.Letter.{Letter}
use Rattle.subregion.specs.Letter.{alphabet}
use Rattle.reply.specs.declared.Reply.{Reply}
use Rattle.reply.specs.Shape.{refused_by}

-- no such entry, boundary, letter or phase
abbrev pub unknown : Reply
unknown = refused_by 255

-- the entry of a list at the place that a number names; a negative one names none
abbrev pub entry_at : {A : Type 0} → List A → ℤ → Option A
entry_at xs (pos k) = slice_get xs k
entry_at xs (negsuc k) = None

-- the letter whose ASCII a number is
abbrev pub letter_at : ℤ → Option Letter
letter_at (pos k) = cond (ltb k 97) None (slice_get alphabet (k - 97))
letter_at (negsuc k) = None

-- what f answers for what a number names
abbrev pub named : {A : Type 0} → Option A → (A → Reply) → Reply
named (Some x) f = f x
named None f = unknown
