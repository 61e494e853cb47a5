-- Each contract admits one answer. Assumes nothing.
use mathlib.Core.Path.{sym, ◌∙◌}
use Rattle.common.proofs.Same.{One}
use Rattle.subregion.proofs.Bytes.{same_decoded}
use Rattle.subregion.proofs as subregion

pub of_byte_one : One 0 subregion.of_byte.Kinds.ps subregion.of_byte.Kinds.r subregion.of_byte.Reads.Post
of_byte_one κs a e x y p q = p ∙ sym q

pub letter_byte_one : One 0 subregion.letter_byte.Kinds.ps subregion.letter_byte.Kinds.r subregion.letter_byte.Reads.Post
letter_byte_one κs a e x y p q = p ∙ sym q

pub from_one : One 0 subregion.U8FromLetter.from.Kinds.ps subregion.U8FromLetter.from.Kinds.r subregion.U8FromLetter.from.Reads.Post
from_one κs a e x y p q = p ∙ sym q

pub try_from_one : One 0 subregion.LetterTryFromU8.try_from.Kinds.ps subregion.LetterTryFromU8.try_from.Kinds.r subregion.LetterTryFromU8.try_from.Reads.Post
try_from_one κs a e x y p q = same_decoded _ x y p q
