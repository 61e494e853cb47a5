-- To believe: which number names which sum, and what each comes to, by the library's own rules.
use Rattle.std.specs.Prelude.{ℕ, List, [], ◌∷◌, ℤ, Option, None, Some, Float}
use Rattle.std.specs.List.{slice_get}
use Rattle.algo.specs.Table.{term, term_i, term_ii, term_ij, term_j, term_jj}
use Rattle.polynomial.specs.Columns.{table_rule, pair_table, four_table}
use Rattle.algo.specs.declared.Order.TheVariants.{Zero, One}
use Rattle.algo.specs.declared.Share.TheVariants.{Whole, I, IAgain, J}
use Rattle.reply.specs.declared.Reply.{Reply}
use Rattle.sums_by_number.specs.declared.Sum.{Sum}
use Rattle.sums_by_number.specs.declared.Sum.TheVariants.{Poly, PolyI, PolyIi, PolyIj, PolyJ, PolyJj, Polys0J, PolysIJ, PolysIIj, PolysIIi, PolysIIiIjJj}
use Rattle.reply.specs.Shape.{refused_by, number_reply}
use Rattle.sums_by_number.specs.Shape.{two_reply, four_reply}

-- 0 to 10
abbrev pub numbered : List Sum
numbered = Poly ∷ PolyI ∷ PolyIi ∷ PolyIj ∷ PolyJ ∷ PolyJj ∷ Polys0J ∷ PolysIJ ∷ PolysIIj ∷ PolysIIi ∷ PolysIIiIjJj ∷ []

-- past the list there is none
unfoldable pub sum_of : ℕ → Option Sum
sum_of k = slice_get numbered k

-- of a table's three columns
unfoldable pub reply_rule : Sum → Float → Float → List ℤ → List ℤ → List Float → Reply
reply_rule Poly vi vj is js ns = number_reply (table_rule term vi vj is js ns)
reply_rule PolyI vi vj is js ns = number_reply (table_rule term_i vi vj is js ns)
reply_rule PolyIi vi vj is js ns = number_reply (table_rule term_ii vi vj is js ns)
reply_rule PolyIj vi vj is js ns = number_reply (table_rule term_ij vi vj is js ns)
reply_rule PolyJ vi vj is js ns = number_reply (table_rule term_j vi vj is js ns)
reply_rule PolyJj vi vj is js ns = number_reply (table_rule term_jj vi vj is js ns)
reply_rule Polys0J vi vj is js ns = two_reply (pair_table Zero Whole J vi vj is js ns)
reply_rule PolysIJ vi vj is js ns = two_reply (pair_table Zero I J vi vj is js ns)
reply_rule PolysIIj vi vj is js ns = two_reply (pair_table One Whole J vi vj is js ns)
reply_rule PolysIIi vi vj is js ns = two_reply (pair_table One Whole IAgain vi vj is js ns)
reply_rule PolysIIiIjJj vi vj is js ns = four_reply (four_table vi vj is js ns)

-- of a number that names none
abbrev pub asked_rule : Option Sum → Float → Float → List ℤ → List ℤ → List Float → Reply
asked_rule (Some sum) vi vj is js ns = reply_rule sum vi vj is js ns
asked_rule None vi vj is js ns = refused_by 255
