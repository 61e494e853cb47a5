-- To believe: what the entries answer that name a boundary, a letter or a side of the saturation line by a whole number, by the library's own rules.
use Rattle.std.specs.Prelude.{List, [], ◌∷◌, ℤ, Float}
use Rattle.boundaries.specs.declared.Boundary.{Boundary}
use Rattle.boundaries.specs.declared.Boundary.TheVariants.{Ab, Cd, Ef, Gh, Ij, Jk, Mn, Op, Qu, Rx, Uv, Wx}
use Rattle.boundaries.specs.Boundary.{boundary_rule}
use Rattle.volume_at.specs.declared.Phase.TheVariants.{Liquid, Steam}
use Rattle.volume_at.specs.Volumes as volume
use Rattle.reply.specs.declared.Reply.{Reply}
use Rattle.reply.specs.Shape.{number_reply}
use Rattle.number_entries.specs.Named.{entry_at, letter_at, named}

-- a boundary by its number
abbrev pub boundaries : List Boundary
boundaries = Ab ∷ Cd ∷ Ef ∷ Gh ∷ Ij ∷ Jk ∷ Mn ∷ Op ∷ Qu ∷ Rx ∷ Uv ∷ Wx ∷ []

unfoldable pub boundary_reply : ℤ → Float → Reply
boundary_reply n p = named (entry_at boundaries n) (λ b. number_reply (boundary_rule b p))

-- a volume equation by its letter's ASCII
unfoldable pub letter_volume_reply : ℤ → Float → Float → Reply
letter_volume_reply n p t = named (letter_at n) (λ l. number_reply (volume.pT2v_3subreg_rule p t l))

-- a side of the saturation line by its number
unfoldable pub phase_volume_reply : ℤ → Float → Float → Reply
phase_volume_reply n p t = named (entry_at (Liquid ∷ Steam ∷ []) n) (λ x. number_reply (volume.pT2v_sat_reg3_rule p t x))
