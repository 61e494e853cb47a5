-- Each contract admits one answer. The theorems are about the contracts' own readings, `Reads.Post`, and not about a copy of them.
-- Assumes nothing.
use mathlib.Core.Path.{◌≡◌, sym, ◌∙◌}
use mathlib.Core.List.{List}
use lib.Ieee.{Float}
use denote.Triple.Clauses.{AtExit}
use contract.Lifetimes.{Lfts}
use borrow.Fn.Kinds.{ParamKind, ResultKind, Out, Dens, ended_of, res_t}
use Rattle.common.proofs.Same.{One}
use Rattle.powers.proofs.Doubling.{written_once}
use Rattle.powers.proofs as powers

-- of any arguments, a contract of a function that fills the table leaves one content in it
abbrev Fills : (ps : List (ParamKind 1)) (r : ResultKind 1) → Out 1 ps r → ((κs : Lfts 1) → AtExit (ended_of 1 ps r) κs → List Float) → Type 0
Fills ps r post table =
    (κs : Lfts 1) (a : Dens κs ps) (d e : AtExit (ended_of 1 ps r) κs) (x y : (res_t r κs).Denot) → post κs a x d → post κs a y e → table κs d ≡ table κs e

pub fill_powers_one : Fills powers.fill_powers.Kinds.ps powers.fill_powers.Kinds.r powers.fill_powers.Reads.Post (λ κs e. e.1.1.1.0.now)
fill_powers_one κs a d e x y p q = written_once _ _ _ _ _ _ p q

pub fill_bare_one : Fills powers.fill_bare.Kinds.ps powers.fill_bare.Kinds.r powers.fill_bare.Reads.Post (λ κs e. e.1.1.1.0.now)
fill_bare_one κs a d e x y p q = written_once _ _ _ _ _ _ p q

pub power_in_one : One 1 powers.power_in.Kinds.ps powers.power_in.Kinds.r powers.power_in.Reads.Post
power_in_one κs a e x y p q = p ∙ sym q
