-- Each contract admits one answer. The theorems are about the contracts' own readings, `Reads.Post`. Assumes nothing.
use mathlib.Core.Path.{sym, ◌∙◌}
use Rattle.common.proofs.Same.{One, same_result}
use Rattle.rules.proofs as rules

pub power_one : One 0 rules.powi.power.Kinds.ps rules.powi.power.Kinds.r rules.powi.power.Reads.Post
power_one κs a e x y p q = same_result _ x y p q

pub exponential_one : One 0 rules.exp.exponential.Kinds.ps rules.exp.exponential.Kinds.r rules.exp.exponential.Reads.Post
exponential_one κs a e x y p q = same_result _ x y p q

pub bare_power_one : One 0 rules.powi.bare_power.Kinds.ps rules.powi.bare_power.Kinds.r rules.powi.bare_power.Reads.Post
bare_power_one κs a e x y p q = p ∙ sym q

pub raw_power_one : One 0 rules.powi.raw_power.Kinds.ps rules.powi.raw_power.Kinds.r rules.powi.raw_power.Reads.Post
raw_power_one κs a e x y p q = p ∙ sym q

pub raw_exponential_one : One 0 rules.exp.raw_exponential.Kinds.ps rules.exp.raw_exponential.Kinds.r rules.exp.raw_exponential.Reads.Post
raw_exponential_one κs a e x y p q = p ∙ sym q
