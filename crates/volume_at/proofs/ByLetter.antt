-- The volume of the state that a letter's equation gives is the volume by that equation, once its density has passed.
use mathlib.Core.Path.{◌≡◌, refl}
use lib.Ieee.{Float}
use Rattle.common.specs.Outcome.{Outcome, value, refused, then}
use Rattle.record.specs.State.{density_of, volume_of}
use Rattle.record.specs.declared.Origin.{Origin}
use Rattle.record.specs.declared.Origin.TheVariants.{Subregion}
use Rattle.subregion.specs.declared.Letter.{Letter}
use Rattle.volume.specs.Equation.{volume_at}
use Rattle.volume.specs.State.{state_of, state_by}
use Rattle.volume_at.specs.Volumes.{volume_in}

by_density : (o : Origin) (v : Float) (q : Outcome Float)
    → volume_in (then q (λ d. value (record { origin = o; volume = record { 0 = v }; density = record { 0 = d } }))) ≡ then q (λ _. value v)
by_density o v (value d) = refl
by_density o v (refused k) = refl

in_state : (o : Origin) (q : Outcome Float) → volume_in (state_of o q) ≡ volume_of q
in_state o (value v) = by_density o v (density_of (value v))
in_state o (refused k) = refl

pub by_letter : (l : Letter) (p t : Float) → volume_in (state_by (Subregion l) p t) ≡ volume_of (volume_at l p t)
unfolding state_by
by_letter l p t = in_state (Subregion l) (volume_at l p t)
