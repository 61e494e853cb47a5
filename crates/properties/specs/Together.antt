-- To believe: cp and w together, from one evaluation of the four joint sums. The sums are worked first, and a lost one refuses both halves; what follows is
-- each half's own, so that a refusal there stays in its half. proofs/Together shows that each half is what cp or w gives by itself.
use Rattle.std.specs.Prelude.{Float}
use Rattle.common.specs.Outcome.{Outcome, value, refused, check}
use Rattle.helmholtz.specs.declared.region3_hfe.Slopes.{Slopes}
use Rattle.properties.specs.Td.{Sums, sums, cp_over, w_over, reduced_density, inverse_temperature}

pub record CpAndW : Type 0 where
  pub cp : Outcome Float
  pub w : Outcome Float

-- the steps of both after a step that both need
abbrev pub then_both : Outcome Float → (Float → CpAndW) → CpAndW
then_both (value x) f = f x
then_both (refused k) f = record { cp = refused k; w = refused k }

-- over any four sums, at a temperature
unfoldable pub both_over : Outcome Float → Sums → Outcome Float → Outcome Float → CpAndW
both_over T φ δ τ =
    then_both φ.delta (λ a. then_both φ.deltadelta (λ b. then_both φ.deltatau (λ c. then_both φ.tautau (λ e.
    let known : Sums = record { delta = value a; deltadelta = value b; deltatau = value c; tautau = value e } in
    record { cp = cp_over known δ τ; w = w_over T known δ τ }))))

-- at a T and a d
unfoldable pub Td2cp_w : Outcome Float → Outcome Float → CpAndW
Td2cp_w T d =
    let δ = reduced_density d in
    let τ = inverse_temperature T in
    both_over T (sums δ τ) δ τ

-- ---- Helps proofs only: four sums as numbers that no step has checked

abbrev pub checked : Slopes → Sums
checked φ = record { delta = check φ.delta; deltadelta = check φ.deltadelta; deltatau = check φ.deltatau; tautau = check φ.tautau }
