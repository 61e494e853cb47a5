-- A half that is worked over four sums, each worked with no check and tested once, is that half of the joint definition.
use mathlib.Core.Path.{◌≡◌, sym, ap, subst, ◌∙◌}
use lib.Ieee.{Float}
use Rattle.common.specs.Outcome.{Outcome, check}
use Rattle.common.specs.Formula.{Raw}
use Rattle.helmholtz.specs.declared.region3_hfe.Slopes.{Slopes}
use Rattle.common.specs.Number.{Number}
use Rattle.helmholtz.specs.Hfe.{four_delta, four_deltadelta, four_deltatau, four_tautau}
use Rattle.properties.specs.Td.{Sums, sums, cp_over, w_over, reduced_density, inverse_temperature, Td2cp, Td2w}
use Rattle.properties.specs.Together.{checked, Td2cp_w}
use Rattle.properties.proofs.Together.{cp_half, w_half}

module _ (t d : Float) {δ τ : Float} {φ : Slopes} (x : Raw (reduced_density (check d)) δ) (y : Raw (inverse_temperature (check t)) τ)
    (a : Raw (four_delta (check δ) (check τ)) φ.delta) (b : Raw (four_deltadelta (check δ) (check τ)) φ.deltadelta)
    (c : Raw (four_deltatau (check δ) (check τ)) φ.deltatau) (e : Raw (four_tautau (check δ) (check τ)) φ.tautau) where
  sums_worked : sums (check δ) (check τ) ≡ checked φ
  sums_worked = rw (a.is, b.is, c.is, e.is)

  -- a formula over four sums
  worked : (f : Sums → Outcome Float → Outcome Float → Outcome Float) → f (sums (reduced_density (check d)) (inverse_temperature (check t))) (reduced_density (check d)) (inverse_temperature (check t)) ≡ f (checked φ) (check δ) (check τ)
  worked f =
      ap (λ (δ : Outcome Float). f (sums δ (inverse_temperature (check t))) δ (inverse_temperature (check t))) x.is
      ∙ ap (λ (τ : Outcome Float). f (sums (check δ) τ) (check δ) τ) y.is
      ∙ ap (λ (φ : Sums). f φ (check δ) (check τ)) sums_worked

  pub cp_worked : {r : Float} → Number (cp_over (checked φ) (check δ) (check τ)) r → Number (Td2cp_w (check t) (check d)).cp r
  unfolding Td2cp
  cp_worked {r} n = subst (λ (o : Outcome Float). Number o r) (sym (cp_half t d ∙ worked cp_over)) n

  pub w_worked : {r : Float} → Number (w_over (check t) (checked φ) (check δ) (check τ)) r → Number (Td2cp_w (check t) (check d)).w r
  unfolding Td2w
  w_worked {r} n = subst (λ (o : Outcome Float). Number o r) (sym (w_half t d ∙ worked (w_over (check t)))) n
