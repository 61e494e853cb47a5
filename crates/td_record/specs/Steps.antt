-- To believe: the steps of the property record, in the order of docs/SCOPE.md: v, p, h, s, u, cv, cp, w. The first that is refused refuses it.
use Rattle.std.specs.Prelude.{Float}
use Rattle.common.specs.Outcome.{Outcome, value, check, then}
use Rattle.common.specs.Range.{Td_box}
use Rattle.properties.specs.Td.{Formula, Td2v, Td2h, Td2s, Td2u, Td2cv, Td2cp, Td2w, state_pressure}
use Rattle.record.specs.declared.Record.{Record}
use Rattle.td_record.specs.declared.Pressure.{Pressure}
use Rattle.td_record.specs.declared.Pressure.TheVariants.{Worked, Found}

-- p: worked from T and d and range-tested, or found before
abbrev pub pressure_from : Pressure → Formula
pressure_from Worked T d = state_pressure T d
pressure_from (Found p) T d = check p.0

-- the steps after p: h, s, u, cv, and then a cp and a w
abbrev pub record_with : Float → Float → Float → Float → Outcome Float → Outcome Float → Outcome Record
record_with t d v p Cp W =
    let T = check t in
    let D = check d in
    then (Td2h T D) (λ h. then (Td2s T D) (λ s. then (Td2u T D) (λ u. then (Td2cv T D) (λ cv. then Cp (λ cp. then W (λ w.
    value record { T = t; d = d; v = v; p = p; h = h; s = s; u = u; cv = cv; cp = cp; w = w }))))))

-- with the cp and the w of table 31
unfoldable pub record_after : Float → Float → Float → Float → Outcome Record
record_after t d v p = record_with t d v p (Td2cp (check t) (check d)) (Td2w (check t) (check d))

-- the steps at a state T, d, v: v, p and the others
unfoldable pub record_steps : Float → Float → Float → Pressure → Outcome Record
record_steps t d v source = then (check v) (λ v. then (pressure_from source (check t) (check d)) (λ p. record_after t d v p))

-- the record at a T and a d
unfoldable pub record_rule : Float → Float → Outcome Record
record_rule t d = then (Td_box t d) (λ _. then (Td2v (check t) (check d)) (λ v. record_steps t d v Worked))
