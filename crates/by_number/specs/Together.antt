-- To believe: cp and w at a T and a d in one call. The checks 1, 2, 3 refuse both halves with the same number; what follows is the joint formula's.
use Rattle.std.specs.Prelude.{Float}
use Rattle.common.specs.Outcome.{check}
use Rattle.common.specs.Answer.{paper}
use Rattle.properties.specs.Together.{CpAndW, Td2cp_w}
use Rattle.by_number.specs.Property.{boxed}
use Rattle.by_number.specs.declared.CpW.{CpW}

abbrev pub cp_and_w_rule : Float → Float → CpAndW
cp_and_w_rule t d =
    let both = Td2cp_w (check t) (check d) in
    record { cp = boxed t d both.cp; w = boxed t d both.w }

-- what an answer says
abbrev pub paper_cp_w : CpW → CpAndW
paper_cp_w r = record { cp = paper r.cp; w = paper r.w }
