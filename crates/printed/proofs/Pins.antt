-- Each printed table is the Rust's, digit by digit and row by row: its pin (common/proofs/Pin.antt), computed of the definition, is the
-- number that tools/pins.py works from the text of the Rust. Written by that script.
use mathlib.Core.Path.{◌≡◌, refl}
use mathlib.Core.List.{[], ◌∷◌}
use Rattle.common.specs.Decimal.{plus, minus, scaled}
use Rattle.common.proofs.Pin.{pin_from, pin_numbers}
use Rattle.algo.proofs.Pin.{pin_rows}
use Rattle.printed.specs.Volumes.{table3a, table3b, table3c, table3d, table3e, table3f, table3g, table3h, table3i, table3j, table3k, table3l, table3m, table3n, table3o, table3p, table3q, table3r, table3s, table3t, table3u, table3v, table3w, table3x, table3y, table3z}
use Rattle.printed.specs.Backward.{table_t3a_ph, table_t3b_ph, table_v3a_ph, table_v3b_ph, table_t3a_ps, table_t3b_ps, table_v3a_ps, table_v3b_ps, table_p3a_hs, table_p3b_hs}
use Rattle.printed.specs.Table30.{n1, table30}

pub volumes_pin :
    (pin_rows table3a ≡ 1274615227643181340)
    × (pin_rows table3b ≡ 144153423644807750)
    × (pin_rows table3c ≡ 2055366241564256174)
    × (pin_rows table3d ≡ 1783868685837039051)
    × (pin_rows table3e ≡ 1260427114185374376)
    × (pin_rows table3f ≡ 1354830475666450370)
    × (pin_rows table3g ≡ 436611771713969970)
    × (pin_rows table3h ≡ 966996116880185832)
    × (pin_rows table3i ≡ 255840953147409229)
    × (pin_rows table3j ≡ 1812291248464905102)
    × (pin_rows table3k ≡ 38111705718468325)
    × (pin_rows table3l ≡ 749080168662831187)
    × (pin_rows table3m ≡ 287650957194397546)
    × (pin_rows table3n ≡ 893817314467352791)
    × (pin_rows table3o ≡ 624013647744614150)
    × (pin_rows table3p ≡ 221367316770415125)
    × (pin_rows table3q ≡ 1348072598181755913)
    × (pin_rows table3r ≡ 1517158116754923980)
    × (pin_rows table3s ≡ 1297085693029521903)
    × (pin_rows table3t ≡ 1895339091297963424)
    × (pin_rows table3u ≡ 1474368117990648847)
    × (pin_rows table3v ≡ 847496199683035667)
    × (pin_rows table3w ≡ 1020881959436192798)
    × (pin_rows table3x ≡ 1964912316324857795)
    × (pin_rows table3y ≡ 1771170955067472868)
    × (pin_rows table3z ≡ 428487348676631886)
unfolding pin_from plus minus scaled table3a table3b table3c table3d table3e table3f table3g table3h table3i table3j table3k table3l table3m table3n table3o table3p table3q table3r table3s table3t table3u table3v table3w table3x table3y table3z
volumes_pin = (refl, refl, refl, refl, refl, refl, refl, refl, refl, refl, refl, refl, refl, refl, refl, refl, refl, refl, refl, refl, refl, refl, refl, refl, refl, refl)

pub backward_pin :
    (pin_rows table_t3a_ph ≡ 1709622609604993604)
    × (pin_rows table_t3b_ph ≡ 821210524894846961)
    × (pin_rows table_v3a_ph ≡ 937416818202873661)
    × (pin_rows table_v3b_ph ≡ 1978949259662444429)
    × (pin_rows table_t3a_ps ≡ 1013929703395531748)
    × (pin_rows table_t3b_ps ≡ 337690037185420606)
    × (pin_rows table_v3a_ps ≡ 1289206141289882055)
    × (pin_rows table_v3b_ps ≡ 1431660030074053911)
    × (pin_rows table_p3a_hs ≡ 715852003998083530)
    × (pin_rows table_p3b_hs ≡ 1004170558167968430)
unfolding pin_from plus minus scaled table_t3a_ph table_t3b_ph table_v3a_ph table_v3b_ph table_t3a_ps table_t3b_ps table_v3a_ps table_v3b_ps table_p3a_hs table_p3b_hs
backward_pin = (refl, refl, refl, refl, refl, refl, refl, refl, refl, refl)

pub table30_pin :
    (pin_rows table30 ≡ 995950434080585389)
    × (pin_numbers (n1 ∷ []) ≡ 957241407395814924)
unfolding pin_from plus minus scaled table30
table30_pin = (refl, refl)
