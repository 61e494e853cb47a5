-- The exchange record of docs/SCOPE.md answered: its two records of (24, 650), one with fields to skip, and its NaN, from the bytes to the entry's own numbers,
-- in one statement. Worked out by antt. Assumes nothing.
use mathlib.Core.Path.{◌≡◌, refl}
use mathlib.Core.List.{List, [], ◌∷◌, ◌++◌}
use Prim.Native.Nat.{ℕ}
use lib.Dec.{T}
use lib.ListN.{replicate}
use lib.Ieee.{Float, of_bits}
use lib.Ieee.{round, neg, add, sub, sum, mul, div, of_int, le, lt}
use Rattle.common.specs.Decimal.{scaled, decimal, whole, plus, minus}
use Rattle.common.specs.Sum.{total}
use Rattle.inverses.specs.Units.{in_units}
use Rattle.rules.specs.Power.{power_rule, by_bits, lowest}
use Rattle.inverses.specs.Root.{root_rule, nearest_root, whole_root}
use Rattle.inverses.specs.Log.{logarithm_rule, ln_of, ln_steps, L}
use Rattle.rules.specs.Exp.{exponential_rule, exp_steps, nearest_whole}
use Rattle.algo.specs.Table.{sum_rule}
use Rattle.algo.specs.Joint.{share_rule}
use Rattle.printed.specs.Volumes.{table3a, table3b, table3c, table3d, table3e, table3f, table3g, table3h, table3i, table3j, table3k, table3l, table3m, table3n, table3o, table3p, table3q, table3r, table3s, table3t, table3u, table3v, table3w, table3x, table3y, table3z}
use Rattle.r4.specs.Saturation.{p_saturation, T_saturation}
use Rattle.border.specs.Border.{B23_p2T, beside_border, region3_box}
use Rattle.boundaries.specs.Boundary.{walk_rule, row_at, table, straight3ef}
use Rattle.boundary.specs.Choice.{letter_at, ab_rule, cdef_rule, chijk_rule, clmnopjk_rule, near_rule, cq_rk_rule, csrk_rule, cst_rule, ct_rule, limit}
use Rattle.volume.specs.Equation.{volume_at, volume_by}
use Rattle.origin.specs.Origin.{origin_at, origin_rule}
use Rattle.volume.specs.State.{state_by}
use Rattle.volume_at.specs.Volumes.{found_rule}
use Rattle.printed.specs.Table30.{table30}
use Rattle.helmholtz.specs.Hfe.{slope, phi, phi_delta, phi_deltadelta, share, joint_phi, joint_delta, four_delta, four_deltadelta}
use Rattle.properties.specs.Td.{Td2v, Td2p, Td2h, Td2s, Td2u, Td2cv, Td2cp, Td2w, state_pressure}
use Rattle.td_record.specs.Steps.{record_steps, record_after}
use Rattle.region3.specs.Entries.{pT_rule}
use Rattle.common.specs.Outcome.{Outcome, value, refused, number_in, zero_f}
use Rattle.record.specs.declared.Record.{Record}
use Rattle.record.specs.Record.{report}
use Rattle.exchange_record.specs.declared.Pair.{Pair}
use Rattle.exchange_record.specs.declared.Pair.TheVariants.{PT}
use Rattle.exchange_record.specs.Reading.{Means}
use Rattle.exchange_record.proofs.Points as read
use Rattle.exchange_entry.specs.Call.{Exchanged}
use Rattle.common.proofs.Sums.{both_left, both_right}
use Rattle.record_points.proofs.Columns.{same, every_number}
use Rattle.record_points.proofs.Records.{is_record, pT_accepted}

-- what some bytes are answered with: the pair, the number, the density
pub record Answered (s : List ℕ) (pair : Outcome Pair) (number : ℕ) (d : Float) : Type 0 where
  pub answer : Outcome Pair × (Outcome Unit × Record)
  pub exchanged : Exchanged s answer
  pub pair_is : answer.0 ≡ pair
  pub number_is : number_in answer.1.0 ≡ number
  pub density_is : T (same answer.1.1.d d)

-- the number and the density of an accepted record
told : (t d : Float) (xs : List Float) (o : Outcome Record) → T (is_record (t ∷ d ∷ xs) o) → (number_in (report o).0 ≡ 0) × T (same (report o).1.d d)
unfolding every_number
told t d xs (value r) h = (refl, both_left (same r.d d) _ (both_right (same r.T t) _ h))
told t d xs (refused k) h = absurd h

at_24_650 : (s : List ℕ) → Means s (value (record { pair = PT; a = 0x4038_0000_0000_0000; b = 0x4084_5000_0000_0000 }))
    → Answered s (value PT) 0 (decimal 461_6711044147961 13)
unfolding of_bits scaled whole round
at_24_650 s m =
    let known = told _ _ _ (pT_rule (whole 24) (whole 650)) pT_accepted in
    record {
      answer = (value PT, report (pT_rule (whole 24) (whole 650)));
      exchanged = record { read = value (record { pair = PT; a = 0x4038_0000_0000_0000; b = 0x4084_5000_0000_0000 }); means = m; answer = refl };
      pair_is = refl;
      number_is = known.0;
      density_is = known.1;
    }

at_NaN : (s : List ℕ) → Means s (value (record { pair = PT; a = 0x7ff8_0000_0000_0000; b = 0x4084_5000_0000_0000 })) → Answered s (value PT) 1 zero_f
unfolding pT_rule record_steps record_after Td2v Td2p Td2h Td2s Td2u Td2cv Td2cp Td2w state_pressure slope phi phi_delta phi_deltadelta share joint_phi joint_delta four_delta four_deltadelta share_rule table30 sum_rule total found_rule origin_rule region3_box beside_border B23_p2T origin_at state_by volume_at volume_by letter_at ab_rule cdef_rule chijk_rule clmnopjk_rule near_rule cq_rk_rule csrk_rule cst_rule ct_rule limit walk_rule row_at table straight3ef p_saturation T_saturation table3a table3b table3c table3d table3e table3f table3g table3h table3i table3j table3k table3l table3m table3n table3o table3p table3q table3r table3s table3t table3u table3v table3w table3x table3y table3z power_rule by_bits lowest root_rule nearest_root whole_root in_units logarithm_rule ln_of ln_steps exponential_rule exp_steps nearest_whole L scaled decimal whole plus minus round neg add sub sum mul div of_int le lt of_bits
at_NaN s m =
    record {
      answer = (value PT, (refused 1, (report (refused 1)).1));
      exchanged = record { read = value (record { pair = PT; a = 0x7ff8_0000_0000_0000; b = 0x4084_5000_0000_0000 }); means = m; answer = refl };
      pair_is = refl;
      number_is = refl;
      density_is = tt;
    }

at_18_640 : (s : List ℕ) → Means s (value (record { pair = PT; a = 0x4032_0000_0000_0000; b = 0x4084_0000_0000_0000 })) → Answered s (value PT) 8 zero_f
unfolding pT_rule record_steps record_after Td2v Td2p Td2h Td2s Td2u Td2cv Td2cp Td2w state_pressure slope phi phi_delta phi_deltadelta share joint_phi joint_delta four_delta four_deltadelta share_rule table30 sum_rule total found_rule origin_rule region3_box beside_border B23_p2T origin_at state_by volume_at volume_by letter_at ab_rule cdef_rule chijk_rule clmnopjk_rule near_rule cq_rk_rule csrk_rule cst_rule ct_rule limit walk_rule row_at table straight3ef p_saturation T_saturation table3a table3b table3c table3d table3e table3f table3g table3h table3i table3j table3k table3l table3m table3n table3o table3p table3q table3r table3s table3t table3u table3v table3w table3x table3y table3z power_rule by_bits lowest root_rule nearest_root whole_root in_units logarithm_rule ln_of ln_steps exponential_rule exp_steps nearest_whole L scaled decimal whole plus minus round neg add sub sum mul div of_int le lt of_bits
at_18_640 s m =
    record {
      answer = (value PT, (refused 8, (report (refused 8)).1));
      exchanged = record { read = value (record { pair = PT; a = 0x4032_0000_0000_0000; b = 0x4084_0000_0000_0000 }); means = m; answer = refl };
      pair_is = refl;
      number_is = refl;
      density_is = tt;
    }

pub points :
    Answered (read.p_field ++ read.T_field) (value PT) 0 (decimal 461_6711044147961 13)
    × Answered ((200 ∷ 0 ∷ 0 ∷ []) ++ read.p_field ++ (128 ∷ 0 ∷ 3 ∷ 97 ∷ 98 ∷ 99 ∷ []) ++ read.T_field ++ (255 ∷ 1 ∷ 44 ∷ replicate 300 90)) (value PT) 0 (decimal 461_6711044147961 13)
    × Answered (read.p_NaN ++ read.T_field) (value PT) 1 zero_f
    × Answered (read.p_18 ++ read.T_640) (value PT) 8 zero_f
points =
    (at_24_650 _ (read.points).0, at_24_650 _ (read.points).1.0, at_NaN _ (read.points).1.1.1.1.1.1.1.1.1.1.1.1.1.1.1.1.1.1.1.1.0, at_18_640 _ (read.points).1.1.1.1.1.1.1.1.1.1.1.1.1.1.1.1.1.1.1.1.1.0)
