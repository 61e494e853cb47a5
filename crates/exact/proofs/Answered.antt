-- The letter choice answers: for two f64s of the box it gives a letter wherever T lies, unless T is above the border with region 2. Every line that p's band
-- works is accepted there. Assumes nothing.
use mathlib.Core.Path.{◌≡◌, refl, sym, ap, ◌∙◌, subst}
use Prim.Native.Nat.{ℕ, ◌*◌, ◌≤◌}
use native.Mathlib.Nat.{le_trans, mul-le-mul_right}
use mathlib.Core.Bool.{Bool, true, false, not, ◌&&◌, cond}
use mathlib.Core.List.{List, [], ◌∷◌}
use lib.Dec.{T, nltb→le, lit≤}
use lib.Ieee.{Float, le, lt, round}
use contract.Lifetimes.{Lfts}
use denote.Triple.Clauses.{AtExit}
use borrow.Fn.Kinds.{Dens, ended_of, res_t}
use Rattle.common.specs.Outcome.{Outcome, value, then}
use Rattle.common.specs.Decimal.{decimal, scaled}
use Rattle.border.specs.Border.{region3_box}
use Rattle.rounding.specs.Fraction.{scaled_by}
use Rattle.subregion.specs.declared.Letter.{Letter}
use Rattle.std.specs.Prelude.{Ok}
use Rattle.choosers.specs.Choosers.{Band, ab, cdef, cghijk, clhijk, clmnopjk, cq_rk, csrk, cst, ct, band_of}
use Rattle.r4.specs.Saturation.{T_saturation}
use Rattle.boundary.specs.Choice.{ab_rule, cdef_rule, chijk_rule, clmnopjk_rule, near_rule, cq_rk_rule, csrk_rule, cst_rule, ct_rule, in_band, letter_at, letter_rule}
use Rattle.boundary.proofs.Limit.{limit_is}
use Rattle.boundary.proofs.sub_region3_pT.Kinds as choice-kinds
use Rattle.boundary.proofs.sub_region3_pT.Reads as choice
use Rattle.distance.specs.Exact.{ef, uv, Q}
use Rattle.distance.specs.Letter.{All}
use Rattle.distance.proofs.Contract.{taken}
use Rattle.exact_lines.specs.Letter.{Line, in_p, line3wx, saturation_line, exact_band, lines_of}
use Rattle.exact.specs.Premises.{InBox}
use Rattle.exact.proofs.BandLimit.{f64_limit}
use Rattle.exact.proofs.Judged.{InRange}
use Rattle.exact.proofs.BandLetters.{Accepted}
use Rattle.exact.proofs.Placed.{Placed, placed}
use Rattle.exact.proofs.Pressures.{lt_is, exact_22_064}
use Rattle.exact.proofs.Critical.{sat_range, wx_range, wide, accept}
use Rattle.exact.proofs.Whole.{band, in_range_lem}

pub record Answered (o : Outcome Letter) : Type 0 where
  pub letter : Letter
  pub is : o ≡ value letter

answer : (l : Letter) → Answered (value l)
answer l = record { letter = l; is = refl }

either : (b : Bool) {x y : Outcome Letter} → Answered x → Answered y → Answered (cond b x y)
either true h k = h
either false h k = k

after : (f : Float → Outcome Letter) {o : Outcome Float} (y : Float) → o ≡ value y → Answered (f y) → Answered (then o f)
after f y e h = record { letter = h.letter; is = ap (λ (o : Outcome Float). then o f) e ∙ h.is }

module _ (p t : Float) (g : Placed p t) where
  abbrev P : ℕ
  P = scaled_by 48 p

  accept_all : (bs : List Line) → All (InRange P) bs → All (Accepted p) bs
  accept_all [] r = tt
  accept_all (b ∷ bs) r = (accept p t g b r.0, accept_all bs r.1)

  -- the saturation line is worked near the critical point up to the f64 of 22.064
  low : lt (decimal 22_064 3) p ≡ false → P * 1000 ≤ 22065 * Q
  unfolding decimal scaled round scaled_by
  low e =
      let A = scaled_by 48 (decimal 22_064 3) in
      le_trans
      (mul-le-mul_right {n = A} 1000
      (nltb→le A P (subst (λ (b : Bool). T (not b)) (sym e ∙ lt_is p P g.whole_p (decimal 22_064 3) A exact_22_064) tt)))
      (lit≤ tt)

  by_saturation : (x : Letter) (f : Float → Outcome Letter) → ((y : Float) → Answered (f y))
      → Answered (cond (lt (decimal 22_064 3) p) (value x) (then (T_saturation p) f))
  by_saturation x f h = go (lt (decimal 22_064 3) p) refl
    where
      go : (b : Bool) → lt (decimal 22_064 3) p ≡ b → Answered (cond b (value x) (then (T_saturation p) f))
      go true e = answer x
      go false e = let s = accept p t g saturation_line (sat_range p t g (low e)) in after _ s.number s.is (h s.number)

  near_answered : P ≤ 23 * Q → Answered (near_rule p t)
  unfolding near_rule
  near_answered m =
      let u = accept p t g (in_p uv) m in
      let w = accept p t g line3wx (wx_range p t g m) in
      let e = accept p t g (in_p ef) (wide p t g 23 40 m (lit≤ tt)) in
      after _ u.number u.is
      (after _ w.number w.is (after _ e.number e.is (either (lt (decimal 22_11 2) p) (answer _) (by_saturation _ _ (λ y. answer _)))))

  in_band_lem : (B : Band) → All (InRange P) (lines_of B P) → Answered (in_band B p t)
  unfolding ab_rule cdef_rule chijk_rule clmnopjk_rule cq_rk_rule csrk_rule cst_rule ct_rule
  in_band_lem B r = go B r (accept_all (lines_of B P) r)
    where
      go : (B : Band) → All (InRange P) (lines_of B P) → All (Accepted p) (lines_of B P) → Answered (in_band B p t)
      go ab r (a, _) = after _ a.number a.is (answer _)
      go cdef r (c, (a, (e, _))) = after _ a.number a.is (after _ c.number c.is (after _ e.number e.is (answer _)))
      go cghijk r (c, (g, (e, (i, (k, _))))) =
          after _ c.number c.is
          (after _ e.number e.is (after _ g.number g.is (after _ i.number i.is (after _ k.number k.is (answer _)))))
      go clhijk r (c, (g, (e, (i, (k, _))))) =
          after _ c.number c.is
          (after _ e.number e.is (after _ g.number g.is (after _ i.number i.is (after _ k.number k.is (answer _)))))
      go clmnopjk r (c, (g, (m, (e, (o, (i, (k, _))))))) =
          after _ c.number c.is
          (after _ e.number e.is
          (after _ g.number g.is
          (after _ i.number i.is (after _ k.number k.is (after _ m.number m.is (after _ o.number o.is (answer _)))))))
      go cq_rk r (c, (q, (x, (k, _)))) =
          after _ c.number c.is
          (after _ q.number q.is
          (after _ x.number x.is
          (after _ k.number k.is
          (either (le t c.number) (answer _)
          (either (le t q.number) (answer _)
          (either (lt x.number t && le t k.number) (answer _) (either (lt k.number t) (answer _) (near_answered r.1.0))))))))
      go csrk r (c, (s, (k, _))) = after _ c.number c.is (after _ k.number k.is (after _ s.number s.is (answer _)))
      go cst r (c, (s, _)) = after _ c.number c.is (after _ s.number s.is (answer _))
      go ct r (s, _) = after _ s.number s.is (answer _)

  letter_answered : Answered (letter_at p t)
  unfolding letter_at
  letter_answered =
      let h = in_band_lem (exact_band (lt f64_limit p) P) (in_range_lem p t g (lt f64_limit p) refl) in
      record {
        letter = h.letter;
        is = ap (λ (o : Outcome Float). then o (λ l. in_band (band_of l p) p t)) limit_is
            ∙ ap (λ (b : Band). in_band b p t) (band p t g (lt f64_limit p) refl) ∙ h.is;
      }

pub answered : (p t : Float) → InBox p t → region3_box p t ≡ value tt → Answered (letter_rule p t)
unfolding letter_rule
answered p t i e =
    let h = letter_answered p t (placed p t i) in
    record { letter = h.letter; is = ap (λ (o : Outcome Unit). then o (λ _. letter_at p t)) e ∙ h.is }

-- on the contract
pub sub_region_answers : (κs : Lfts 0) (a : Dens κs choice-kinds.ps) (e : AtExit (ended_of 0 choice-kinds.ps choice-kinds.r) κs)
    (r : (res_t choice-kinds.r κs).Denot)
    → choice.Post κs a r e → InBox a.0.0 a.1.0.0 → region3_box a.0.0 a.1.0.0 ≡ value tt → (l : Letter) × (r ≡ Ok l)
sub_region_answers κs a e r post i s = let h = answered a.0.0 a.1.0.0 i s in (h.letter, taken r h.letter (post ∙ h.is))
