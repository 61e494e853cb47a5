-- What is written after what was written, and where it has room; decimal numbers. Assumes nothing.
use mathlib.Core.Bool.{Bool, cond}
use mathlib.Core.Path.{◌≡◌, refl, sym, ap, ◌∙◌, subst}
use mathlib.Core.List.{List, [], ◌∷◌, ◌++◌}
use Prim.Native.Nat.{ℕ, zero, suc, ◌+◌, ◌/◌, ◌%◌, ◌^◌, ◌<◌, ◌≤◌}
use native.Mathlib.Nat.{pow-succ', not-suc-le-zero}
use native.Mathlib.Decide.{dec_lt}
use native.Mathlib.Omega.{arith}
use lib.Dec.{ltb}
use lib.ListN.{length, set, length-append}
use lib.Seq.{sets, length-sets}
use borrow.Author.Tests.{lt-ltb, le-ltb, le-leb}
use Rattle.buffer.proofs.Laws.{sets_then}
use Rattle.text.specs.Text.{digits_in, decimal, fitting, Wrote}

-- ---- what is written

-- what is written after what was written
pub wrote_then : {l xs m ys k : List ℕ} {at r q : ℕ} → Wrote l at xs m r → Wrote m r ys k q → Wrote l at (xs ++ ys) k q
wrote_then {l} {xs} {m} {ys} {k} {at} {r} {q} a b =
    record {
      ends = simp length-append (omega (arith, a.ends, b.ends));
      holds = b.holds ∙ ap (λ (t : List ℕ). sets t r ys) a.holds ∙ sets_then xs ys l at r a.ends;
    }

pub wrote_length : {l xs m : List ℕ} {at r : ℕ} → Wrote l at xs m r → length m ≡ length l
wrote_length {l} {xs} {m} {at} w = ap length w.holds ∙ length-sets l at xs

-- what has room is written
pub fitted : {old xs new : List ℕ} {at next : ℕ} (room : ℕ) → at + room ≤ length old → Wrote old at (fitting old at room xs) new next → Wrote old at xs new next
fitted {old} {xs} {new} {at} {next} room h w =
    subst (λ (b : Bool). Wrote old at (cond b xs []) new next) (le-leb (at + room) (length old) h) w

-- ---- decimal numbers

fuel : (k j n : ℕ) → n ≤ k → n ≤ j → digits_in k n ≡ digits_in j n
unfolding digits_in
fuel zero zero n a b = refl
fuel zero (suc j) zero a b = refl
fuel zero (suc j) (suc n) a b = absurd (not-suc-le-zero a)
fuel (suc k) zero zero a b = refl
fuel (suc k) zero (suc n) a b = absurd (not-suc-le-zero b)
fuel (suc k) (suc j) n a b =
    ap (λ (xs : List ℕ). cond (ltb n 10) [] xs ++ ((48 + n % 10) ∷ [])) (fuel k j (n / 10) (omega arith) (omega arith))

decimal_last : (n : ℕ) → n < 10 → decimal n ≡ (48 + n % 10) ∷ []
unfolding decimal digits_in
decimal_last zero h = refl
decimal_last (suc n) h = rw (lt-ltb (suc n) 10 h)

decimal_more : (n : ℕ) → 10 ≤ n → decimal n ≡ decimal (n / 10) ++ ((48 + n % 10) ∷ [])
unfolding decimal digits_in
decimal_more zero h = absurd (not-suc-le-zero h)
decimal_more (suc n) h =
    rw (le-ltb (suc n) 10 h)
    (ap (λ (xs : List ℕ). xs ++ ((48 + suc n % 10) ∷ [])) (fuel n (suc n / 10) (suc n / 10) (omega arith) (omega arith)))

pub last_length : (n : ℕ) → n < 10 → length (decimal n) ≡ 1
last_length n h = ap length (decimal_last n h)

pub more_length : (n : ℕ) → 10 ≤ n → length (decimal n) ≡ length (decimal (n / 10)) + 1
more_length n h = ap length (decimal_more n h) ∙ length-append (decimal (n / 10)) ((48 + n % 10) ∷ [])

pub wrote_last : (l : List ℕ) (at n d : ℕ) → n < 10 → d ≡ 48 + n % 10 → Wrote l at (decimal n) (set l at d) (at + 1)
wrote_last l at n d h e =
    record {
      ends = ap (λ (k : ℕ). at + k) (sym (last_length n h));
      holds = ap (λ (x : ℕ). set l at x) e ∙ ap (λ (xs : List ℕ). sets l at xs) (sym (decimal_last n h));
    }

pub wrote_more : (l m : List ℕ) (at n r d : ℕ) → 10 ≤ n → Wrote l at (decimal (n / 10)) m r → d ≡ 48 + n % 10 → Wrote l at (decimal n) (set m r d) (r + 1)
wrote_more l m at n r d h w e =
    record {
      ends = omega (arith, more_length n h, w.ends);
      holds =
          ap (λ (x : ℕ). set m r x) e
          ∙ ap (λ (xs : List ℕ). set xs r (48 + n % 10)) w.holds
          ∙ sets_then (decimal (n / 10)) ((48 + n % 10) ∷ []) l at r w.ends
          ∙ ap (λ (xs : List ℕ). sets l at xs) (sym (decimal_more n h));
    }

-- as many turns as it has digits are enough
pub turns : (k n : ℕ) → n < 10 ^ suc k → decimal n ≡ digits_in k n
unfolding digits_in
turns zero n h = decimal_last n h
turns (suc k) n h =
    let p = pow-succ' 10 (suc k) in
    go (dec_lt n 10) (turns k (n / 10) (omega arith))
  where
    go : Dec (n < 10) → decimal (n / 10) ≡ digits_in k (n / 10) → decimal n ≡ cond (ltb n 10) [] (digits_in k (n / 10)) ++ ((48 + n % 10) ∷ [])
    go (yes l) r = rw (lt-ltb n 10 l) (decimal_last n l)
    go (no m) r =
        let b : 10 ≤ n = omega (arith, m) in
        rw (le-ltb n 10 b) (decimal_more n b ∙ ap (λ (xs : List ℕ). xs ++ ((48 + n % 10) ∷ [])) r)

-- a number below 10^k has k digits at most
pub decimal_length : (k n : ℕ) → n < 10 ^ suc k → length (decimal n) ≤ suc k
decimal_length zero n h = let e = last_length n h in omega arith
decimal_length (suc k) n h =
    let p = pow-succ' 10 (suc k) in
    go (dec_lt n 10) (decimal_length k (n / 10) (omega arith))
  where
    go : Dec (n < 10) → length (decimal (n / 10)) ≤ suc k → length (decimal n) ≤ suc (suc k)
    go (yes l) r = let e = last_length n l in omega arith
    go (no m) r =
        let b : 10 ≤ n = omega (arith, m) in
        let e = more_length n b in
        omega arith

pub decimal_room : (n : ℕ) → n < 2 ^ 64 → length (decimal n) ≤ 20
decimal_room n h = decimal_length 19 n (omega arith)
