-- One rounding of a fraction in the normal range is off by at most the 2 ^ prec-th part of it: half a unit of the last digit kept, and the fraction has
-- 2 ^ (prec - 1) of those units or more.
use Rattle.std.proofs.Common.{◌≡◌, ℕ, zero, suc, ◌+◌, ◌-◌, ◌*◌, ◌/◌, ◌%◌, ◌^◌, ◌<◌, ◌≤◌, Bool, not, T, eqb, sym, refl, ap, ◌∙◌, subst, le_trans, le_of_eq, lt_of_lt_of_le, lt_of_le_of_lt, mul-le-mul_right, mod-lt, mul_assoc, suc-mul, mul_comm, add-mul, lt_of_mul-lt-mul_right, mul-lt-mul_of_pos_right, mul-pos, div-add-mod', le-div_iff_mul-le, mul_right_comm, le-mul_of_pos_right, le_of_mul-le-mul_right, arith, eqb→eq, leb→le, pow_pos, pow-add}
use Prim.Native.Nat.{compare, Ordering}
use native.Mathlib.Nat.{mul-sub}
use lib.Dec.{is_le, compare_is_eq, nleb→lt, eqb_refl}
use lib.Arith.{lt_of_le-ne}
use lib.Ieee as Ieee
use lib.Ieee.{Float, nan, inf, fin, Format, binary32, binary64, prec, emax, low, up, down, round, nearest}
use lib.Ieee.Digits.{size_reaches}
use lib.Ieee.Fits.{round_is}
use lib.Ieee.Exact.{HasValue, units_val}
use lib.Ieee.Nearest.{closest}
use lib.Ieee.Order.{drop, kept}
use lib.Ieee.Scale.{normal_of_fraction}
use Rattle.floats.specs.Near.{gap, Near}

-- ---- an error bound holds of two numbers exactly where it holds of both times k
pub gap-mul : (a b k : ℕ) → gap (a * k) (b * k) ≡ gap a b * k
gap-mul a b k =
    let x : k * (a - b) ≡ k * a - k * b = mul-sub k a b in
    let y : k * (b - a) ≡ k * b - k * a = mul-sub k b a in
    simp (add-mul, mul_comm) (omega arith)

pub within-mul : (a b k p : ℕ) → gap a b * p ≤ b → gap (a * k) (b * k) * p ≤ b * k
within-mul a b k p h = le_trans (le_of_eq (ap (λ (z : ℕ). z * p) (gap-mul a b k) ∙ mul_right_comm (gap a b) k p)) (mul-le-mul_right k h)

pub within-cancel : (a b k p : ℕ) → 0 < k → gap (a * k) (b * k) * p ≤ b * k → gap a b * p ≤ b
within-cancel a b k p K h = le_of_mul-le-mul_right (le_trans (le_of_eq (sym (ap (λ (z : ℕ). z * p) (gap-mul a b k) ∙ mul_right_comm (gap a b) k p))) h) K

-- ---- a fraction's nearest whole number is at most a half away
abbrev pub Cmp : Ordering → ℕ → ℕ → Type 0
Cmp Ordering.lt a b = a < b
Cmp Ordering.eq a b = a ≡ b
Cmp Ordering.gt a b = b < a

pub cmp : (a b : ℕ) → Cmp (compare a b) a b
cmp a b = go (compare a b) (leb→le a b) (nleb→lt a b) (eqb→eq a b) (λ (e : a ≡ b). subst (λ (x : ℕ). T (eqb a x)) e (eqb_refl a))
  where
    go : (o : Ordering) → (T (is_le o) → a ≤ b) → (T (not (is_le o)) → b < a) → (T (compare_is_eq o) → a ≡ b) → (a ≡ b → T (compare_is_eq o)) → Cmp o a b
    go Ordering.lt h k e n = lt_of_le-ne (h tt) n
    go Ordering.eq h k e n = e tt
    go Ordering.gt h k e n = k tt

up-to-one : (b q u r n : ℕ) → b < 2 → q * u + r ≡ n → r * 2 ≡ u → gap ((q + b) * u) n * 2 ≤ u
up-to-one zero q u r n l e h = let x : (q + 0) * u ≡ q * u + 0 * u = add-mul q 0 u in omega arith
up-to-one (suc zero) q u r n l e h = let x : (q + 1) * u ≡ q * u + 1 * u = add-mul q 1 u in omega arith
up-to-one (suc (suc b)) q u r n l e h = absurd (omega arith)

half-away : (o : Ordering) (q u r n : ℕ) → r < u → q * u + r ≡ n → Cmp o (r * 2) u → gap (nearest q o * u) n * 2 ≤ u
half-away Ordering.lt q u r n l e h = omega arith
half-away Ordering.eq q u r n l e h = up-to-one (q % 2) q u r n (omega arith) e h
half-away Ordering.gt q u r n l e h = let x : suc q * u ≡ q * u + u = suc-mul q u in omega arith

pub closest-err : (n u : ℕ) → 0 < u → gap (closest n u * u) n * 2 ≤ u
closest-err n u U = half-away (compare (n % u * 2) u) (n / u) u (n % u) n (mod-lt n U) (div-add-mod' n u) (cmp (n % u * 2) u)

-- ---- a float that is exactly w / l is near what w / l is near
near-of-value : (x : Float) (s : Bool) (w l a c p : ℕ) → 0 < l → HasValue x s w l → gap (w * c) (a * l) * p ≤ a * l → Near x s a c p
near-of-value nan s w l a c p L v h = v
near-of-value (inf t) s w l a c p L v h = v
near-of-value (fin t m e) s w l a c p L v h =
    let M = m * up e in
    let E = down e in
    let x : w * c * E ≡ M * c * l = mul_right_comm w c E ∙ ap (λ (z : ℕ). z * c) (sym v.1) ∙ mul_right_comm M l c in
    let y : a * l * E ≡ a * E * l = mul_right_comm a l E in (
      v.0,
      within-cancel (M * c) (a * E) l p L
          (subst (λ (z : ℕ). gap z (a * E * l) * p ≤ a * E * l) x (subst (λ (z : ℕ). gap (w * c * E) z * p ≤ z) y (within-mul (w * c) (a * l) E p h))),
    )

-- ---- a rounding
twice : (f : Format) → 2 * 2 ^ (prec f - 1) ≡ 2 ^ prec f
twice binary32 = refl
twice binary64 = refl

top_digit : (z p : ℕ) → 0 < p → p ≤ z → p - 1 + (z - p) < z
top_digit z p P h = omega arith

prec-pos : (f : Format) → 0 < prec f
prec-pos binary32 = omega arith
prec-pos binary64 = omega arith

-- den * 2 ^ k is small beside n, by as many digits as the format keeps
pub unit-small : (f : Format) (num den : ℕ) → 0 < den → 2 ^ (prec f - 1) * den ≤ num * 2 ^ low f
    → 2 ^ (prec f - 1) * (den * 2 ^ drop (prec f) (num * 2 ^ low f) den) ≤ num * 2 ^ low f
unit-small f num den D N =
    let n = num * 2 ^ low f in
    let p = prec f in
    let k = drop p n den in
    let w = n / den in
    let r : 2 ^ (p - 1 + k) * den ≤ n = (le-div_iff_mul-le D).0 (size_reaches w (p - 1 + k) (top_digit (Ieee.size w) p (prec-pos f) (normal_of_fraction f num den D N))) in
    le_trans (le_of_eq (sym (ap (λ (z : ℕ). z * den) (pow-add 2 (p - 1) k) ∙ mul_assoc (2 ^ (p - 1)) (2 ^ k) den ∙ ap (λ (z : ℕ). 2 ^ (p - 1) * z) (mul_comm (2 ^ k) den)))) r

-- half a unit, of which n has P or more
part : (g u P n : ℕ) → g * 2 ≤ u → P * u ≤ n → g * (2 * P) ≤ n
part g u P n h k = le_trans (le_of_eq (sym (mul_assoc g 2 P))) (le_trans (mul-le-mul_right P h) (le_trans (le_of_eq (mul_comm u P)) k))

doubled : (q n u : ℕ) → gap q n * 2 ≤ u → u ≤ n → q ≤ n * 2
doubled q n u h k = omega arith

pub times-le : (a b : ℕ) → 0 < a → b ≤ a * b
times-le a b h = le_trans (le-mul_of_pos_right b h) (le_of_eq (mul_comm b a))

-- num / den is in the normal range and below 2 ^ emax. In units of the format's smallest value it is n / den; what is kept of it is q * 2 ^ k.
module _ (f : Format) (s : Bool) (num den : ℕ) (D : 0 < den) (N : 2 ^ (prec f - 1) * den ≤ num * 2 ^ low f) (B : num < den * 2 ^ emax f) where
  abbrev l : ℕ
  l = 2 ^ low f

  abbrev n : ℕ
  n = num * l

  abbrev k : ℕ
  k = drop (prec f) n den

  abbrev u : ℕ
  u = den * 2 ^ k

  abbrev q : ℕ
  q = kept (prec f) n den

  err : gap (q * u) n * 2 ≤ u
  err = closest-err n u (mul-pos D (pow_pos k))

  same : q * u ≡ q * 2 ^ k * den
  same = ap (λ (z : ℕ). q * z) (mul_comm den (2 ^ k)) ∙ sym (mul_assoc q (2 ^ k) den)

  whole : (f : Format) → den * 2 ^ emax f * 2 ^ low f * 2 ^ 1 ≡ 2 ^ (low f + suc (emax f)) * den
  whole binary32 = mul_assoc (den * 2 ^ 127) (2 ^ 149) 2 ∙ mul_assoc den (2 ^ 127) (2 ^ 149 * 2) ∙ mul_comm den (2 ^ 277)
  whole binary64 = mul_assoc (den * 2 ^ 1023) (2 ^ 1074) 2 ∙ mul_assoc den (2 ^ 1023) (2 ^ 1074 * 2) ∙ mul_comm den (2 ^ 2098)

  pub round-value : HasValue (round f s num den) s (q * 2 ^ k) l
  round-value =
      let under : q * 2 ^ k < 2 ^ (low f + suc (emax f)) = lt_of_mul-lt-mul_right den
      (lt_of_le_of_lt (le_trans (le_of_eq (sym same)) (doubled (q * u) n u err (le_trans (times-le (2 ^ (prec f - 1)) u (pow_pos (prec f - 1))) (unit-small f num den D N))))
      (lt_of_lt_of_le (mul-lt-mul_of_pos_right (mul-lt-mul_of_pos_right B (pow_pos (low f))) (pow_pos 1))
      (le_of_eq (whole f)))) in
      subst (λ (z : Float). HasValue z s (q * 2 ^ k) l) (sym (round_is f s num den)) (units_val f s q k under)

  pub round-near : Near (round f s num den) s num den (2 ^ prec f)
  round-near =
      let near : gap (q * u) n * 2 ^ prec f ≤ n = subst (λ (z : ℕ). gap (q * u) n * z ≤ n) (twice f) (part (gap (q * u) n) u (2 ^ (prec f - 1)) n err (unit-small f num den D N)) in
      near-of-value (round f s num den) s (q * 2 ^ k) l num den (2 ^ prec f) (pow_pos (low f)) round-value (subst (λ (z : ℕ). gap z n * 2 ^ prec f ≤ n) same near)
