-- A reading is within the 2 ^ 22nd part of the number over the scale: two roundings, each within the 2 ^ 24th part.
use Rattle.std.proofs.Common.{◌≡◌, ℕ, zero, suc, ◌*◌, ◌^◌, ◌<◌, ◌≤◌, Bool, true, false, cond, T, eqb, ℤ, pos, negsuc, sym, refl, ap, ◌∙◌, subst, le_trans, mul-le-mul_right, mul_assoc, mul-le-mul_left, mul-pos, zero-mul, mul-one, mul_right_comm, mul_left_comm, arith, lit≤, eqb→eq, pow_mono}
use lib.Ieee.{Float, nan, inf, fin, binary32, up, down, round, div, of_int, of_bits, unlike}
use lib.Ieee.Fits.{down_pos}
use lib.Ieee.Exact.{HasValue}
use lib.Ieee.Back.{round_whole}
use lib.Ieee.Positive.{first_pos}
use lib.Ieee.Scale.{round_same}
use Rattle.floats.specs.Numbers.{over_scale}
use Rattle.floats.specs.Near.{gap, Near, size, negative, nearness, ReadingNear}
use Rattle.floats.proofs.Rounding.{round-near, times-le, within-mul, within-cancel}

-- ---- a division by a float that is a whole number
unlike-false : (s : Bool) → unlike s false ≡ s
unlike-false true = refl
unlike-false false = refl

div-whole : (s : Bool) (m : ℕ) (e : ℤ) (z : Float) (S : ℕ) → 0 < S → HasValue z false S 1 → div binary32 (fin s m e) z ≡ round binary32 s (m * up e) (S * down e)
unfolding div
div-whole s m e nan S P v = absurd v
div-whole s m e (inf t) S P v = absurd v
div-whole s m e (fin t n d) S P v =
    let N = n * up d in
    let h : N ≡ S * down d = sym (mul-one N) ∙ v.1 in
    let np : 0 < N = subst (λ (x : ℕ). 0 < x) (sym h) (mul-pos P (down_pos d)) in
    go (eqb n 0) (eqb→eq n 0) (first_pos n (up d) np)
    ∙ ap (λ (x : Bool). round binary32 x (m * up e * down d) (N * down e)) (ap (unlike s) v.0 ∙ unlike-false s)
    ∙ round_same binary32 s (m * up e * down d) (N * down e) (m * up e) (S * down e) (mul-pos np (down_pos e)) (mul-pos P (down_pos e))
    (mul_assoc (m * up e) (down d) (S * down e) ∙ ap (λ (x : ℕ). m * up e * x) (mul_left_comm (down d) S (down e) ∙ sym (mul_assoc S (down d) (down e)) ∙ ap (λ (x : ℕ). x * down e) (sym h)))
  where
    go : (b : Bool) → (T b → n ≡ 0) → 0 < n
        → cond b (cond (eqb m 0) nan (inf (unlike s t))) (round binary32 (unlike s t) (m * up e * down d) (n * up d * down e))
        ≡ round binary32 (unlike s t) (m * up e * down d) (n * up d * down e)
    go true k p = let q : n ≡ 0 = k tt in absurd (omega arith)
    go false k p = refl

-- ---- two errors

-- x is near q, and q near t
joined : (x q t : ℕ) → gap x q * 2 ^ 24 ≤ q → gap q t * 2 ^ 24 ≤ t → gap x t * nearness ≤ t
joined x q t h k = omega arith

-- X / D is near M / (S * E), and M / E near a: then X / D is near a / S
compose : (X D S E M a : ℕ) → 0 < E → gap (M * 1) (a * E) * 2 ^ 24 ≤ a * E → gap (X * (S * E)) (M * D) * 2 ^ 24 ≤ M * D → gap (X * S) (a * D) * nearness ≤ a * D
compose X D S E M a P h k =
    let h' : gap (M * D) (a * E * D) * 2 ^ 24 ≤ a * E * D = within-mul M (a * E) D (2 ^ 24) (subst (λ (z : ℕ). gap z (a * E) * 2 ^ 24 ≤ a * E) (mul-one M) h) in
    let j : gap (X * (S * E)) (a * E * D) * nearness ≤ a * E * D = joined (X * (S * E)) (M * D) (a * E * D) k h' in
    within-cancel (X * S) (a * D) E nearness P
    (subst (λ (z : ℕ). gap (X * S * E) z * nearness ≤ z) (mul_right_comm a E D) (subst (λ (z : ℕ). gap z (a * E * D) * nearness ≤ a * E * D) (sym (mul_assoc X S E)) j))

second : (x : Float) (s : Bool) (S E M a : ℕ) → 0 < E → gap (M * 1) (a * E) * 2 ^ 24 ≤ a * E → Near x s M (S * E) (2 ^ 24) → Near x s a S nearness
second nan s S E M a P h v = v
second (inf t) s S E M a P h v = v
second (fin t m e) s S E M a P h v = (v.0, compose (m * up e) (down e) S E M a P h v.1)

-- ---- the second rounding is in the normal range, far below an overflow
-- (omega takes no number of more than 38 digits, so the large powers stand outside)
pub wider : (x y i j : ℕ) → i ≤ j → x ≤ y * 2 ^ i → x ≤ y * 2 ^ j
wider x y i j h k = le_trans k (mul-le-mul_left y (pow_mono h))

normal : (S E M A : ℕ) → gap (M * 1) A * 2 ^ 24 ≤ A → E ≤ A → S * E ≤ 2 ^ 24 * E → 2 ^ 23 * (S * E) ≤ M * 2 ^ 149
normal S E M A h k l = wider (2 ^ 23 * (S * E)) M 49 149 (lit≤ tt) (omega arith)

under : (S E M A : ℕ) → gap (M * 1) A * 2 ^ 24 ≤ A → A ≤ 2 ^ 31 * E → 0 < E → E ≤ S * E → M < S * E * 2 ^ 127
under S E M A h k p l = wider (suc M) (S * E) 33 127 (lit≤ tt) (omega arith)

divided : (y z : Float) (s : Bool) (a S : ℕ) → 0 < a → a ≤ 2 ^ 31 → 0 < S → S ≤ 2 ^ 24 → HasValue z false S 1 → Near y s a 1 (2 ^ 24) → Near (div binary32 y z) s a S nearness
divided nan z s a S A A' P P' v n = absurd n
divided (inf t) z s a S A A' P P' v n = absurd n
divided (fin t m e) z s a S A A' P P' v n =
    let E = down e in
    let M = m * up e in
    let h : gap (M * 1) (a * E) * 2 ^ 24 ≤ a * E = n.1 in
    second (div binary32 (fin t m e) z) s S E M a (down_pos e) h
    (subst (λ (x : Float). Near x s M (S * E) (2 ^ 24)) (sym (ap (λ (b : Bool). div binary32 (fin b m e) z) n.0 ∙ div-whole s m e z S P v))
    (round-near binary32 s M (S * E) (mul-pos P (down_pos e)) (normal S E M (a * E) h (times-le a E A) (mul-le-mul_right E P')) (under S E M (a * E) h (mul-le-mul_right E A') (down_pos e) (times-le S E P))))

first : (s : Bool) (a : ℕ) → 0 < a → a ≤ 2 ^ 31 → Near (round binary32 s a 1) s a 1 (2 ^ 24)
first s a A A' = round-near binary32 s a 1 (omega arith) (wider (2 ^ 23 * 1) a 23 149 (lit≤ tt) (omega arith)) (wider (suc a) 1 32 127 (lit≤ tt) (omega arith))

-- ---- zero
round-zero : (c : ℕ) → 0 < c → round binary32 false 0 c ≡ fin false 0 (pos 0)
unfolding round
round-zero c C = round_same binary32 false 0 c 0 1 C (omega arith) (sym (zero-mul c))

zero-over : (z : Float) (S : ℕ) → 0 < S → HasValue z false S 1 → div binary32 (round binary32 false 0 1) z ≡ fin false 0 (pos 0)
zero-over z S P v = ap (λ (y : Float). div binary32 y z) (round-zero 1 (omega arith)) ∙ div-whole false 0 (pos 0) z S P v ∙ round-zero (S * 1) (mul-pos P (omega arith))

zero-near : (S : ℕ) → gap (0 * 1 * S) (0 * 1) * nearness ≤ 0 * 1
zero-near S = let x : 0 * S ≡ 0 = zero-mul S in omega arith

-- ---- the claim, at any float that is the whole number S
over-whole : (raw : ℤ) (z : Float) (S : ℕ) → size raw ≤ 2 ^ 31 → 0 < S → S ≤ 2 ^ 24 → HasValue z false S 1 → Near (over_scale raw z) (negative raw) (size raw) S nearness
unfolding over_scale of_int
over-whole (pos zero) z S R P P' v = subst (λ (x : Float). Near x false 0 S nearness) (sym (zero-over z S P v)) (refl, zero-near S)
over-whole (pos (suc n)) z S R P P' v = divided (round binary32 false (suc n) 1) z false (suc n) S (omega arith) R P P' v (first false (suc n) (omega arith) R)
over-whole (negsuc n) z S R P P' v = divided (round binary32 true (suc n) 1) z true (suc n) S (omega arith) R P P' v (first true (suc n) (omega arith) R)

whole : (S : ℕ) → S ≤ 2 ^ 24 → HasValue (of_int binary32 (pos S)) false S 1
unfolding of_int
whole S h = round_whole binary32 false S h

-- "for raw r and scale s the reading is within |r|/s divided by 2^22 of r/s": at every r up to 2 ^ 31 either way and every scale up to 2 ^ 24,
-- all of which are binary32 numbers themselves
pub reading-near : (raw : ℤ) (scale : ℕ) → size raw ≤ 2 ^ 31 → 0 < scale → scale ≤ 2 ^ 24 → ReadingNear raw scale
reading-near raw scale R P P' = over-whole raw (of_int binary32 (pos scale)) scale R P P' (whole scale P')

-- 0 over a scale is +0
pub zero-reading : (scale : ℕ) → 0 < scale → scale ≤ 2 ^ 24 → over_scale (pos 0) (of_int binary32 (pos scale)) ≡ of_bits binary32 0
unfolding over_scale of_int of_bits
zero-reading scale P P' = zero-over (of_int binary32 (pos scale)) scale P (whole scale P')
