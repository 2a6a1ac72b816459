-- An i32 as high * 65536 + low, and why it is rounded just once: the halves and the product are exact in binary32, so that only the sum rounds.
use Rattle.std.proofs.Common.{◌≡◌, ℕ, suc, ◌+◌, ◌-◌, ◌*◌, ◌/◌, ◌%◌, ◌^◌, ◌<◌, ◌≤◌, Bool, true, false, T, ℤ, pos, negsuc, nat_abs, sym, refl, ap, ◌∙◌, subst, ap₂, le_trans, mul_assoc, mul_comm, add-mul, mul-lt-mul_of_pos_right, mul-pos, mul-one, mul_right_comm, arith, lit<, lit≤, pow_mono, shl_lt, w16, w32, Fits, SFits, to_z, of_z, le-ltb, lt-ltb}
use native.Mathlib.Nat.{mul-sub}
use lib.Bits.{bit_and, and_mask}
use lib.Signed.{mag, non_neg, shr_z, mag_shr}
use lib.Ieee.{Float, nan, inf, fin, binary32, up, down, unlike, round, sum, add, mul, of_int, of_bits}
use lib.Ieee.Back.{round_whole}
use lib.Ieee.Exact.{HasValue, round_exact}
use lib.Ieee.Fits.{down_pos}
use lib.Ieee.Scale.{round_same}
use mir.ValLaws.{to_z-of_z, to_z_pos, sfits_le}

-- ---- the halves: z is high z * 65536 + low z

-- z / 65536, rounded down
abbrev pub high : ℤ → ℤ
high z = shr_z z 65536

-- `negsuc a` is -(a + 1): -1 has the halves -1 and 65535
abbrev pub low : ℤ → ℕ
low (pos a) = a % 65536
low (negsuc a) = 65535 - a % 65536

-- ---- the product is exact

-- 65536.0, by its bits
abbrev pub weight : Float
weight = of_bits binary32 0x4780_0000

-- a * 65536 is a * 2 ^ 165 of binary32's smallest value, 2 ^ -149
round-times : (s : Bool) (a : ℕ) → a ≤ 2 ^ 15 → HasValue (round binary32 s (a * 65536) 1) s (a * 65536) 1
round-times s a h =
    let small : a < 2 ^ 24 = omega arith in
    round_exact binary32 s (a * 65536) 1 a 165 (lit< tt) small (le_trans (shl_lt 24 165 small) (pow_mono {i = 189} {j = 277} (lit≤ tt)))
    (mul_assoc a 65536 (2 ^ 149) ∙ sym (mul-one (a * 2 ^ 165)))

-- `unlike s false` is the sign of a product with a positive number: it computes to s at either sign
times : (x : Float) (s : Bool) (a : ℕ) → a ≤ 2 ^ 15 → HasValue x s a 1 → HasValue (mul binary32 x weight) (unlike s false) (a * 65536) 1
unfolding mul of_bits
times nan s a h v = absurd v
times (inf t) s a h v = absurd v
times (fin t m e) s a h v =
    let cross : m * up e * 65536 * 1 ≡ a * 65536 * (down e * 1) = mul_right_comm (m * up e) 65536 1
    ∙ ap (λ (k : ℕ). k * 65536) v.1
    ∙ mul_right_comm a (down e) 65536
    ∙ ap (λ (k : ℕ). a * 65536 * k) (sym (mul-one (down e))) in
    subst (λ (y : Float). HasValue y (unlike s false) (a * 65536) 1)
    (sym (ap (λ (b : Bool). round binary32 (unlike b false) (m * up e * 65536) (down e * 1)) v.0 ∙ round_same binary32 (unlike s false) _ _ (a * 65536) 1 (mul-pos (down_pos e) (lit< tt)) (lit< tt) cross))
    (round-times (unlike s false) a h)

-- ---- the sum of two whole numbers is one rounding, whatever denominator c they are brought to
sum_like : (a b c : ℕ) → 0 < c → sum binary32 false (a * c) false (b * c) c ≡ round binary32 false (a + b) 1
unfolding sum
sum_like a b c C = round_same binary32 false (a * c + b * c) c (a + b) 1 C (lit< tt) (mul-one (a * c + b * c) ∙ sym (add-mul a b c))

sum-unlike : (a b c : ℕ) → b < a → 0 < c → sum binary32 true (a * c) false (b * c) c ≡ round binary32 true (a - b) 1
unfolding sum
sum-unlike a b c h C =
    let less : b * c < a * c = mul-lt-mul_of_pos_right h C in
    let spread : (a - b) * c ≡ a * c - b * c = mul_comm (a - b) c ∙ mul-sub c a b ∙ ap₂ (λ (x y : ℕ). x - y) (mul_comm c a) (mul_comm c b) in
    rw (le-ltb (a * c) (b * c) (omega arith), lt-ltb (b * c) (a * c) less) (round_same binary32 true (a * c - b * c) c (a - b) 1 C (lit< tt) (mul-one (a * c - b * c) ∙ sym spread))

-- so `add` of two floats that are whole numbers is r, if that sum is r at every c
add-whole : (x y : Float) (s t : Bool) (a b : ℕ) (r : Float) → HasValue x s a 1 → HasValue y t b 1 → ((c : ℕ) → 0 < c → sum binary32 s (a * c) t (b * c) c ≡ r) → add binary32 x y ≡ r
unfolding add
add-whole nan y s t a b r v w h = absurd v
add-whole (inf p) y s t a b r v w h = absurd v
add-whole (fin p m e) nan s t a b r v w h = absurd w
add-whole (fin p m e) (inf q) s t a b r v w h = absurd w
add-whole (fin p m e) (fin q n d) s t a b r v w h =
    let c = down e * down d in
    let first : m * up e * down d ≡ a * c = ap (λ (k : ℕ). k * down d) (sym (mul-one (m * up e)) ∙ v.1) ∙ mul_assoc a (down e) (down d) in
    let second : n * up d * down e ≡ b * c = ap (λ (k : ℕ). k * down e) (sym (mul-one (n * up d)) ∙ w.1) ∙ mul_right_comm b (down d) (down e) ∙ mul_assoc b (down e) (down d) in
    ap₂ (λ (i j : Bool). sum binary32 i (m * up e * down d) j (n * up d * down e) c) v.0 w.0 ∙ ap₂ (λ (i j : ℕ). sum binary32 s i t j c) first second ∙ h c (mul-pos (down_pos e) (down_pos d))

-- ---- the halves joined
pub joined : (z : ℤ) → mag z < 2 ^ 31 → add binary32 (mul binary32 (of_int binary32 (high z)) weight) (of_int binary32 (pos (low z))) ≡ of_int binary32 z
unfolding of_int
joined (pos a) h =
    let q = a / 65536 in
    let r = a % 65536 in
    let whole : q * 65536 + r ≡ a = omega arith in
    add-whole _ _ false false (q * 65536) r (round binary32 false a 1) (times _ false q (omega arith) (round_whole binary32 false q (omega arith))) (round_whole binary32 false r (omega arith))
    (λ c C. sum_like (q * 65536) r c C ∙ ap (λ (n : ℕ). round binary32 false n 1) whole)
joined (negsuc a) h =
    let q = suc (a / 65536) in
    let r = 65535 - a % 65536 in
    let whole : q * 65536 - r ≡ suc a = omega arith in
    add-whole _ _ true false (q * 65536) r (round binary32 true (suc a) 1) (times _ true q (omega arith) (round_whole binary32 true q (omega arith))) (round_whole binary32 false r (omega arith))
    (λ c C. sum-unlike (q * 65536) r c (omega arith) C ∙ ap (λ (n : ℕ). round binary32 true n 1) whole)

-- ---- the machine's halves: a signed number is held by its bits, as `of_z w32 z`

-- z >> 16, and that it is an i16
pub shifted : (z : ℤ) → SFits w32 z → to_z w32 (of_z w32 (shr_z (to_z w32 (of_z w32 z)) 65536)) ≡ high z
shifted z h = ap (λ (x : ℤ). to_z w32 (of_z w32 (high x))) (to_z-of_z w32 z h) ∙ to_z-of_z w32 (high z) (sfits_le (mag_shr z 65536) h)

pub high_fits : (z : ℤ) → SFits w32 z → SFits w16 (high z)
high_fits (pos a) h = record { sfits = omega (arith, h.sfits) }
high_fits (negsuc a) h = record { sfits = omega (arith, h.sfits) }

-- bits & 0xffff, and that it is a u16: of any bits
pub masked : (bits : ℕ) → to_z w32 (bit_and bits 65535) ≡ pos (bits % 65536)
masked bits = ap (to_z w32) (and_mask bits 16) ∙ to_z_pos w32 (bits % 65536) (omega arith)

pub masked-fits : (bits : ℕ) → T (non_neg (to_z w32 (bit_and bits 65535))) × Fits w16 (nat_abs (to_z w32 (bit_and bits 65535)))
masked-fits bits = subst (λ (z : ℤ). T (non_neg z) × Fits w16 (nat_abs z)) (sym (masked bits)) (tt, record { fits = omega arith })

-- the bits of z have its low half
pub low_of : (z : ℤ) → SFits w32 z → of_z w32 z % 65536 ≡ low z
low_of (pos a) h = refl
low_of (negsuc a) h = omega (arith, h.sfits)
