-- A mask asked for bits: by the and of numbers, one bit alone, bits joined, and bits below a place.
use mathlib.Core.Bool.{Bool, true, false}
use mathlib.Core.Logic.{◌↔◌}
use mathlib.Core.Path.{◌≡◌, refl, sym, ap, ap₂, ◌∙◌}
use Prim.Native.Nat.{ℕ, zero, suc, ◌+◌, ◌*◌, ◌/◌, ◌%◌, ◌^◌, ◌≤◌, ◌<◌}
use native.Mathlib.Nat.{mod-lt, zero-div, div-one, div_self, div-add-mod', div-div-eq-div-mul, mul_comm, mul-mod_left, mul-div_cancel, pow-suc, min-eq_right, lt_of_not-le, div-lt_iff_lt-mul}
use native.Mathlib.Omega.{arith}
use borrow.Author.Tests.{eq-eqb, eqb-true, eqb-false, ltb-true, lt-ltb}
use lib.Arith.{bin_ind}
use lib.Bits.{bit_and, bit_or, and_step, and_zero_r, and_shr, and_mod, and_le_l, and_le_r, or_shr, or_mod, or_lt, or_add_and}
use lib.Dec.{eqb}
use lib.Pow.{pow_pos, pow_mono, shr-shr}
use Rattle.tables.specs.Tables.{has_bit}
use Rattle.tables.specs.Bits.{HasBits, AskedBits, KnownBits}
use Rattle.tables.specs.Sorts.{mask_bits, known_bits}

-- ---- a bit as a digit

set : (n k : ℕ) → has_bit n k ≡ true → n / 2 ^ k % 2 ≡ 1
unfolding has_bit
set n k e = eqb-true (n / 2 ^ k % 2) 1 e

is_set : (n k : ℕ) → n / 2 ^ k % 2 ≡ 1 → has_bit n k ≡ true
unfolding has_bit
is_set n k e = eq-eqb (n / 2 ^ k % 2) 1 e

digit : (n : ℕ) → n % 2 < 2
digit n = mod-lt n (omega arith)

-- bit k + 1 of a number is bit k of its half
halved : (n k : ℕ) → n / 2 ^ suc k ≡ n / 2 / 2 ^ k
halved n k = ap (λ (m : ℕ). n / m) (pow-suc 2 k ∙ mul_comm (2 ^ k) 2) ∙ sym (div-div-eq-div-mul n 2 (2 ^ k))

half-bit : (n k : ℕ) → has_bit n (suc k) ≡ has_bit (n / 2) k
unfolding has_bit
half-bit n k = ap (λ (m : ℕ). eqb (m % 2) 1) (halved n k)

-- ---- the and leaves bits as they are exactly if the mask has each

low_bit : (mask n : ℕ) → (has_bit n 0 ≡ true → has_bit mask 0 ≡ true) → n % 2 ≤ mask % 2
low_bit mask n h = go (eqb (n % 2) 1) refl
  where
    at-0 : (m : ℕ) → m / 2 ^ 0 % 2 ≡ m % 2
    at-0 m = ap (λ (x : ℕ). x % 2) (div-one m)

    go : (t : Bool) → eqb (n % 2) 1 ≡ t → n % 2 ≤ mask % 2
    go true e =
        let one : n % 2 ≡ 1 = eqb-true (n % 2) 1 e in
        let has : mask % 2 ≡ 1 = sym (at-0 mask) ∙ set mask 0 (h (is_set n 0 (at-0 n ∙ one))) in
        omega arith
    go false e = omega (arith, digit n, eqb-false (n % 2) 1 e)

kept : (bits mask : ℕ) → HasBits mask bits → bit_and mask bits ≡ bits
kept =
    bin_ind (λ (n : ℕ). (mask : ℕ) → HasBits mask n → bit_and mask n ≡ n) (λ mask h. and_zero_r mask)
    (λ n ih mask h.
    and_step mask n
    ∙ ap₂ (λ (x y : ℕ). x * 2 + y) (ih (mask / 2) (λ k e. sym (half-bit mask k) ∙ h (suc k) (half-bit n k ∙ e))) (min-eq_right (low_bit mask n (h 0)))
    ∙ div-add-mod' n 2)

held : (mask bits : ℕ) → bit_and mask bits ≡ bits → HasBits mask bits
held mask bits e k has =
    let a = mask / 2 ^ k in
    let b = bits / 2 ^ k in
    let one : b % 2 ≡ 1 = set bits k has in
    let same : b ≡ bit_and a b = ap (λ (n : ℕ). n / 2 ^ k) (sym e) ∙ and_shr mask bits k in
    let low : b % 2 ≡ bit_and (a % 2) (b % 2) = ap (λ (n : ℕ). n % 2) same ∙ and_mod a b 1 in
    is_set mask k (omega (arith, one, low, and_le_l (a % 2) (b % 2), digit a))

pub by_and : (mask bits : ℕ) → (eqb (bit_and mask bits) bits ≡ true) ↔ HasBits mask bits
by_and mask bits = (λ e. held mask bits (eqb-true (bit_and mask bits) bits e), λ h. eq-eqb (bit_and mask bits) bits (kept bits mask h))

-- ---- one bit

own : (bit : ℕ) → has_bit (2 ^ bit) bit ≡ true
own bit = is_set (2 ^ bit) bit (ap (λ (n : ℕ). n % 2) (div_self (pow_pos bit)))

no-bit : (k : ℕ) → has_bit 0 k ≡ true → ⊥
no-bit k e = let zero_one : ◌≡◌ {A = ℕ} 0 1 = sym (ap (λ (n : ℕ). n % 2) (zero-div (2 ^ k))) ∙ set 0 k e in omega arith

only : (bit k : ℕ) → has_bit (2 ^ bit) k ≡ true → k ≡ bit
only zero zero e = refl
only zero (suc k) e = absurd (no-bit k (sym (half-bit 1 k) ∙ e))
only (suc bit) zero e =
    let even : 2 ^ suc bit % 2 ≡ 0 = ap (λ (n : ℕ). n % 2) (pow-suc 2 bit) ∙ mul-mod_left (2 ^ bit) 2 in
    let odd : 2 ^ suc bit % 2 ≡ 1 = sym (ap (λ (n : ℕ). n % 2) (div-one (2 ^ suc bit))) ∙ set (2 ^ suc bit) 0 e in
    absurd (omega arith)
only (suc bit) (suc k) e =
    let half : 2 ^ suc bit / 2 ≡ 2 ^ bit = ap (λ (n : ℕ). n / 2) (pow-suc 2 bit) ∙ mul-div_cancel (2 ^ bit) (omega arith) in
    ap suc (only bit k (ap (λ (n : ℕ). has_bit n k) (sym half) ∙ sym (half-bit (2 ^ suc bit) k) ∙ e))

-- ---- bits joined

module _ (a b k : ℕ) where
  abbrev x : ℕ
  x = a / 2 ^ k % 2

  abbrev y : ℕ
  y = b / 2 ^ k % 2

  either : bit_or a b / 2 ^ k % 2 ≡ bit_or x y
  either = ap (λ (n : ℕ). n % 2) (or_shr a b k) ∙ or_mod (a / 2 ^ k) (b / 2 ^ k) 1

  or_left : has_bit a k ≡ true → has_bit (bit_or a b) k ≡ true
  or_left e =
      is_set (bit_or a b) k
      (omega (arith, set a k e, either, or_add_and x y, and_le_r x y, or_lt 1 x y (digit (a / 2 ^ k)) (digit (b / 2 ^ k))))

  or_right : has_bit b k ≡ true → has_bit (bit_or a b) k ≡ true
  or_right e =
      is_set (bit_or a b) k
      (omega (arith, set b k e, either, or_add_and x y, and_le_l x y, or_lt 1 x y (digit (a / 2 ^ k)) (digit (b / 2 ^ k))))

  or-either : {C : Type 0} → has_bit (bit_or a b) k ≡ true → (has_bit a k ≡ true → C) → (has_bit b k ≡ true → C) → C
  or-either {C} e left right = go (eqb x 1) refl
    where
      go : (t : Bool) → eqb x 1 ≡ t → C
      go true f = left (is_set a k (eqb-true x 1 f))
      go false f =
          right (is_set b k (omega (arith, set (bit_or a b) k e, either, or_add_and x y, eqb-false x 1 f, digit (a / 2 ^ k), digit (b / 2 ^ k))))

same_answer : {P : Type 0} (a b : Bool) → (a ≡ true) ↔ P → (b ≡ true) ↔ P → a ≡ b
same_answer true b first second = sym (second.1 (first.0 refl))
same_answer false true first second = first.1 (second.0 refl)
same_answer false false first second = refl

pub asked-bits : AskedBits
asked-bits =
    record {
      one = λ mask bit. (
        λ h. h bit (own bit),
        λ has k e. ap (has_bit mask) (only bit k e) ∙ has,
      );
      joined = λ mask a b. (
        λ h. (λ k e. h k (or_left a b k e), λ k e. h k (or_right a b k e)),
        λ h k e. or-either a b k e (h.0 k) (h.1 k),
      );
      answer = λ mask bits. same_answer;
    }

-- ---- bits below a place

-- a number below 2 ^ n has no bit from n on
bits-low : (n mask k : ℕ) → mask < 2 ^ n → has_bit mask k ≡ true → k < n
bits-low n mask k small has =
    lt_of_not-le (λ above.
    let gone : mask / 2 ^ k < 1 = (div-lt_iff_lt-mul (pow_pos k)).1 (omega (arith, small, pow_mono above)) in
    absurd (omega (arith, set mask k has, gone)))

-- a number without bits is 0
without : (n : ℕ) → ((k : ℕ) → has_bit n k ≡ true → ⊥) → n ≡ 0
without n none = sym (kept n 0 (λ k e. absurd (none k e)))

-- bit k of a number's bits from n on is its bit n + k
from : (mask n k : ℕ) → has_bit (mask / 2 ^ n) k ≡ has_bit mask (n + k)
unfolding has_bit
from mask n k = ap (λ (m : ℕ). eqb (m % 2) 1) (shr-shr mask n k)

-- a number that has none from n on is below 2 ^ n
low_bits : (n mask : ℕ) → ((k : ℕ) → has_bit mask k ≡ true → k < n) → mask < 2 ^ n
low_bits n mask low =
    let gone : mask / 2 ^ n ≡ 0 = without (mask / 2 ^ n) (λ k e. let past = low (n + k) (sym (from mask n k) ∙ e) in omega arith) in
    let small : mask < 1 * 2 ^ n = (div-lt_iff_lt-mul (pow_pos n)).0 (omega arith) in
    omega arith

pub known-bits : KnownBits
unfolding known_bits
known-bits =
    record {
      known = λ sort mask. (
        λ e k. bits-low (mask_bits sort) mask k (ltb-true mask (2 ^ mask_bits sort) e),
        λ low. lt-ltb mask (2 ^ mask_bits sort) (low_bits (mask_bits sort) mask low),
      );
    }
