-- A whole number becomes the nearest binary32, and at a tie the even one. In units of the format's smallest value it is n, and becomes q * u for a power of two u;
-- another value is a multiple of u, or it is below 2 ^ (prec - 1) * u, which is itself a multiple of u and no more than n.
use Rattle.std.proofs.Common.{◌≡◌, ℕ, zero, suc, ◌+◌, ◌-◌, ◌*◌, ◌/◌, ◌%◌, ◌^◌, ◌<◌, ◌≤◌, Bool, true, false, cond, not, ◌&&◌, T, eqb, ltb, leb, ◌⊎◌, ℤ, pos, negsuc, sym, refl, ap, ◌∙◌, subst, inl, inr, ⊎_elim, zero-le, le_trans, le_of_eq, lt_of_lt_of_le, mul-le-mul_right, mod-lt, mul_assoc, suc-mul, add-mul, le_antisymm, one-mul, pow-suc, div-add-mod', zero-mul, mul-one, mul_right_comm, le_of_mul-le-mul_right, mul-div_cancel, arith, lit≤, ltb→lt, leb→le, pow_pos, pow_mono, pow-add, shl_lt}
use mathlib.Core.Bool.{beq}
use Prim.Native.Nat.{compare, Ordering}
use native.Mathlib.Nat.{mul-mod_left, div-div-eq-div-mul}
use lib.Dec.{nleb→lt}
use lib.Pow.{pow-lt, shl-shr}
use lib.Ieee as Ieee
use lib.Ieee.{Float, nan, inf, fin, Format, binary32, prec, low, up, down, nearest, round, of_int, fits, hid, top, to_bits}
use lib.Ieee.Digits.{size-le, size_reaches}
use lib.Ieee.Fits.{down_pos, and_l, and_r, kept-lt, nearest-le, round-fits}
use lib.Ieee.Bits.{of_bits-to_bits}
use lib.Ieee.Exact.{HasValue}
use lib.Ieee.Nearest.{closest}
use lib.Ieee.Order.{drop, kept, transfer}
use lib.Ieee.Scale.{finite}
use Rattle.floats.specs.Near.{gap, size, negative}
use Rattle.floats.specs.Nearest.{distance, over, NearestEven}
use Rattle.floats.proofs.OverScale.{wider}
use Rattle.floats.proofs.Rounding.{Cmp, cmp, gap-mul, closest-err, unit-small, round-value}

-- ---- multiples of u

-- half a unit away is a tie, and the even one is then taken
tie-by : (o : Ordering) (w u r n : ℕ) → r < u → w * u + r ≡ n → Cmp o (r * 2) u → gap (nearest w o * u) n * 2 ≡ u → nearest w o % 2 ≡ 0
tie-by Ordering.lt w u r n l e h g = absurd (omega arith)
tie-by Ordering.eq w u r n l e h g = omega arith
tie-by Ordering.gt w u r n l e h g = let x : suc w * u ≡ w * u + u = suc-mul w u in absurd (omega arith)

tie-even : (n u : ℕ) → 0 < u → gap (closest n u * u) n * 2 ≡ u → closest n u % 2 ≡ 0
tie-even n u U = tie-by (compare (n % u * 2) u) (n / u) u (n % u) n (mod-lt n U) (div-add-mod' n u) (cmp (n % u * 2) u)

-- no multiple is nearer, and one that is as near is the same or half a unit away
record NoNearer (X Y n : ℕ) (even : Type 0) : Type 0 where
  least : gap X n ≤ gap Y n
  tie : gap X n ≡ gap Y n → (Y ≡ X) ⊎ even

multiple-by : (o : Ordering) (r q u n : ℕ) → Cmp o r q → gap (q * u) n * 2 ≤ u → NoNearer (q * u) (r * u) n (gap (q * u) n * 2 ≡ u)
multiple-by Ordering.lt r q u n h e =
    let x : r * u + u ≤ q * u = subst (λ (z : ℕ). z ≤ q * u) (suc-mul r u) (mul-le-mul_right u h) in
    record { least = omega arith; tie = λ t. inr (omega arith) }
multiple-by Ordering.eq r q u n h e = record { least = subst (λ (z : ℕ). gap (q * u) n ≤ gap (z * u) n) (sym h) (omega arith); tie = λ t. inl (ap (λ (z : ℕ). z * u) h) }
multiple-by Ordering.gt r q u n h e =
    let x : q * u + u ≤ r * u = subst (λ (z : ℕ). z ≤ r * u) (suc-mul q u) (mul-le-mul_right u h) in
    record { least = omega arith; tie = λ t. inr (omega arith) }

module _ (n u : ℕ) (U : 0 < u) where
  multiple : (r : ℕ) → NoNearer (closest n u * u) (r * u) n (closest n u % 2 ≡ 0)
  multiple r =
      let m = multiple-by (compare r (closest n u)) r (closest n u) u n (cmp r (closest n u)) (closest-err n u U) in
      record { least = m.least; tie = λ t. ⊎_elim (λ same. inl same) (λ half. inr (tie-even n u U half)) (m.tie t) }

  -- nor is what lies below a multiple that is no more than n
  smaller : (b Y : ℕ) → b * u ≤ n → Y < b * u → NoNearer (closest n u * u) Y n (closest n u % 2 ≡ 0)
  smaller b Y B h = let m = (multiple b).least in record { least = omega arith; tie = λ t. absurd (omega arith) }

-- a number of at most d + 1 digits, times a power of two
digits : (n k d m i : ℕ) → 2 ^ d * 2 ^ k ≤ n → m < 2 ^ suc d → NoNearer (closest n (2 ^ k) * 2 ^ k) (m * 2 ^ i) n (closest n (2 ^ k) % 2 ≡ 0)
digits n k d m i N M = go (leb k i) (leb→le k i) (nleb→lt k i)
  where
    go : (b : Bool) → (T b → k ≤ i) → (T (not b) → i < k) → NoNearer (closest n (2 ^ k) * 2 ^ k) (m * 2 ^ i) n (closest n (2 ^ k) % 2 ≡ 0)
    go true h g =
        let back : i - k + k ≡ i = let l = h tt in omega arith in
        let is : m * 2 ^ (i - k) * 2 ^ k ≡ m * 2 ^ i = mul_assoc m (2 ^ (i - k)) (2 ^ k) ∙ ap (λ (x : ℕ). m * x) (sym (pow-add 2 (i - k) k) ∙ ap (λ (x : ℕ). 2 ^ x) back) in
        subst (λ (y : ℕ). NoNearer (closest n (2 ^ k) * 2 ^ k) y n (closest n (2 ^ k) % 2 ≡ 0)) is (multiple n (2 ^ k) (pow_pos k) (m * 2 ^ (i - k)))
    go false h g =
        let fewer : suc d + i ≤ d + k = let l = g tt in omega arith in
        smaller n (2 ^ k) (pow_pos k) (2 ^ d) (m * 2 ^ i) N (lt_of_lt_of_le (shl_lt (suc d) i M) (le_trans (pow_mono fewer) (le_of_eq (pow-add 2 d k))))

-- ---- with signs: ±x and ±y are so far apart
abbrev apart : Bool → Bool → ℕ → ℕ → ℕ
apart t s x y = cond (beq t s) (gap x y) (x + y)

apart-mul : (t s : Bool) (x y k : ℕ) → apart t s (x * k) (y * k) ≡ apart t s x y * k
apart-mul t s x y k = go (beq t s)
  where
    go : (b : Bool) → cond b (gap (x * k) (y * k)) (x * k + y * k) ≡ cond b (gap x y) (x + y) * k
    go true = gap-mul x y k
    go false = sym (add-mul x y k)

-- M / D is X / L: so its distance from a is that of X from a * L, over L
in-units : (t s : Bool) (M D X a L : ℕ) → M * L ≡ X * D → apart t s M (a * D) * L ≡ apart t s X (a * L) * D
in-units t s M D X a L e =
    sym (apart-mul t s M (a * D) L) ∙ ap (λ (x : ℕ). apart t s x (a * D * L)) e ∙ ap (apart t s (X * D)) (mul_right_comm a D L) ∙ apart-mul t s X (a * L) D

record Signed (t s : Bool) (X Y n : ℕ) (even : Type 0) : Type 0 where
  least : apart s s X n ≤ apart t s Y n
  tie : apart s s X n ≡ apart t s Y n → ((t ≡ s) × (Y ≡ X)) ⊎ even

-- a number of the other sign is farther away than 0
signed : (t s : Bool) (X Y n : ℕ) (even : Type 0) → gap X n < n → NoNearer X Y n even → Signed t s X Y n even
signed true true X Y n even close r = record { least = r.least; tie = λ t. ⊎_elim (λ same. inl (refl, same)) (λ e. inr e) (r.tie t) }
signed false false X Y n even close r = record { least = r.least; tie = λ t. ⊎_elim (λ same. inl (refl, same)) (λ e. inr e) (r.tie t) }
signed true false X Y n even close r = record { least = omega arith; tie = λ t. absurd (omega arith) }
signed false true X Y n even close r = record { least = omega arith; tie = λ t. absurd (omega arith) }

-- ---- a float that fits, in units of the format's smallest value
record InUnits (f : Format) (m : ℕ) (e : ℤ) : Type 0 where
  shift : ℕ
  value : m * up e * 2 ^ low f ≡ m * 2 ^ shift * down e
  small : m < 2 ^ prec f

exponent : (i j : ℕ) → 2 ^ i ≤ 2 ^ j → i ≤ j
exponent i j h = go (leb i j) (leb→le i j) (nleb→lt i j)
  where
    go : (b : Bool) → (T b → i ≤ j) → (T (not b) → j < i) → i ≤ j
    go true l g = l tt
    go false l g = let more : 2 ^ j < 2 ^ i = pow-lt (g tt) in absurd (omega arith)

shifted : (m : ℕ) (e : ℤ) (l : ℕ) → down e ≤ 2 ^ l → (i : ℕ) × (m * up e * 2 ^ l ≡ m * 2 ^ i * down e)
shifted m (pos c) l h = (c + l, mul_assoc m (2 ^ c) (2 ^ l) ∙ ap (λ (x : ℕ). m * x) (sym (pow-add 2 c l)) ∙ sym (mul-one (m * 2 ^ (c + l))))
shifted m (negsuc c) l h =
    let reached : l - suc c + suc c ≡ l = let few = exponent (suc c) l h in omega arith in (
      l - suc c,
      ap (λ (x : ℕ). x * 2 ^ l) (mul-one m)
          ∙ ap (λ (x : ℕ). m * x) (ap (λ (x : ℕ). 2 ^ x) (sym reached) ∙ pow-add 2 (l - suc c) (suc c))
          ∙ sym (mul_assoc m (2 ^ (l - suc c)) (2 ^ suc c)),
    )

held : (f : Format) (t : Bool) (m : ℕ) (e : ℤ) → T (fits f (fin t m e)) → InUnits f m e
unfolding fits
held f t zero e h = record { shift = 0; value = ap (λ (x : ℕ). x * 2 ^ low f) (zero-mul (up e)) ∙ zero-mul (2 ^ low f) ∙ sym (zero-mul (down e)); small = pow_pos (prec f) }
held f t (suc m) e h =
    let three = and_l (eqb (suc m % 2) 1 && ltb (suc m) (2 ^ prec f) && leb (down e) (2 ^ low f)) _ h in
    let i = shifted (suc m) e (low f) (leb→le (down e) (2 ^ low f) (and_r (eqb (suc m % 2) 1 && ltb (suc m) (2 ^ prec f)) _ three)) in
    record { shift = i.0; value = i.1; small = ltb→lt (suc m) (2 ^ prec f) (and_r (eqb (suc m % 2) 1) _ (and_l (eqb (suc m % 2) 1 && ltb (suc m) (2 ^ prec f)) _ three)) }

-- ---- the pattern of a float, by its units
abbrev pattern : Format → Bool → ℕ → ℕ
pattern f t X = cond t (top f) 0 + (Ieee.size X - prec f) * hid f + X / 2 ^ (Ieee.size X - prec f)

pattern-is : (f : Format) (t : Bool) (m : ℕ) (e : ℤ) (X : ℕ) → m * up e * 2 ^ low f ≡ X * down e → to_bits f (fin t m e) ≡ pattern f t X
unfolding to_bits
pattern-is f t m e X v = ap (pattern f t) (ap (λ (x : ℕ). x / down e) v ∙ mul-div_cancel X (down_pos e))

-- two that fit and have one pattern are the same
same-pattern : (f : Format) (x y : Float) → T (fits f x) → T (fits f y) → to_bits f x ≡ to_bits f y → x ≡ y
same-pattern f x y h k e = sym (of_bits-to_bits f x h) ∙ ap (Ieee.of_bits f) e ∙ of_bits-to_bits f y k

even-times : (q j : ℕ) → q % 2 ≡ 0 → q * j % 2 ≡ 0
even-times q j e =
    let half : q ≡ q / 2 * 2 = omega arith in
    ap (λ (x : ℕ). x * j % 2) half ∙ ap (λ (x : ℕ). x % 2) (mul_right_comm (q / 2) 2 j) ∙ mul-mod_left (q / 2 * j) 2

-- an even q of at most 24 digits, or 2 ^ 24, times a power of two: the last of its 24 leading digits is 0
last-digit : (q k : ℕ) → q ≤ 2 ^ 24 → q % 2 ≡ 0 → q * 2 ^ k / 2 ^ (Ieee.size (q * 2 ^ k) - 24) % 2 ≡ 0
last-digit q k Q e = go (Ieee.size (q * 2 ^ k) - 24) refl (leb (Ieee.size (q * 2 ^ k) - 24) k) (leb→le _ k) (nleb→lt _ k)
  where
    top-is : (z : ℕ) → Ieee.size (q * 2 ^ k) - 24 ≡ z → k < z → (q * 2 ^ k ≡ 2 ^ 23 * 2 ^ suc k) × (z ≡ suc k)
    top-is z is more =
        let below : q * 2 ^ k ≤ 2 ^ 24 * 2 ^ k = mul-le-mul_right (2 ^ k) Q in
        let above : 2 ^ (24 + k) ≤ q * 2 ^ k = size_reaches (q * 2 ^ k) (24 + k) (omega arith) in
        let power : 2 ^ (24 + k) ≡ 2 ^ 24 * 2 ^ k = pow-add 2 24 k in
        let next : 2 ^ suc (24 + k) ≡ 2 ^ (24 + k) * 2 = pow-suc 2 (24 + k) in
        let all : Ieee.size (q * 2 ^ k) ≤ suc (24 + k) = size-le (q * 2 ^ k) (suc (24 + k)) (omega (arith, pow_pos k)) in
        (omega (arith, pow-suc 2 k), omega arith)

    go : (z : ℕ) → Ieee.size (q * 2 ^ k) - 24 ≡ z → (b : Bool) → (T b → z ≤ k) → (T (not b) → k < z) → q * 2 ^ k / 2 ^ z % 2 ≡ 0
    go z is true h g =
        let back : k - z + z ≡ k = let l = h tt in omega arith in
        let split : q * 2 ^ k ≡ q * 2 ^ (k - z) * 2 ^ z = ap (λ (x : ℕ). q * 2 ^ x) (sym back) ∙ ap (λ (x : ℕ). q * x) (pow-add 2 (k - z) z) ∙ sym (mul_assoc q (2 ^ (k - z)) (2 ^ z)) in
        ap (λ (x : ℕ). x / 2 ^ z % 2) split ∙ ap (λ (x : ℕ). x % 2) (shl-shr (q * 2 ^ (k - z)) z) ∙ even-times q (2 ^ (k - z)) e
    go z is false h g =
        let t = top-is z is (g tt) in
        ap (λ (x : ℕ). q * 2 ^ k / 2 ^ x % 2) t.1 ∙ ap (λ (x : ℕ). x / 2 ^ suc k % 2) t.0 ∙ ap (λ (x : ℕ). x % 2) (shl-shr (2 ^ 23) (suc k))

even_sum : (c z v : ℕ) → c % 2 ≡ 0 → v % 2 ≡ 0 → (c + z * 8388608 + v) % 2 ≡ 0
even_sum c z v h k = omega arith

even-pattern : (t : Bool) (q k : ℕ) → q ≤ 2 ^ 24 → q % 2 ≡ 0 → pattern binary32 t (q * 2 ^ k) % 2 ≡ 0
even-pattern true q k Q e = even_sum 2147483648 (Ieee.size (q * 2 ^ k) - 24) _ refl (last-digit q k Q e)
even-pattern false q k Q e = even_sum 0 (Ieee.size (q * 2 ^ k) - 24) _ refl (last-digit q k Q e)

-- ---- a whole number that is not 0
less-than : (g u n : ℕ) → g * 2 ≤ u → 0 < u → 2 ^ 23 * u ≤ n → g < n
less-than g u n h U N = omega arith

module _ (raw : ℤ) (A : 0 < size raw) (A' : size raw ≤ 2 ^ 31) where
  abbrev l : ℕ
  l = 2 ^ low binary32

  abbrev n : ℕ
  n = size raw * l

  abbrev k : ℕ
  k = drop 24 n 1

  abbrev q : ℕ
  q = kept 24 n 1

  by-unit : q ≡ closest n (2 ^ k)
  by-unit = ap (closest n) (one-mul (2 ^ k))

  normal : 2 ^ 23 * 1 ≤ n
  normal = wider (2 ^ 23 * 1) (size raw) 23 149 (lit≤ tt) (omega arith)

  enough : 2 ^ 23 * 2 ^ k ≤ n
  enough = subst (λ (u : ℕ). 2 ^ 23 * u ≤ n) (one-mul (2 ^ k)) (unit-small binary32 (size raw) 1 (omega arith) normal)

  few : q ≤ 2 ^ 24
  few = le_trans (nearest-le (n / (1 * 2 ^ k)) (compare (n % (1 * 2 ^ k) * 2) (1 * 2 ^ k))) (subst (λ (w : ℕ). w < 2 ^ 24) (div-div-eq-div-mul n 1 (2 ^ k)) (kept-lt 24 (n / 1)))

  close : gap (q * 2 ^ k) n < n
  close = less-than _ (2 ^ k) n (subst (λ (c : ℕ). gap (c * 2 ^ k) n * 2 ≤ 2 ^ k) (sym by-unit) (closest-err n (2 ^ k) (pow_pos k))) (pow_pos k) enough

  others : (m i : ℕ) → m < 2 ^ 24 → NoNearer (q * 2 ^ k) (m * 2 ^ i) n (q % 2 ≡ 0)
  others m i M = subst (λ (c : ℕ). NoNearer (c * 2 ^ k) (m * 2 ^ i) n (c % 2 ≡ 0)) (sym by-unit) (digits n k 23 m i enough M)

  value : HasValue (round binary32 (negative raw) (size raw) 1) (negative raw) (q * 2 ^ k) l
  value = round-value binary32 (negative raw) (size raw) 1 (omega arith) normal (wider (suc (size raw)) 1 32 127 (lit≤ tt) (omega arith))

  record Against (x y : Float) : Type 0 where
    least : distance x raw * over y ≤ distance y raw * over x
    tie : distance x raw * over y ≡ distance y raw * over x → (y ≡ x) ⊎ (to_bits binary32 x % 2 ≡ 0)

  against : (x y : Float) → T (fits binary32 x) → HasValue x (negative raw) (q * 2 ^ k) l → T (finite y) → T (fits binary32 y) → Against x y
  against nan y fx v fy h = absurd v
  against (inf _) y fx v fy h = absurd v
  against (fin b c d) nan fx v fy h = absurd fy
  against (fin b c d) (inf _) fx v fy h = absurd fy
  against (fin b c d) (fin t m e) fx v fy h =
      let u = held binary32 t m e h in
      let sides = signed t (negative raw) (q * 2 ^ k) (m * 2 ^ u.shift) n (q % 2 ≡ 0) close (others m u.shift u.small) in
      let one : distance (fin b c d) raw * l ≡ apart (negative raw) (negative raw) (q * 2 ^ k) n * down d =
      in-units b (negative raw) (c * up d) (down d) (q * 2 ^ k) (size raw) l v.1 ∙ ap (λ (sign : Bool). apart sign (negative raw) (q * 2 ^ k) n * down d) v.0 in
      let two : distance (fin t m e) raw * l ≡ apart t (negative raw) (m * 2 ^ u.shift) n * down e = in-units t (negative raw) (m * up e) (down e) (m * 2 ^ u.shift) (size raw) l u.value in
      record {
        least = transfer _ _ (down d) (down e) _ _ l l (pow_pos 149) (pow_pos 149) one two (mul-le-mul_right l sides.least);
        tie = λ same.
            ⊎_elim (λ both. inl (same-pattern binary32 (fin t m e) (fin b c d) h fx
            (pattern-is binary32 t m e _ u.value ∙ ap (λ (sign : Bool). pattern binary32 sign (m * 2 ^ u.shift)) (both.0 ∙ sym v.0) ∙ ap (pattern binary32 b) both.1 ∙ sym (pattern-is binary32 b c d _ v.1))))
            (λ even. inr (ap (λ (bits : ℕ). bits % 2) (pattern-is binary32 b c d _ v.1) ∙ even-pattern b q k few even))
            (sides.tie (le_antisymm sides.least
            (le_of_mul-le-mul_right (transfer _ _ l l _ _ (down e) (down d) (down_pos e) (down_pos d) (sym two) (sym one) (le_of_eq (sym same))) (pow_pos 149))));
      }

  rounded : (x : Float) → T (fits binary32 x) → HasValue x (negative raw) (q * 2 ^ k) l → NearestEven raw x
  rounded nan fx v = absurd v
  rounded (inf t) fx v = absurd v
  rounded (fin b c d) fx v =
      record {
        is_finite = tt;
        is-binary32 = fx;
        nearest = λ y finite h. (against (fin b c d) y fx v finite h).least;
        even = λ y finite h. (against (fin b c d) y fx v finite h).tie;
      }

-- ---- every whole number up to 2 ^ 31 either way
pub nearest-even : (raw : ℤ) → size raw ≤ 2 ^ 31 → NearestEven raw (of_int binary32 raw)
unfolding of_int fits to_bits
nearest-even (pos zero) h =
    record { is_finite = tt; is-binary32 = tt; nearest = λ y finite fit. le_trans (le_of_eq (zero-mul (over y))) zero-le; even = λ y finite fit tie. inr refl }
nearest-even (pos (suc a)) h = rounded (pos (suc a)) (omega arith) h (round binary32 false (suc a) 1) (round-fits binary32 false (suc a) 1) (value (pos (suc a)) (omega arith) h)
nearest-even (negsuc a) h = rounded (negsuc a) (omega arith) h (round binary32 true (suc a) 1) (round-fits binary32 true (suc a) 1) (value (negsuc a) (omega arith) h)
