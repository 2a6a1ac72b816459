-- `well_formed` decides the rule `WellFormed`: rows of different lengths never stand at the front of the same bytes.
use Rattle.std.specs.Prelude.{◌≡◌, ℕ, zero, suc, ◌<◌, ◌≤◌, Bool, true, false, cond, ◌&&◌, ◌||◌, eqb, ltb, leb, ◌⊎◌, ◌↔◌, List, [], ◌∷◌, length, drop}
use mathlib.Core.Path.{refl, sym, ap, ◌∙◌}
use mathlib.Core.Bool.{and-eq-true_iff, false≢true}
use mathlib.Core.List.Memᴰ
use mathlib.Core.List.{Memᴰ}
use mathlib.Core.Logic.{⊎_elim, inl, inr}
use native.Mathlib.Omega.{arith}
use lib.Seq.{drop-nil}
use borrow.Author.Tests.{eqb-true, ltb-true, leb-true}
use Rattle.text.specs.Utf8.{range, Row, table, within, stands, front_length, after_first_byte, well_formed_after, well_formed, WellFormed, empty, sequence}
use Rattle.text.proofs.Passing.{past-sequence}

-- a row of a list that stands at the front, and its length
record Standing (rows : List Row) (bytes : List ℕ) (size : ℕ) : Type 0 where
  row : Row
  member : Memᴰ row rows
  front : stands row bytes ≡ true
  size_of : length row ≡ size

Standing-by
    : (row : Row) (rows : List Row) (bytes : List ℕ) (size : ℕ) (b : Bool) → stands row bytes ≡ b → (front_length rows bytes ≡ size → Standing rows bytes size)
    → cond b (length row) (front_length rows bytes) ≡ size → Standing (row ∷ rows) bytes size
Standing-by row rows bytes size true s on e = record { row = row; member = Memᴰ.head refl; front = s; size_of = e }
Standing-by row rows bytes size false s on e =
    let rest = on e in
    record { row = rest.row; member = Memᴰ.tail rest.member; front = rest.front; size_of = rest.size_of }

-- so where the sequence at the front has a length, such a row stands
standing : (rows : List Row) (bytes : List ℕ) (size : ℕ) → front_length rows bytes ≡ size → (size ≡ 0 → ⊥) → Standing rows bytes size
unfolding front_length
standing [] bytes size e some = absurd (some (sym e))
standing (row ∷ rows) bytes size e some = Standing-by row rows bytes size (stands row bytes) refl (λ f. standing rows bytes size f some) e

-- what `well_formed` says yes to is well-formed by the rule
after_first
    : (byte : ℕ) (bytes : List ℕ) (size : ℕ) → front_length table (byte ∷ bytes) ≡ size
    → ((more : ℕ) → well_formed_after more bytes ≡ true → WellFormed (drop more bytes)) → after_first_byte size (λ more. well_formed_after more bytes) ≡ true
    → WellFormed (byte ∷ bytes)
after_first byte bytes zero e rest h = absurd (false≢true h)
after_first byte bytes (suc more) e rest h =
    let found = standing table (byte ∷ bytes) (suc more) e (λ z. omega arith) in
    sequence found.member found.front (rw found.size_of (rest more h))

passed-holds : (more : ℕ) (bytes : List ℕ) → well_formed_after more bytes ≡ true → WellFormed (drop more bytes)
unfolding well_formed_after
passed-holds more [] e = rw (drop-nil more) empty
passed-holds (suc more) (byte ∷ bytes) e = passed-holds more bytes e
passed-holds zero (byte ∷ bytes) e = after_first byte bytes _ refl (λ more h. passed-holds more bytes h) e

well-formed-holds : (bytes : List ℕ) → well_formed bytes ≡ true → WellFormed bytes
unfolding well_formed
well-formed-holds bytes e = passed-holds 0 bytes e

-- two rows agree: they are of one length, or no byte lies in the first range of both
abbrev agree : Row → Row → Bool
agree [] q = false
agree (r ∷ p) [] = false
agree (range a b ∷ p) (range c d ∷ q) = eqb (length p) (length q) || (ltb b c || ltb d a)

or_split : (a b : Bool) → (a || b) ≡ true → (a ≡ true) ⊎ (b ≡ true)
or_split true b e = inl refl
or_split false b e = inr e

within-bounds : (a b byte : ℕ) → within (range a b) byte ≡ true → (a ≤ byte) × (byte ≤ b)
unfolding within
within-bounds a b byte e =
    let both = (and-eq-true_iff (leb a byte) (leb byte b)).0 e in
    (leb-true a byte both.0, leb-true byte b both.1)

-- rows that agree and stand at the front of the same bytes are of one length
one-length : (p q : Row) (bytes : List ℕ) → agree p q ≡ true → stands p bytes ≡ true → stands q bytes ≡ true → length p ≡ length q
unfolding stands
one-length [] q bytes e s t = absurd (false≢true e)
one-length (r ∷ p) [] bytes e s t = absurd (false≢true e)
one-length (r ∷ p) (u ∷ q) [] e s t = absurd (false≢true s)
one-length (range a b ∷ p) (range c d ∷ q) (byte ∷ bytes) e s t =
    let x = within-bounds a b byte ((and-eq-true_iff (within (range a b) byte) (stands p bytes)).0 s).0 in
    let y = within-bounds c d byte ((and-eq-true_iff (within (range c d) byte) (stands q bytes)).0 t).0 in
    ⊎_elim (λ same. ap suc (eqb-true (length p) (length q) same))
    (λ apart. ⊎_elim (λ l. absurd (omega (arith, ltb-true b c l))) (λ l. absurd (omega (arith, ltb-true d a l))) (or_split (ltb b c) (ltb d a) apart))
    (or_split (eqb (length p) (length q)) (ltb b c || ltb d a) e)

-- a test holds of each row
abbrev every : (Row → Bool) → List Row → Bool
every f [] = true
every f (row ∷ rows) = f row && every f rows

every-at : (f : Row → Bool) (rows : List Row) {row : Row} → every f rows ≡ true → Memᴰ row rows → f row ≡ true
every-at f [] e m = absurd (Memᴰ.not-nil m)
every-at f (q ∷ rows) {row} e m =
    let both = (and-eq-true_iff (f q) (every f rows)).0 e in
    ⊎_elim (λ (same : row ≡ q). ap f same ∙ both.0) (λ n. every-at f rows both.1 n) (Memᴰ.cases_cons m)

front_by
    : (q row : Row) (bytes : List ℕ) (on : ℕ) (b : Bool) → stands q bytes ≡ b → agree row q ≡ true → stands row bytes ≡ true
    → (row ≡ q) ⊎ (on ≡ length row) → cond b (length q) on ≡ length row
front_by q row bytes on true t agreed s m = sym (one-length row q bytes agreed s t)
front_by q row bytes on false t agreed s (inl same) = absurd (false≢true (sym t ∙ (ap (λ (r : Row). stands r bytes) (sym same) ∙ s)))
front_by q row bytes on false t agreed s (inr e) = e

-- a row that stands, and that each row agrees with, says how long the sequence at the front is
Front-length
    : (rows : List Row) (row : Row) (bytes : List ℕ) → every (agree row) rows ≡ true → Memᴰ row rows → stands row bytes ≡ true
    → front_length rows bytes ≡ length row
unfolding front_length
Front-length [] row bytes agreed m s = absurd (Memᴰ.not-nil m)
Front-length (q ∷ rows) row bytes agreed m s =
    let both = (and-eq-true_iff (agree row q) (every (agree row) rows)).0 agreed in
    front_by q row bytes (front_length rows bytes) (stands q bytes) refl both.0 s
    (⊎_elim (λ same. inl same) (λ n. inr (Front-length rows row bytes both.1 n s)) (Memᴰ.cases_cons m))

-- each row of the table agrees with each, itself too: computed
table-agrees : every (λ row. every (agree row) table) table ≡ true
table-agrees = refl

-- so none is empty
row-some : (row : Row) → every (agree row) table ≡ true → 0 < length row
row-some [] agreed = absurd (false≢true agreed)
row-some (r ∷ row) agreed = omega arith

-- what is well-formed by the rule `well_formed` says yes to
holds-well-formed : {bytes : List ℕ} → WellFormed bytes → well_formed bytes ≡ true
unfolding well_formed well_formed_after
holds-well-formed empty = refl
holds-well-formed (sequence {row} {bytes} member front rest) =
    let agreed = every-at (λ (p : Row). every (agree p) table) table table-agrees member in
    past-sequence (length row) bytes (Front-length table row bytes agreed member front) (row-some row agreed) ∙ holds-well-formed rest

-- `well_formed` says yes to just what is well-formed by the rule
pub well-formed-iff : (bytes : List ℕ) → (well_formed bytes ≡ true) ↔ WellFormed bytes
well-formed-iff bytes = (well-formed-holds bytes, holds-well-formed)
