-- What `feed` does: by cases, and to a buffer that has room.
use mathlib.Core.Path.{◌≡◌, refl, sym, ap, ◌∙◌}
use mathlib.Core.List.{List, [], ◌++◌}
use mathlib.Core.Bool.{Bool, true, false, cond, true≢false}
use Prim.Native.Nat.{ℕ, ◌+◌, ◌-◌, ◌<◌, ◌≤◌, min}
use native.Mathlib.Omega.{arith}
use native.Mathlib.Nat.{zero-add, min-le_right}
use borrow.Author.Tests.{ltb-false, lt-ltb, le-ltb, eq-eqb, ne_eqb, eqb-true}
use lib.Dec.{ltb, eqb}
use lib.ListN.{length, take, length-append}
use lib.Seq.{length-take-le, take-length}
use Rattle.buffer.specs.Buffer.{Buffer, at_front, moved, all_cleared, emptied, fitting, mark_fed, copied, feed_count, fed_buffer}
use Rattle.buffer.specs.Clearing.{Clears, Keeps, Clearing}

-- Two buffers with the same fields.
pub buffer-same : (a b : Buffer) → a.unread ≡ b.unread → a.wpos ≡ b.wpos → a.fed ≡ b.fed → a.handed ≡ b.handed → a.passed ≡ b.passed → a.cleared ≡ b.cleared
    → a.drained ≡ b.drained → a ≡ b
buffer-same a b u w f h p c m = λ i. record { unread = u i; wpos = w i; fed = f i; handed = h i; passed = p i; cleared = c i; drained = m i }

-- ---- the parts of `feed`, by the test that a program makes

pub moved-when : (n : ℕ) (buffer : Buffer) → 512 - buffer.wpos < n → moved n buffer ≡ at_front buffer
unfolding moved
moved-when n buffer h = simp (lt-ltb _ _ h)

pub moved-not : (n : ℕ) (buffer : Buffer) → n ≤ 512 - buffer.wpos → moved n buffer ≡ buffer
unfolding moved
moved-not n buffer h = simp (le-ltb _ _ h)

-- What moving to the front does not change.
pub moved_same : {A : Type 0} (part : Buffer → A) (n : ℕ) (buffer : Buffer) → part (at_front buffer) ≡ part buffer → part (moved n buffer) ≡ part buffer
unfolding moved
moved_same part n buffer same = by (ltb (512 - buffer.wpos) n)
  where
    by : (b : Bool) → part (cond b (at_front buffer) buffer) ≡ part buffer
    by true = same
    by false = refl

pub emptied-when : (buffer : Buffer) → buffer.wpos ≡ 512 → emptied buffer ≡ all_cleared buffer
unfolding emptied
emptied-when buffer h = simp (eq-eqb _ _ h)

pub emptied-not : (buffer : Buffer) → (buffer.wpos ≡ 512 → ⊥) → emptied buffer ≡ buffer
unfolding emptied
emptied-not buffer h = simp (ne_eqb _ _ h)

-- ---- a buffer that calls can make, and that has room

-- "A state no calls can make" has its read position past its write position, or that one past 512; W12: or it is "marked drained with over 109 bytes
-- unread". This one has none of these
pub record Fits (buffer : Buffer) : Type 0 where
  pub low : length buffer.unread ≤ buffer.wpos
  pub high : buffer.wpos ≤ 512
  pub few : buffer.drained ≡ true → length buffer.unread ≤ 109

-- `feed` of any piece leaves such a buffer.
pub moved-fits : (n : ℕ) (buffer : Buffer) → Fits buffer → Fits (moved n buffer)
unfolding moved
moved-fits n buffer fits = by (ltb (512 - buffer.wpos) n)
  where
    by : (b : Bool) → Fits (cond b (at_front buffer) buffer)
    by true = record { low = omega arith; high = omega (arith, fits.low, fits.high); few = λ q. omega (arith, fits.few q) }
    by false = fits

emptied-fits : (buffer : Buffer) → Fits buffer → Fits (emptied buffer)
unfolding emptied
emptied-fits buffer fits = by (eqb buffer.wpos 512)
  where
    by : (b : Bool) → Fits (cond b (all_cleared buffer) buffer)
    by true = record { low = omega arith; high = omega arith; few = λ e. omega arith }
    by false = fits

-- A nonempty piece takes the mark away.
pub mark-off : (n : ℕ) (mark : Bool) → 0 < n → mark_fed n mark ≡ false
mark-off n mark some = simp (ne_eqb n 0 (λ q. omega arith))

-- A mark that is there after a feed was there before it, and the piece was empty.
pub mark-stays : (n : ℕ) (mark : Bool) → mark_fed n mark ≡ true → (n ≡ 0) × (mark ≡ true)
mark-stays n mark = by (eqb n 0) refl
  where
    by : (b : Bool) → eqb n 0 ≡ b → cond b mark false ≡ true → (n ≡ 0) × (mark ≡ true)
    by true e h = (eqb-true _ _ e, h)
    by false e h = absurd (true≢false (sym h))

pub copied-fits : (piece : List ℕ) (buffer : Buffer) → Fits buffer → Fits (copied piece (fitting (length piece) buffer) buffer)
unfolding fitting copied
copied-fits piece buffer f =
    let n = min (512 - buffer.wpos) (length piece) in
    let size = length-append buffer.unread (take n piece) in
    let taken = length-take-le n piece (min-le_right _ _) in
    record {
      low = omega (arith, size, taken, f.low);
      high = omega (arith, f.high);
      few = λ e. let m = mark-stays (length piece) buffer.drained e in omega (arith, size, taken, m.0, f.few m.1);
    }

pub feed-fits : (buffer : Buffer) (piece : List ℕ) → Fits buffer → Fits (fed_buffer buffer piece)
unfolding fed_buffer feed_count
feed-fits buffer piece fits = copied-fits piece (emptied (moved (length piece) buffer)) (emptied-fits _ (moved-fits (length piece) buffer fits))

-- what is left free before the copying, with the unread bytes kept and so none cleared
record Free (buffer ready : Buffer) : Type 0 where
  same : ready.unread ≡ buffer.unread
  none-cleared : ready.cleared ≡ buffer.cleared
  room : ready.wpos < 512

free-by : (buffer : Buffer) (n : ℕ) (b : Bool) → ltb (512 - buffer.wpos) n ≡ b → 0 < n → length buffer.unread < 512
    → Free buffer (emptied (cond b (at_front buffer) buffer))
free-by buffer n true e some short =
    let kept = emptied-not (at_front buffer) (λ q. omega arith) in
    rw kept (record { same = refl; none-cleared = refl; room = short })
free-by buffer n false e some short =
    let tail : n ≤ 512 - buffer.wpos = ltb-false _ _ e in
    rw (emptied-not buffer (λ q. omega arith)) (record { same = refl; none-cleared = refl; room = omega arith })

free : (buffer : Buffer) (n : ℕ) → 0 < n → length buffer.unread < 512 → Free buffer (emptied (moved n buffer))
unfolding moved
free buffer n some short = free-by buffer n _ refl some short

-- `feed` takes no more than is offered.
pub taken-most : (buffer : Buffer) (piece : List ℕ) → feed_count buffer piece ≤ length piece
unfolding feed_count fitting
taken-most buffer piece = min-le_right _ _

-- ---- "So it clears (i) when 512 bytes lie unread, and (ii) on an empty piece when the tail is full, even if most bytes were read."

-- `feed`, from what is ready for the copying
feed-from : (buffer : Buffer) (piece : List ℕ) (ready : Buffer) → emptied (moved (length piece) buffer) ≡ ready
    → (feed_count buffer piece ≡ fitting (length piece) ready) × (fed_buffer buffer piece ≡ copied piece (fitting (length piece) ready) ready)
unfolding fed_buffer feed_count
feed-from buffer piece ready e = (ap (fitting (length piece)) e, ap (λ (l : Buffer). copied piece (fitting (length piece) l) l) e)

-- (i) a piece of any length
full-ready : (buffer : Buffer) (n : ℕ) → length buffer.unread ≡ 512 → buffer.wpos ≡ 512 → emptied (moved n buffer) ≡ all_cleared buffer
unfolding moved
full-ready buffer n all end = by (ltb (512 - buffer.wpos) n)
  where
    by : (b : Bool) → emptied (cond b (at_front buffer) buffer) ≡ all_cleared buffer
    by true = emptied-when _ all
    by false = emptied-when _ end

-- (ii)
empty-ready : (buffer : Buffer) → buffer.wpos ≡ 512 → emptied (moved 0 buffer) ≡ all_cleared buffer
empty-ready buffer end = ap emptied (moved-not 0 buffer (omega arith)) ∙ emptied-when buffer end

-- By what is ready for the copying: everything unread is cleared, or all of it is still there.
clears-from : (buffer : Buffer) (piece : List ℕ) → emptied (moved (length piece) buffer) ≡ all_cleared buffer → Clears buffer piece
unfolding fed_buffer copied
clears-from buffer piece e =
    record { unread = ap (λ (l : Buffer). l.unread ++ take (feed_count buffer piece) piece) e; cleared = ap (λ (l : Buffer). l.cleared) e }

keeps-from : (buffer : Buffer) (piece : List ℕ) → Free buffer (emptied (moved (length piece) buffer)) → Keeps buffer piece
unfolding fed_buffer copied
keeps-from buffer piece f = record { unread = ap (λ (l : List ℕ). l ++ take (feed_count buffer piece) piece) f.same; cleared = f.none-cleared }

pub clearing : Clearing
clearing =
    record {
      full = λ buffer piece all end. clears-from buffer piece (full-ready buffer (length piece) all end);
      empty = λ buffer end. clears-from buffer [] (empty-ready buffer end);
      not_full = λ buffer piece short some. keeps-from buffer piece (free buffer (length piece) some short);
      tail-free = λ buffer room. keeps-from buffer [] (rw (moved-not 0 buffer (omega arith), emptied-not buffer (λ q. omega arith)) (record { same = refl; none-cleared = refl; room = room }));
    }

-- what `feed` then did: nothing is lost, and a byte or more is taken
pub record Taken (buffer : Buffer) (piece : List ℕ) : Type 0 where
  pub keeps : Keeps buffer piece
  pub some : 0 < feed_count buffer piece

-- Of a piece with a byte `feed` takes a byte or more and loses nothing, if fewer than 512 bytes are unread.
pub taken : (buffer : Buffer) (piece : List ℕ) → 0 < length piece → length buffer.unread < 512 → Taken buffer piece
unfolding feed_count fitting
taken buffer piece some short =
    let ready = emptied (moved (length piece) buffer) in
    let f = free buffer (length piece) some short in
    record { keeps = clearing.not_full buffer piece short some; some = omega (arith, f.room) }

pub empty-clears : (buffer : Buffer) → buffer.wpos ≡ 512 → (feed_count buffer [] ≡ 0) × ((fed_buffer buffer []).unread ≡ []) × ((fed_buffer buffer []).wpos ≡ 0)
unfolding fitting copied
empty-clears buffer end =
    let f = feed-from buffer [] _ (empty-ready buffer end) in
    (f.0, ap (λ (l : Buffer). l.unread) f.1, ap (λ (l : Buffer). l.wpos) f.1)

-- With nothing unread and all 512 bytes free, a piece that fits is taken whole.
pub empty-takes : (buffer : Buffer) (piece : List ℕ) → buffer.unread ≡ [] → buffer.wpos ≡ 0 → length piece ≤ 512
    → (feed_count buffer piece ≡ length piece) × ((fed_buffer buffer piece).unread ≡ piece) × ((fed_buffer buffer piece).wpos ≡ length piece)
unfolding fitting copied
empty-takes buffer piece none front fits =
    let n : min (512 - buffer.wpos) (length piece) ≡ length piece = omega arith in
    let apart : buffer.wpos ≡ 512 → ⊥ = (λ q. omega arith) in
    let f = feed-from buffer piece buffer (ap emptied (moved-not (length piece) buffer (omega arith)) ∙ emptied-not buffer apart) in (
      f.0 ∙ n,
      ap (λ (l : Buffer). l.unread) f.1 ∙ (λ i. none i ++ take (n i) piece) ∙ take-length piece,
      ap (λ (l : Buffer). l.wpos) f.1 ∙ (λ i. front i + n i) ∙ zero-add (length piece),
    )
