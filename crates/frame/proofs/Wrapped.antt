-- What wrapping a payload of n bytes answers and leaves in the buffer, by document 01's tests; and the frame as a run of writes.
use mathlib.Core.Path.{◌≡◌, refl, sym, ap, ◌∙◌, subst}
use mathlib.Core.Bool.{Bool, true, false, not, cond}
use mathlib.Core.List.{List, [], ◌∷◌, ◌++◌, append_assoc}
use Prim.Native.Nat.{ℕ, ◌+◌, ◌-◌, ◌≤◌, ◌<◌}
use native.Mathlib.Nat.{zero-add}
use native.Mathlib.Omega.{arith}
use lib.Dec.{T, ltb, nltb→le}
use lib.ListN.{length, take, drop, length-append, length-drop, take-append-drop}
use lib.Seq.{length-take-le, take-add, take_at, drop_at, drop-drop, drop-append-add}
use borrow.Author.Tests.{lt-ltb, le-ltb}
use Rattle.std.specs.Prelude.{Result, Ok, Err}
use Rattle.refusals.specs.Refusals.{Answer, ok, refused, buffer_too_small, payload_too_long}
use Rattle.refusals.specs.declared.EncodeError.{EncodeError}
use Rattle.refusals.specs.declared.EncodeError.TheVariants.{BufferTooSmall, PayloadTooLong}
use Rattle.refusals.proofs.Different.{none}
use Rattle.checksum.specs.Xmodem.{checksum_of}
use Rattle.format.specs.Format.{frame_start, frame_end, payload_at, payload_max}
use Rattle.packer.specs.Numbers.{big_endian}
use Rattle.packer.specs.Packing.{written, packed, PackIs}
use Rattle.packer.proofs.Writes.{digits-length, byte, fits-answer, fits_after, after-length, two-packs}
use Rattle.frame.specs.Frame.{short, frame_of, frame_size}
use Rattle.frame.specs.Room.{room_answer}
use Rattle.frame.specs.Wrapping.{wrap_answer, held_after, wrap_after, WrapIs}
use Rattle.frame.proofs.Laws.{frame-laws}

-- ---- the tests

module _ (n room : ℕ) where
  pub answer-too-long : payload_max < n → wrap_answer n room ≡ refused payload_too_long
  unfolding wrap_answer
  answer-too-long h = rw (lt-ltb payload_max n h)

  pub answer-too-small : n ≤ payload_max → room < frame_size short n → wrap_answer n room ≡ refused buffer_too_small
  unfolding wrap_answer
  answer-too-small h k = rw (le-ltb payload_max n h, lt-ltb room (frame_size short n) k)

  pub answer-fits : n ≤ payload_max → frame_size short n ≤ room → wrap_answer n room ≡ ok (frame_size short n)
  unfolding wrap_answer
  answer-fits h k = rw (le-ltb payload_max n h, le-ltb room (frame_size short n) k)

  -- of a payload whose length can be said, the test of the room is left
  pub answer-by-room : n ≤ payload_max → wrap_answer n room ≡ room_answer n room
  unfolding wrap_answer
  answer-by-room h = rw (le-ltb payload_max n h)

  -- a count is given only for a payload whose length can be said, and is that of its frame
  pub answer-given : (count : ℕ) → wrap_answer n room ≡ ok count → (n ≤ payload_max) × (count ≡ frame_size short n)
  unfolding wrap_answer
  answer-given count e = go (ltb payload_max n) (nltb→le payload_max n) (ltb room (frame_size short n)) e
    where
      go : (long : Bool) → (T (not long) → n ≤ payload_max) → (small : Bool)
          → cond long (refused payload_too_long) (cond small (refused buffer_too_small) (ok (frame_size short n))) ≡ ok count
          → (n ≤ payload_max) × (count ≡ frame_size short n)
      go true h small e = none (cc)
      go false h true e = none (cc)
      go false h false e = (h tt, cc)

-- the buffer after an answer
pub after-answer : (payload l : List ℕ) (a : Answer ℕ) → wrap_answer (length payload) (length l) ≡ a → wrap_after payload l ≡ held_after a (frame_of short payload) l
unfolding wrap_after
after-answer payload l a e = ap (λ (x : Answer ℕ). held_after x (frame_of short payload) l) e

-- ---- the frame as a run of writes

-- a number that has its room is written, and not refused
pub not-refused : {l after : List ℕ} {error : EncodeError} (width n at : ℕ) → at + width ≤ length l → PackIs (big_endian width n) l at (Err error) after → ⊥
not-refused {l} width n at room w =
    let fits = fits-answer (big_endian width n) l at (omega (arith, digits-length width n)) in
    none (cc (w.answer, fits))

-- what was written at the front stands there, and the rest is as it was
at_front : {bytes l after : List ℕ} {r : Result ℕ EncodeError} → PackIs bytes l 0 r after → length bytes ≤ length l → after ≡ bytes ++ drop (length bytes) l
unfolding written
at_front {bytes} {l} w room = w.holds ∙ fits_after bytes l 0 (omega arith) ∙ rw zero-add

-- to write the bytes that stand at a place is to write nothing
same-packed : (l : List ℕ) (at n : ℕ) → at + n ≤ length l → PackIs (take n (drop at l)) l at (Ok (at + n)) l
unfolding written
same-packed l at n room =
    let size : length (take n (drop at l)) ≡ n = length-take-le n (drop at l) (simp length-drop (omega arith)) in
    record {
      answer = ap (λ (k : ℕ). ok (at + k)) (sym size) ∙ sym (fits-answer (take n (drop at l)) l at (omega arith));
      holds = sym (fits_after (take n (drop at l)) l at (omega arith) ∙ rw (size, ← take-add at n l) (take-append-drop (at + n) l));
    }

-- ---- what `wrap` answers

module _ (n : ℕ) (l : List ℕ) where
  abbrev there : List ℕ
  there = take n (drop payload_at l)

  wrap-is : {r : Result ℕ EncodeError} {after : List ℕ} (a : Answer ℕ) → wrap_answer n (length l) ≡ a → packed r ≡ a → after ≡ held_after a (frame_of short there) l → WrapIs n l r after
  wrap-is a is answers holds =
      record { answer = answers ∙ sym is; holds = holds ∙ ap (λ (x : Answer ℕ). held_after x (frame_of short there) l) (sym is) }

  pub too_long : payload_max < n → WrapIs n l (Err PayloadTooLong) l
  too_long h = wrap-is _ (answer-too-long n (length l) h) refl refl

  module _ (small : n ≤ payload_max) where
    pub too_small : length l < frame_size short n → WrapIs n l (Err BufferTooSmall) l
    too_small h = wrap-is _ (answer-too-small n (length l) small h) refl refl

    module _ (room : frame_size short n ≤ length l) {k m : List ℕ} {q r : Result ℕ EncodeError} (one : PackIs (big_endian 1 frame_start) l 0 q k) (two : PackIs (big_endian 1 n) k 1 r m) where
      size : length there ≡ n
      size = length-take-le n (drop payload_at l) (simp length-drop (omega arith))

      front : PackIs (frame_start ∷ n ∷ []) l 0 r m
      front = two-packs {p = frame_start ∷ []} {q = n ∷ []} (omega arith) (rw (byte frame_start (omega arith)) at one) (rw (byte n (omega arith)) at two)

      as_long : length m ≡ length l
      as_long = ap length front.holds ∙ after-length (frame_start ∷ n ∷ []) l 0 (omega arith)

      payload-there : take n (drop payload_at m) ≡ there
      payload-there = ap (λ (x : List ℕ). take n (drop payload_at x)) (at_front front (omega arith))

      up-to-payload : PackIs (frame_start ∷ n ∷ there) l 0 (Ok (payload_at + n)) m
      up-to-payload =
          two-packs {p = frame_start ∷ n ∷ []} {q = there} (omega (arith, size)) front (rw payload-there at (same-packed m payload_at n (omega (arith, as_long))))

      module _ {o after : List ℕ} {s t : Result ℕ EncodeError} {sum : ℕ} (three : PackIs (big_endian 2 sum) m (payload_at + n) s o)
          (four : PackIs (big_endian 1 frame_end) o (payload_at + n + 2) t after) (summed : sum ≡ checksum_of (take (payload_at + n - payload_at) (drop payload_at l))) where
        abbrev ending : List ℕ
        ending = big_endian 2 sum ++ (frame_end ∷ [])

        three-bytes : length ending ≡ 3
        three-bytes = omega (arith, length-append (big_endian 2 sum) (frame_end ∷ []), digits-length 2 sum)

        behind-payload : PackIs ending m (payload_at + n) t after
        behind-payload =
            two-packs {p = big_endian 2 sum} {q = frame_end ∷ []} (omega (arith, as_long, three-bytes)) three
            (rw (digits-length 2 sum) (rw (byte frame_end (omega arith)) at four))

        whole : PackIs (frame_of short there) l 0 t after
        unfolding frame_of
        whole =
            let all : payload_at + n - payload_at ≡ n = omega arith in
            let is : sum ≡ checksum_of there = rw all at summed in
            let place : 0 + length (frame_start ∷ n ∷ there) ≡ payload_at + n = omega (arith, size) in
            rw (← is, size, byte n (omega arith))
            (two-packs {p = frame_start ∷ n ∷ there} {q = ending} (omega (arith, size, three-bytes, length-append there ending)) up-to-payload (rw place behind-payload))

        pub wrapped : WrapIs n l t after
        wrapped =
            let long : length (frame_of short there) ≡ frame_size short n = (frame-laws short).size there ∙ ap (frame_size short) size in
            wrap-is (ok (frame_size short n)) (answer-fits n (length l) small room)
            (whole.answer ∙ fits-answer (frame_of short there) l 0 (omega arith) ∙ ap ok (omega arith)) (at_front whole (omega arith))

-- ---- a payload written at its place, and then wrapped

module _ {l m : List ℕ} {s : Result ℕ EncodeError} (payload : List ℕ) (small : length payload ≤ payload_max) (room : frame_size short (length payload) ≤ length l)
    (w : PackIs payload l payload_at s m) where
  abbrev ahead : List ℕ
  ahead = take payload_at l ++ payload

  abbrev behind : List ℕ
  behind = drop (payload_at + length payload) l

  m-is : m ≡ ahead ++ behind
  unfolding written
  m-is = w.holds ∙ fits_after payload l payload_at (omega arith)

  two : length (take payload_at l) ≡ payload_at
  two = length-take-le payload_at l (omega arith)

  m-long : length m ≡ length l
  m-long = ap length w.holds ∙ after-length payload l payload_at (omega arith)

  stands : take (length payload) (drop payload_at m) ≡ payload
  stands =
      rw (m-is, append_assoc (take payload_at l) payload behind, drop_at (take payload_at l) (payload ++ behind) payload_at two) (take_at payload behind (length payload) refl)

  same-behind : drop (length (frame_of short payload)) m ≡ drop (length (frame_of short payload)) l
  same-behind =
      let long : length (frame_of short payload) ≡ length ahead + 3 = omega (arith, (frame-laws short).size payload, length-append (take payload_at l) payload, two) in
      let further : payload_at + length payload + 3 ≡ length ahead + 3 = omega (arith, length-append (take payload_at l) payload, two) in
      rw (long, m-is) (drop-append-add ahead behind 3 ∙ drop-drop 3 (payload_at + length payload) l ∙ ap (λ (at : ℕ). drop at l) further)

  -- the size of the frame is answered, and the buffer begins with the frame
  pub payload-wrapped : {after : List ℕ} {r : Result ℕ EncodeError} {n : ℕ} → n ≡ length payload → WrapIs n m r after
      → (packed r ≡ ok (frame_size short (length payload))) × (after ≡ frame_of short payload ++ drop (length (frame_of short payload)) l)
  payload-wrapped {after} {r} count is =
      let here : WrapIs (length payload) m r after = subst (λ (n : ℕ). WrapIs n m r after) count is in
      let fits = answer-fits (length payload) (length m) small (omega (arith, m-long)) in
      (here.answer ∙ fits, here.holds ∙ rw (stands, fits) (ap (λ (x : List ℕ). frame_of short payload ++ x) same-behind))
