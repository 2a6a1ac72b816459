-- The buffer that a decoder holds, by its fields; and after each part of `feed`.
use mathlib.Core.Path.{◌≡◌, refl, sym, ap, ◌∙◌}
use mathlib.Core.Bool.{Bool, true, false, ◌&&◌}
use mathlib.Core.List.{List, ◌++◌}
use Prim.Native.Nat.{ℕ, ◌+◌, ◌-◌, ◌<◌, ◌≤◌}
use native.Mathlib.Omega.{arith}
use borrow.Author.Tests.{lt-ltb, le-ltb}
use borrow.Rule.Slice.PartMut.{put_mid}
use lib.Dec.{ltb}
use lib.ListN.{length, take, drop, length-drop}
use native.Mathlib.Nat.{zero-add}
use lib.Seq.{slice, length-slice, take-paste, length-take-le, drop-append-le}
use Rattle.std.specs.List.{copy_within}
use Rattle.std.proofs.lemmas.Slice.{take-put_mid}
use Rattle.buffer.specs.Buffer.{Buffer, fresh, moved}
use Rattle.buffer.proofs.Feeding.{moved-when}
use Rattle.names.proofs.Prefix.{drop-take}
use Rattle.decoder.specs.declared.Decoder.{Decoder}
use Rattle.decoder.specs.State.{buffer_of, fields_buffer, Sound, BufferIs}

-- ---- by the tests that a program makes

pub past_end_fresh : (d : Decoder) → 512 < d.wpos → buffer_of d ≡ fresh
unfolding buffer_of
past_end_fresh d h = simp (lt-ltb _ _ h)

pub past_write_fresh : (d : Decoder) → d.wpos ≤ 512 → d.wpos < d.rpos → buffer_of d ≡ fresh
unfolding buffer_of
past_write_fresh d h k = simp (le-ltb _ _ h, lt-ltb _ _ k)

pub many_unread_fresh : (d : Decoder) → d.wpos ≤ 512 → d.rpos ≤ d.wpos → d.drained ≡ true → 109 < d.wpos - d.rpos → buffer_of d ≡ fresh
unfolding buffer_of
many_unread_fresh d h k m j = simp (le-ltb _ _ h, le-ltb _ _ k, m, lt-ltb _ _ j)

-- a mark that is believed
few-unread : (d : Decoder) (b : Bool) → d.drained ≡ b → (d.drained ≡ true → d.wpos - d.rpos ≤ 109) → (d.drained && ltb 109 (d.wpos - d.rpos)) ≡ false
few-unread d true e few = simp (e, le-ltb _ _ (few e))
few-unread d false e few = simp e

pub sound-buffer : (d : Decoder) → Sound d → buffer_of d ≡ fields_buffer d
unfolding buffer_of
sound-buffer d s = simp (le-ltb _ _ s.high, le-ltb _ _ s.low, few-unread d _ refl s.few)

-- A sound decoder holds the buffer that its fields say.
pub holds : (buffer : Buffer) (d : Decoder) → Sound d → fields_buffer d ≡ buffer → BufferIs buffer d
holds buffer d s e = record { is = sound-buffer d s ∙ e; sound = s }

pub held_fields : (buffer : Buffer) (d : Decoder) → BufferIs buffer d → fields_buffer d ≡ buffer
held_fields buffer d h = sym (sound-buffer d h.sound) ∙ h.is

-- how many bytes are unread
pub unread-length : (d : Decoder) → Sound d → length (fields_buffer d).unread ≡ d.wpos - d.rpos
unread-length d s = length-slice d.rpos d.wpos d.buf (omega (arith, s.high, s.long))

-- ---- the parts of `feed`

-- the bytes from position r to position w, moved to the front
moved-slice : (b : List ℕ) (r w : ℕ) → w ≤ length b → slice 0 (w - r) (copy_within b r w 0) ≡ take (w - r) (drop r b)
moved-slice b r w high =
    ap (λ (n : ℕ). take n (copy_within b r w 0)) (sym (zero-add (w - r))) ∙ take-paste b 0 (drop r b) (w - r) (omega arith) (simp length-drop (omega arith))

-- unread bytes moved to the front
pub moved_fields : (d : Decoder) (n : ℕ) → Sound d → 512 - d.wpos < n → (buf : List ℕ) → buf ≡ copy_within d.buf d.rpos d.wpos 0
    → fields_buffer (record d { buf = buf; rpos = 0; wpos = d.wpos - d.rpos }) ≡ moved n (fields_buffer d)
moved_fields d n s h buf e =
    let bytes = ap (slice 0 (d.wpos - d.rpos)) e ∙ moved-slice d.buf d.rpos d.wpos (omega (arith, s.high, s.long)) ∙ sym (drop-take d.rpos d.wpos d.buf) in
    let size = sym (unread-length d s) in
    (λ i. record { unread = bytes i; wpos = size i; fed = d.fed; handed = d.handed; passed = d.passed; cleared = d.cleared; drained = d.drained })
    ∙ sym (moved-when n (fields_buffer d) h)

-- n bytes of the piece copied behind them
pub copied_unread : (d : Decoder) (part : List ℕ) (n k : ℕ) → Sound d → n ≡ length part
    → slice d.rpos (d.wpos + n) (put_mid d.wpos k d.buf part) ≡ slice d.rpos d.wpos d.buf ++ part
copied_unread d part n k s size =
    let within : d.wpos ≤ length d.buf = omega (arith, s.high, s.long) in
    ap (drop d.rpos) (take-put_mid d.wpos k d.buf part (d.wpos + n) (ap (λ (m : ℕ). d.wpos + m) size) within)
    ∙ drop-append-le d.rpos (take d.wpos d.buf) part (rw (length-take-le d.wpos d.buf within) s.low)

-- the mark
pub marked-buffer : (d : Decoder) (buffer : Buffer) → BufferIs buffer d → d.drained ≡ buffer.drained
marked-buffer d buffer h = ap (λ (l : Buffer). l.drained) (held_fields buffer d h)

-- what is unread
pub held-buffer : (d : Decoder) (buffer : Buffer) → BufferIs buffer d → d.wpos - d.rpos ≡ length buffer.unread
held-buffer d buffer h = sym (unread-length d h.sound) ∙ ap (λ (l : Buffer). length l.unread) (held_fields buffer d h)
