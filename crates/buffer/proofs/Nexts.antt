-- What one `next` does, by whether it gives a reply.
use mathlib.Core.Path.{◌≡◌, refl, sym, ap}
use mathlib.Core.Bool.{Bool, true, false, not, true≢false}
use Prim.Native.Nat.{ℕ, ◌+◌, ◌≤◌}
use native.Mathlib.Omega.{arith}
use lib.ListN.{length}
use Rattle.stream.specs.Reading.{Judge, Steady, Bounded}
use Rattle.stream.specs.Searching.{Search, found, nothing, size_found, search}
use Rattle.stream.proofs.Search.{moved_over, rest_of, search-account, nothing-waits}
use Rattle.buffer.specs.Buffer.{Buffer, is_found, reply_found, buffer_after, next_given, next_count, next_reply, next_buffer}
use Rattle.buffer.proofs.Feeding.{Fits}

module _ {R : Type 0} (judge : Judge R) (empty : R) where
  -- A search that found a frame, or nothing: the buffer after it has its rest unread.
  pub next-gives : (buffer : Buffer) → next_given judge buffer ≡ true
      → (over : ℕ) × (search judge buffer.unread ≡ found over (next_count judge buffer) (next_reply judge empty buffer) (next_buffer judge buffer).unread)
  unfolding next_given next_count next_reply next_buffer
  next-gives buffer = by (search judge buffer.unread)
    where
      by : (s : Search R) → is_found s ≡ true → (over : ℕ) × (s ≡ found over (size_found s) (reply_found empty s) (buffer_after s buffer).unread)
      by (found over n r after) e = (over, refl)
      by (nothing over rest) e = let z : ◌≡◌ {A = ℕ} 0 1 = cc in absurd (omega arith)

  pub next-nothing : (buffer : Buffer) → next_given judge buffer ≡ false → (over : ℕ) × (search judge buffer.unread ≡ nothing over (next_buffer judge buffer).unread)
  unfolding next_given next_buffer
  next-nothing buffer = by (search judge buffer.unread)
    where
      by : (s : Search R) → is_found s ≡ false → (over : ℕ) × (s ≡ nothing over (buffer_after s buffer).unread)
      by (found over n r after) e = let z : ◌≡◌ {A = ℕ} 0 1 = cc in absurd (omega arith)
      by (nothing over rest) e = (over, refl)

module _ {R : Type 0} (judge : Judge R) where
  -- Nothing given has no bytes.
  pub nothing-count : (buffer : Buffer) → next_given judge buffer ≡ false → next_count judge buffer ≡ 0
  unfolding next_given next_count
  nothing-count buffer = by (search judge buffer.unread)
    where
      by : (s : Search R) → is_found s ≡ false → size_found s ≡ 0
      by (found over n r after) e = let z : ◌≡◌ {A = ℕ} 0 1 = cc in absurd (omega arith)
      by (nothing over rest) e = refl

  -- and the empty reply
  pub nothing-reply : (empty : R) (buffer : Buffer) → next_given judge buffer ≡ false → next_reply judge empty buffer ≡ empty
  unfolding next_given next_reply
  nothing-reply empty buffer = by (search judge buffer.unread)
    where
      by : (s : Search R) → is_found s ≡ false → reply_found empty s ≡ empty
      by (found over n r after) e = absurd (true≢false e)
      by (nothing over rest) e = refl

  -- The place where the next byte is written stays.
  pub next-wpos : (buffer : Buffer) → (next_buffer judge buffer).wpos ≡ buffer.wpos
  unfolding next_buffer
  next-wpos buffer = by (search judge buffer.unread)
    where
      by : (s : Search R) → (buffer_after s buffer).wpos ≡ buffer.wpos
      by (found over n r after) = refl
      by (nothing over rest) = refl

  -- A buffer that calls can make stays one.
  pub next_fits : Steady judge → Bounded judge 110 → (buffer : Buffer) → Fits buffer → Fits (next_buffer judge buffer)
  unfolding next_buffer
  next_fits steady bounded buffer fits = by (search judge buffer.unread) refl (search-account judge steady buffer.unread)
    where
      by : (s : Search R) → search judge buffer.unread ≡ s → moved_over s + size_found s + length (rest_of s) ≡ length buffer.unread → Fits (buffer_after s buffer)
      by (found over n r after) e a =
          record { low = omega (arith, fits.low); high = fits.high; few = λ q. absurd (true≢false (sym q)) }
      by (nothing over rest) e a =
          let told : 110 ≤ length rest → ⊥ = (λ q. bounded.told rest q (nothing-waits judge steady buffer.unread over rest e)) in
          record { low = omega (arith, fits.low); high = fits.high; few = λ q. omega arith }

  -- The mark is set exactly where nothing is given.
  pub next-mark : (buffer : Buffer) (b : Bool) → next_given judge buffer ≡ b → (next_buffer judge buffer).drained ≡ not b
  unfolding next_given next_buffer
  next-mark buffer b = by (search judge buffer.unread)
    where
      by : (s : Search R) → is_found s ≡ b → (buffer_after s buffer).drained ≡ not b
      by (found over n r after) e = ap not e
      by (nothing over rest) e = ap not e

  -- No byte is cleared.
  pub next-cleared : (buffer : Buffer) → (next_buffer judge buffer).cleared ≡ buffer.cleared
  unfolding next_buffer
  next-cleared buffer = by (search judge buffer.unread)
    where
      by : (s : Search R) → (buffer_after s buffer).cleared ≡ buffer.cleared
      by (found over n r after) = refl
      by (nothing over rest) = refl
