-- The gateway feed beside the Rust's `feed`. Document 02, W12: "There at most 109 bytes are unread, so after moving them there is always room. Show that
-- clearing can never happen there, then remove it from that path".
use Rattle.std.specs.Prelude.{◌≡◌, true, false, not, List, [], ◌++◌, ◌↔◌, ℕ, ◌<◌, ◌≤◌, length, take}
use Rattle.refusals.specs.Refusals.{ok, refused, not_drained}
use Rattle.format.specs.Format.{capacity, drained_most}
use Rattle.stream.specs.Reading.{Judge}
use Rattle.buffer.specs.Buffer.{Buffer, fresh, moved, emptied, feed_count, fed_buffer, gateway_answer, gateway_count, gateway_buffer, next_given, next_buffer}

-- a nonempty piece and a drained buffer
pub record NeverClears (buffer : Buffer) (piece : List ℕ) : Type 0 where
  -- "after moving them there is always room"
  pub room : (moved (length piece) buffer).wpos < capacity
  -- so the step of `feed` that clears does nothing
  pub not-emptied : emptied (moved (length piece) buffer) ≡ moved (length piece) buffer
  -- and both feeds do the same: the count, which is 1 or more, and the buffer after it
  pub same_count : gateway_answer buffer piece ≡ ok (feed_count buffer piece)
  pub takes-some : 0 < feed_count buffer piece
  pub same-buffer : gateway_buffer buffer piece ≡ fed_buffer buffer piece

pub record GatewayFeed : Type 0 where
  pub drained : (buffer : Buffer) (piece : List ℕ) → buffer.drained ≡ true → length buffer.unread ≤ drained_most → 0 < length piece
      → NeverClears buffer piece
  -- "An empty piece returns 0 and changes nothing", in any state
  pub empty : (buffer : Buffer) → (gateway_answer buffer [] ≡ ok 0) × (gateway_buffer buffer [] ≡ buffer)
  -- "15 NotDrained, exactly for a nonempty piece in any other state, nothing changed"
  pub not-drained : (buffer : Buffer) (piece : List ℕ) → (gateway_answer buffer piece ≡ refused not_drained) ↔ ((0 < length piece) × (buffer.drained ≡ false))
  pub nothing-changed : (buffer : Buffer) (piece : List ℕ) → gateway_answer buffer piece ≡ refused not_drained → gateway_buffer buffer piece ≡ buffer
  -- In every case what was unread still is, with what was taken behind it, and nothing is cleared
  pub keeps : (buffer : Buffer) (piece : List ℕ) → (gateway_buffer buffer piece).unread ≡ buffer.unread ++ take (gateway_count buffer piece) piece
  pub none-cleared : (buffer : Buffer) (piece : List ℕ) → (gateway_buffer buffer piece).cleared ≡ buffer.cleared

-- The mark: "a decoder that is fresh or whose last `next` after the latest nonempty feed gave nothing"
pub record Mark : Type 1 where
  pub fresh : fresh.drained ≡ true
  pub next : {R : Type 0} (judge : Judge R) (buffer : Buffer) → (next_buffer judge buffer).drained ≡ not (next_given judge buffer)
  -- a nonempty piece takes it away, by either feed
  pub feed : (buffer : Buffer) (piece : List ℕ) → 0 < length piece → (fed_buffer buffer piece).drained ≡ false
  pub gateway-feed : (buffer : Buffer) (piece : List ℕ) → 0 < length piece → (gateway_buffer buffer piece).drained ≡ false
  -- An empty piece leaves it as it is, also where `feed` clears. So what `feed` emptied, and is not marked, takes no piece until `next` is asked
  pub empty : (buffer : Buffer) → (fed_buffer buffer []).drained ≡ buffer.drained
  pub emptied-refused : (buffer : Buffer) (piece : List ℕ) → buffer.drained ≡ false → 0 < length piece
      → gateway_answer (fed_buffer buffer []) piece ≡ refused not_drained
