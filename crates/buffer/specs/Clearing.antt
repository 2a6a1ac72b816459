-- When `feed` clears, and what the figure cleared then counts. Document 01, "The stream": "So it clears (i) when 512 bytes lie unread, and (ii) on an
-- empty piece when the tail is full, even if most bytes were read."
use Rattle.std.specs.Prelude.{◌≡◌, List, [], ◌++◌, ℕ, ◌<◌, length, take}
use Rattle.format.specs.Format.{capacity}
use Rattle.buffer.specs.Buffer.{Buffer, raised, feed_count, fed_buffer}

-- `feed` of the piece cleared what was unread: only what it copied is unread then
pub record Clears (buffer : Buffer) (piece : List ℕ) : Type 0 where
  pub unread : (fed_buffer buffer piece).unread ≡ take (feed_count buffer piece) piece
  pub cleared : (fed_buffer buffer piece).cleared ≡ raised buffer.cleared (length buffer.unread)

-- it cleared nothing
pub record Keeps (buffer : Buffer) (piece : List ℕ) : Type 0 where
  pub unread : (fed_buffer buffer piece).unread ≡ buffer.unread ++ take (feed_count buffer piece) piece
  pub cleared : (fed_buffer buffer piece).cleared ≡ buffer.cleared

pub record Clearing : Type 0 where
  -- (i)
  pub full : (buffer : Buffer) (piece : List ℕ) → length buffer.unread ≡ capacity → buffer.wpos ≡ capacity → Clears buffer piece
  -- (ii)
  pub empty : (buffer : Buffer) → buffer.wpos ≡ capacity → Clears buffer []
  -- and nothing otherwise
  pub not_full : (buffer : Buffer) (piece : List ℕ) → length buffer.unread < capacity → 0 < length piece → Keeps buffer piece
  pub tail-free : (buffer : Buffer) → buffer.wpos < capacity → Keeps buffer []
