-- What a decoder holds, and what one `feed`, one gateway feed and one `next` do to it. Document 01, "The stream"; document 02, W3 and W12. Over any
-- judge of bytes; the document's decoder has 512 bytes.
use Rattle.std.specs.Prelude.{Bool, true, false, cond, List, [], ◌++◌, ℕ, ◌+◌, ◌-◌, min, ltb, eqb, length, take}
use Rattle.refusals.specs.Refusals.{Answer, ok, refused, not_drained}
use Rattle.refusals.specs.Answers.{place_or}
use Rattle.format.specs.Format.{capacity}
use Rattle.stream.specs.Reading.{Judge}
use Rattle.stream.specs.Searching.{Search, found, nothing, size_found, search}

-- the unread bytes, the place where the next byte is written, the line figures, and W12's mark; held is the length of `unread`
pub record Buffer : Type 0 where
  pub unread : List ℕ
  pub wpos : ℕ
  pub fed : ℕ
  pub handed : ℕ
  pub passed : ℕ
  pub cleared : ℕ
  pub drained : Bool

-- "a fresh one". W12: "a mark, drained, set in a fresh one"
abbrev pub fresh : Buffer
fresh = record { unread = []; wpos = 0; fed = 0; handed = 0; passed = 0; cleared = 0; drained = true }

-- "64-bit, holding at the top value"
abbrev pub top : ℕ
top = 18446744073709551615

-- a figure, n higher
unfoldable pub raised : ℕ → ℕ → ℕ
raised figure n = min (figure + n) top

-- 1. `feed`

-- "unread bytes move to the front"
abbrev pub at_front : Buffer → Buffer
at_front buffer =
    record {
      unread = buffer.unread;
      wpos = length buffer.unread;
      fed = buffer.fed;
      handed = buffer.handed;
      passed = buffer.passed;
      cleared = buffer.cleared;
      drained = buffer.drained;
    }

-- "if the piece is longer than the free tail": n is the length of the piece
unfoldable pub moved : ℕ → Buffer → Buffer
moved n buffer = cond (ltb (capacity - buffer.wpos) n) (at_front buffer) buffer

-- "everything unread is cleared". Document 02, W3: "Give cleared its own figure": the unread bytes at each clearing. The mark stays: only `next` sets it
abbrev pub all_cleared : Buffer → Buffer
all_cleared buffer =
    record {
      unread = [];
      wpos = 0;
      fed = buffer.fed;
      handed = buffer.handed;
      passed = buffer.passed;
      cleared = raised buffer.cleared (length buffer.unread);
      drained = buffer.drained;
    }

-- "If the buffer is then filled to its end"
unfoldable pub emptied : Buffer → Buffer
emptied buffer = cond (eqb buffer.wpos capacity) (all_cleared buffer) buffer

-- "as much as fits"
unfoldable pub fitting : ℕ → Buffer → ℕ
fitting n buffer = min (capacity - buffer.wpos) n

-- the mark after a piece of n bytes, fed by either feed: a nonempty piece takes it away, an empty one leaves it as it is
abbrev pub mark_fed : ℕ → Bool → Bool
mark_fed n mark = cond (eqb n 0) mark false

-- "is copied": n bytes of the piece; fed: "bytes copied"
unfoldable pub copied : List ℕ → ℕ → Buffer → Buffer
copied piece n buffer =
    record {
      unread = buffer.unread ++ take n piece;
      wpos = buffer.wpos + n;
      fed = raised buffer.fed n;
      handed = buffer.handed;
      passed = buffer.passed;
      cleared = buffer.cleared;
      drained = mark_fed (length piece) buffer.drained;
    }

-- "and that count returned"
unfoldable pub feed_count : Buffer → List ℕ → ℕ
feed_count buffer piece = fitting (length piece) (emptied (moved (length piece) buffer))

unfoldable pub fed_buffer : Buffer → List ℕ → Buffer
fed_buffer buffer piece = copied piece (feed_count buffer piece) (emptied (moved (length piece) buffer))

-- 2. The gateway feed. Document 02, W12: "Add a gateway feed for a decoder that is fresh or whose last `next` after the latest nonempty feed gave
-- nothing. The state carries this as a mark, drained". It moves and copies as `feed` does, and clears nothing

-- "An empty piece returns 0"; "15 NotDrained, exactly for a nonempty piece in any other state"
unfoldable pub gateway_answer : Buffer → List ℕ → Answer ℕ
gateway_answer buffer piece =
    cond (eqb (length piece) 0) (ok 0) (cond buffer.drained (ok (fitting (length piece) (moved (length piece) buffer))) (refused not_drained))

-- the bytes taken. Document 01: "A count beside a refusal is 0"
abbrev pub gateway_count : Buffer → List ℕ → ℕ
gateway_count buffer piece = place_or 0 (gateway_answer buffer piece)

-- an empty piece "changes nothing"; on a refusal "nothing changed"
unfoldable pub gateway_buffer : Buffer → List ℕ → Buffer
gateway_buffer buffer piece =
    cond (eqb (length piece) 0) buffer
    (cond buffer.drained (copied piece (fitting (length piece) (moved (length piece) buffer)) (moved (length piece) buffer)) buffer)

-- 3. `next`: one search of the unread bytes

module _ {R : Type 0} where
  abbrev pub is_found : Search R → Bool
  is_found (found over n r after) = true
  is_found (nothing over rest) = false

  -- "all of them on a refusal or when there is no reply, hold zeros": where nothing is found, the empty reply
  abbrev pub reply_found : R → Search R → R
  reply_found empty (found over n r after) = r
  reply_found empty (nothing over rest) = empty

  -- handed: "bytes of frames given"; passed: "one per byte moved over", and W3: "only bytes moved over by the reading". The mark is set where nothing
  -- is given, and taken away where a reply is
  abbrev pub buffer_after : Search R → Buffer → Buffer
  buffer_after (found over n r after) buffer =
      record {
        unread = after;
        wpos = buffer.wpos;
        fed = buffer.fed;
        handed = raised buffer.handed n;
        passed = raised buffer.passed over;
        cleared = buffer.cleared;
        drained = false;
      }
  buffer_after (nothing over rest) buffer =
      record {
        unread = rest;
        wpos = buffer.wpos;
        fed = buffer.fed;
        handed = buffer.handed;
        passed = raised buffer.passed over;
        cleared = buffer.cleared;
        drained = true;
      }

  module _ (judge : Judge R) where
    unfoldable pub next_given : Buffer → Bool
    next_given buffer = is_found (search judge buffer.unread)

    -- the bytes of the frame given; "A count beside a refusal is 0"
    unfoldable pub next_count : Buffer → ℕ
    next_count buffer = size_found (search judge buffer.unread)

    unfoldable pub next_reply : R → Buffer → R
    next_reply empty buffer = reply_found empty (search judge buffer.unread)

    unfoldable pub next_buffer : Buffer → Buffer
    next_buffer buffer = buffer_after (search judge buffer.unread) buffer
