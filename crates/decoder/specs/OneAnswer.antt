-- Each call of the decoder has one answer, up to bytes of its buffer that are never read again (docs/LOOSE.md).
use Rattle.std.specs.Prelude.{◌≡◌, List, ℕ}
use Rattle.refusals.specs.OneAnswer.{ToldApart}
use Rattle.buffer.specs.Buffer.{Buffer}
use Rattle.decoder.specs.declared.Decoder.{Decoder}
use Rattle.decoder.specs.declared.Fed.{Fed}
use Rattle.decoder.specs.declared.GatewayFed.{GatewayFed}
use Rattle.decoder.specs.declared.Next.{Next}
use Rattle.decoder.specs.State.{buffer_of, fields_buffer, Sound, BufferIs, FeedIs, taken_answer, GatewayFeedIs, NextIs}

-- two decoders that differ in unused bytes at most: in none from the read position to the write position
pub record UnusedApart (d e : Decoder) : Type 0 where
  pub rpos : d.rpos ≡ e.rpos
  pub wpos : d.wpos ≡ e.wpos
  pub unread : (fields_buffer d).unread ≡ (fields_buffer e).unread
  pub fed : d.fed ≡ e.fed
  pub handed : d.handed ≡ e.handed
  pub passed : d.passed ≡ e.passed
  pub cleared : d.cleared ≡ e.cleared
  pub drained : d.drained ≡ e.drained

pub record OneAnswer : Type 0 where
  -- `new`, and every call that hands back a decoder: a buffer is held by one decoder
  pub holds : (buffer : Buffer) (d e : Decoder) → BufferIs buffer d → BufferIs buffer e → UnusedApart d e
  pub feed : (self : Decoder) (piece : List ℕ) (a b : Fed) → FeedIs self piece a → FeedIs self piece b
      → (a.count ≡ b.count) × UnusedApart a.decoder b.decoder
  pub takes : ToldApart taken_answer
  pub gateway-feed : (self : Decoder) (piece : List ℕ) (a b : GatewayFed) → GatewayFeedIs self piece a → GatewayFeedIs self piece b
      → (a.answer ≡ b.answer) × UnusedApart a.decoder b.decoder
  pub next : (self : Decoder) (a b : Next) → NextIs self a → NextIs self b
      → (a.given ≡ b.given) × UnusedApart a.decoder b.decoder
  -- The unused bytes never matter: what a call hands back goes by the buffer, and that is the same
  pub unused : (d e : Decoder) → Sound d → Sound e → UnusedApart d e → buffer_of d ≡ buffer_of e
