-- The gateway feed of a decoder. Document 02, W12. What it does to a buffer is in buffer/specs/Gateway.antt; the demands are on the page of `vesc`.
use Rattle.std.specs.Prelude.{◌≡◌, true, List, ℕ, ◌-◌, ◌<◌, ◌≤◌, length}
use Rattle.refusals.specs.Refusals.{ok}
use Rattle.buffer.specs.Gateway.{NeverClears}
use Rattle.buffer.specs.Runs.{Totals}
use Rattle.decoder.specs.declared.Decoder.{Decoder}
use Rattle.decoder.specs.declared.Fed.{Fed}
use Rattle.decoder.specs.declared.GatewayFed.{GatewayFed}
use Rattle.decoder.specs.State.{buffer_of, FeedIs, taken_answer, GatewayFeedIs}
use Rattle.decoder.specs.OneAnswer.{UnusedApart}
use Rattle.decoder.specs.Runs.{Reached}

pub record GatewayLaws : Type 0 where
  -- "There at most 109 bytes are unread": whatever calls made the decoder, of either feed
  pub few : {totals : Totals} {d : Decoder} → Reached totals d → d.drained ≡ true → d.wpos - d.rpos ≤ 109
  -- "so after moving them there is always room. Show that clearing can never happen there"
  pub never-clears : (d : Decoder) (piece : List ℕ) → (buffer_of d).drained ≡ true → 0 < length piece → NeverClears (buffer_of d) piece
  -- For a nonempty piece and a drained decoder both feeds return the same count and the same state
  pub same : (d : Decoder) (piece : List ℕ) (g : GatewayFed) (f : Fed) → GatewayFeedIs d piece g → FeedIs d piece f
      → (buffer_of d).drained ≡ true → 0 < length piece
      → (taken_answer g.answer ≡ ok f.count) × UnusedApart g.decoder f.decoder
