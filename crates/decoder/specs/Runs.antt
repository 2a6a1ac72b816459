-- Runs of the decoder: each call may return whatever its contract allows. Crate `buffer` defines a run.
use Rattle.std.specs.Prelude.{Bool, List, ◌≡◌, ◌⊎◌, ℕ, ◌<◌, min, length, Some, None, Result}
use Rattle.refusals.specs.Answers.{place_or}
use Rattle.buffer.specs.Buffer.{fresh, top}
use Rattle.buffer.specs.Runs as runs
use Rattle.refusals.specs.declared.FeedError.{FeedError}
use Rattle.reply.specs.declared.CommandReply.{CommandReply}
use Rattle.decoder.specs.declared.Decoder.{Decoder}
use Rattle.decoder.specs.declared.Figures.{Figures}
use Rattle.decoder.specs.State.{buffer_of, BufferIs, FeedIs, taken_answer, GatewayFeedIs, NextIs}

-- with any feed: the pieces that may be offered, and what of one is taken
abbrev pub calls_by : (List ℕ → Type 0) → (Decoder → List ℕ → ℕ → Decoder → Type 0) → runs.Calls CommandReply
calls_by Piece Feeds =
    record {
      State = Decoder;
      Fresh = λ d. BufferIs fresh d;
      Piece = Piece;
      Feeds = Feeds;
      Gives = λ d count reply e. NextIs d (record { given = Some (count, reply); decoder = e });
      GivesNothing = λ d e. NextIs d (record { given = None; decoder = e });
    }

abbrev pub FeedTakes : Decoder → List ℕ → ℕ → Decoder → Type 0
FeedTakes d piece n e = FeedIs d piece (record { count = n; decoder = e })

-- "Hand it nonempty pieces"
abbrev pub calls : runs.Calls CommandReply
calls = calls_by (λ piece. 0 < length piece) FeedTakes

-- "Start the streaming decoder fresh. Hand it nonempty pieces, after each ask until it has no reply, and offer again
-- what it did not take.": the run of a cutting, at its start or after some `next` that gave nothing, with the pieces still
-- ahead, the bytes taken so far, the replies so far, and the decoder then. The caller may also ask again, and cut anew what
-- is ahead
abbrev pub Run : (pieces ahead : List (List ℕ)) (taken : List ℕ) (replies : List CommandReply) → Decoder → Type 0
Run = runs.Run calls Unit

-- the same, and the caller does not: it offers each piece, again what was not taken of it, and asks after each
abbrev pub PlainRun : (pieces ahead : List (List ℕ)) (taken : List ℕ) (replies : List CommandReply) → Decoder → Type 0
PlainRun = runs.Run calls ⊥

-- offering these pieces to the decoder, and asking, comes to an end, whatever the calls return
abbrev pub Ends : (ahead : List (List ℕ)) → Decoder → Type 0
Ends = runs.Ends calls

-- A decoder of a run, also between a `feed` and the `next` that gives nothing. `asked` is true where the last call was such a
-- `next`, or there was none yet
abbrev pub InUse : (asked : Bool) → Decoder → Type 0
InUse = runs.InUse calls

-- the gateway feed, and the bytes that it took: "A count beside a refusal is 0"
abbrev pub GatewayTakes : Decoder → List ℕ → ℕ → Decoder → Type 0
GatewayTakes d piece n e = (answer : Result ℕ FeedError) × (place_or 0 (taken_answer answer) ≡ n) × GatewayFeedIs d piece (record { answer = answer; decoder = e })

-- any piece may be offered, an empty one too
abbrev pub gateway_calls : runs.Calls CommandReply
gateway_calls = calls_by (λ piece. Unit) GatewayTakes

-- Any calls of `gateway_feed` and `next`, in any order, from a fresh decoder on: a piece may be offered before `next` gave nothing, and is then refused and
-- stays ahead; the caller may cut anew what is ahead, and so put an empty piece anywhere
abbrev pub GatewayRun : (pieces ahead : List (List ℕ)) (taken : List ℕ) (replies : List CommandReply) → Decoder → Type 0
GatewayRun = runs.AnyOrder gateway_calls Unit

-- the same, and the caller cuts nothing anew
abbrev pub PlainGatewayRun : (pieces ahead : List (List ℕ)) (taken : List ℕ) (replies : List CommandReply) → Decoder → Type 0
PlainGatewayRun = runs.AnyOrder gateway_calls ⊥

-- demand 3's use on the gateway's path: each piece is offered, an empty one too, the decoder asked until it gives nothing, and what was not taken offered again
abbrev pub InTurn : (pieces ahead : List (List ℕ)) (taken : List ℕ) (replies : List CommandReply) → Decoder → Type 0
InTurn = runs.Run gateway_calls Unit

-- offering these pieces to the gateway feed, and asking until nothing comes, comes to an end, whatever the calls return
abbrev pub GatewayEnds : (ahead : List (List ℕ)) → Decoder → Type 0
GatewayEnds = runs.Ends gateway_calls

-- a decoder that any calls of `gateway_feed` and `next` make of a fresh one, and what these calls did in all
abbrev pub GatewayReached : runs.Totals → Decoder → Type 0
GatewayReached = runs.Reached gateway_calls (λ d. (buffer_of d).unread)

-- either feed
abbrev pub EitherTakes : Decoder → List ℕ → ℕ → Decoder → Type 0
EitherTakes d piece n e = FeedTakes d piece n e ⊎ GatewayTakes d piece n e

-- a decoder that any calls make of a fresh one, of either feed, empty pieces fed too, and what these calls did in all
abbrev pub Reached : runs.Totals → Decoder → Type 0
Reached = runs.Reached (calls_by (λ piece. Unit) EitherTakes) (λ d. (buffer_of d).unread)

-- the figures, by what the calls did in all: each is "64-bit, holding at the top value"
abbrev pub figures_by : runs.Totals → (held : ℕ) → Figures
figures_by totals held =
    record {
      fed = min totals.bytes_copied top;
      handed = min totals.bytes_given top;
      passed = min totals.bytes_moved_over top;
      cleared = min totals.bytes_cleared top;
      held = held;
    }
