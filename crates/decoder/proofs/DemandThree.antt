-- Demand 3 and the line figures, of every run of the decoder. The words are in `vesc/specs/Demands.antt`; crate `buffer` shows the same over any
-- decoder that loses nothing. Here it is said of whole `CommandReply` values, with the 107 bytes of document 02's W13.
use mathlib.Core.Path.{◌≡◌, refl, sym, ap, ◌∙◌}
use mathlib.Core.List.{List, [], ◌∷◌, ◌++◌, append-nil}
use mathlib.Core.Bool.{Bool, true}
use mathlib.Core.Logic.{inl, inr}
use Prim.Native.Nat.{ℕ, ◌+◌, ◌<◌, min}
use native.Mathlib.Omega.{arith}
use lib.ListN.{length}
use Rattle.stream.specs.Reading.{read_all, replies_of, joined}
use Rattle.stream.specs.Lateness.{InTime}
use Rattle.buffer.specs.Buffer.{top}
use Rattle.refusals.specs.Refusals.{ok}
use Rattle.buffer.specs.Runs as runs
use Rattle.buffer.specs.Runs.{EachPiece, Nonempty, Totals}
use Rattle.buffer.proofs.AnyOrder as any_order
use Rattle.buffer.proofs.Gateway.{never-clears}
use Rattle.buffer.proofs.Runs as any-decoder
use Rattle.buffer.proofs.Balance as any-calls
use Rattle.buffer.proofs.Use as any-use
use Rattle.reply.specs.declared.CommandReply.{CommandReply}
use Rattle.decoder.specs.declared.Decoder.{Decoder}
use Rattle.decoder.specs.declared.Fed.{Fed}
use Rattle.decoder.specs.declared.GatewayFed.{GatewayFed}
use Rattle.decoder.specs.declared.Figures.{Figures}
use Rattle.decoder.specs.Judge.{decode_judge}
use Rattle.decoder.specs.State.{buffer_of, held_of, figures_of, FeedIs, taken_answer, GatewayFeedIs}
use Rattle.decoder.specs.Runs.{calls, Run, PlainRun, Ends, InUse, gateway_calls, GatewayRun, PlainGatewayRun, GatewayEnds, GatewayReached, Reached, figures_by}
use Rattle.decoder.specs.Gateway.{GatewayLaws}
use Rattle.decoder.specs.Lateness.{lateness}
use Rattle.decoder.proofs.Judging.{decode-steady}
use Rattle.decoder.proofs.Lateness.{decode-told-before}
use Rattle.decoder.proofs.Runs.{unread, Waits, faithful, able, telling, fits, figures-told, reached-either, reached-sound}
use Rattle.decoder.proofs.GatewayRuns.{marked, Drained, gateway-faithful, gateway-keeping, gateway-able, any-mark, reached-cleared}
use Rattle.decoder.proofs.States.{marked-buffer}
use Rattle.decoder.proofs.Unique.{holds-unique}

module _ {pieces ahead : List (List ℕ)} {taken : List ℕ} {replies : List CommandReply} {d : Decoder} (run : Run pieces ahead taken replies d) where
  pub run-replies : replies ≡ replies_of (read_all decode_judge taken).frames
  run-replies = any-decoder.run-replies decode_judge decode-steady calls unread Waits faithful run

  pub run-unread : (buffer_of d).unread ≡ (read_all decode_judge taken).rest
  run-unread = any-decoder.run-unread decode_judge decode-steady calls unread Waits faithful run

  pub in-time : InTime decode_judge lateness (joined pieces) taken replies
  in-time = any-decoder.in-time decode_judge decode-steady calls unread Waits faithful run lateness decode-told-before

  pub takes-some : (piece : List ℕ) (fed : Fed) → 0 < length piece → FeedIs d piece fed → 0 < fed.count
  takes-some piece fed some is = any-decoder.takes-some decode_judge decode-steady calls unread Waits faithful run piece some is

  pub ends : Nonempty ahead → Ends ahead d
  ends some = any-decoder.ready-ends decode_judge decode-steady calls unread Waits faithful able (any-decoder.run-ready decode_judge decode-steady calls unread Waits faithful run)

-- "for every stream and every such cutting the replies are those of one left-to-right reading of the uncut stream"
pub whole-reading : {pieces : List (List ℕ)} {taken : List ℕ} {replies : List CommandReply} {d : Decoder} → Run pieces [] taken replies d
    → replies ≡ replies_of (read_all decode_judge (joined pieces)).frames
whole-reading {taken = taken} run = run-replies run ∙ ap (λ (l : List ℕ). replies_of (read_all decode_judge l).frames) (sym (any-decoder.run-front run ∙ append-nil taken))

pub runs-whole : (pieces : List (List ℕ)) → Nonempty pieces → (replies : List CommandReply) × (d : Decoder) × PlainRun pieces [] (joined pieces) replies d
runs-whole = any-decoder.runs-whole decode_judge decode-steady calls unread Waits faithful able

-- ---- the line figures

module _ {totals : Totals} {d : Decoder} (reached : Reached totals d) where
  told : any-calls.Tells totals (buffer_of d)
  told = any-calls.reached-tells _ buffer_of (telling _) reached

  pub account : totals.bytes_copied ≡ totals.bytes_given + totals.bytes_moved_over + totals.bytes_cleared + held_of (buffer_of d)
  account = told.account

  pub alone : (figures : Figures) → figures ≡ figures_of (buffer_of d) → figures ≡ figures_by totals (held_of (buffer_of d))
  alone figures is = is ∙ figures-told totals (buffer_of d) told

  pub balance : (figures : Figures) → figures ≡ figures_of (buffer_of d) → figures.fed < top
      → figures.fed ≡ figures.handed + figures.passed + figures.cleared + figures.held
  balance figures is = rw is (any-calls.balance (buffer_of d) told)

-- In demand 3's use nothing is cleared.
module _ {asked : Bool} {d : Decoder} (used : InUse asked d) where
  pub in_use : (totals : Totals) × Reached totals d
  in_use = let n = any-use.none-cleared decode_judge calls unread Waits faithful used in (n.totals, reached-either (λ s t piece k. inl) n.reached)

  pub none-cleared : (figures : Figures) → figures ≡ figures_of (buffer_of d) → figures.cleared ≡ 0
  none-cleared figures is =
      let n = any-use.none-cleared decode_judge calls unread Waits faithful used in
      ap (λ (f : Figures). f.cleared) is ∙ (told (reached-either (λ s t piece k. inl) n.reached)).cleared ∙ ap (λ (k : ℕ). min k top) n.none

-- ---- demand 3 on the gateway's path

pub gateway-so-far : {pieces ahead : List (List ℕ)} {taken : List ℕ} {replies : List CommandReply} {d : Decoder} → GatewayRun pieces ahead taken replies d
    → replies ++ replies_of (read_all decode_judge (buffer_of d).unread).frames ≡ replies_of (read_all decode_judge taken).frames
gateway-so-far = any_order.any-so-far decode_judge decode-steady gateway_calls unread marked gateway-keeping

module _ {pieces ahead : List (List ℕ)} {taken : List ℕ} {replies : List CommandReply} {d : Decoder} (run : GatewayRun pieces ahead taken replies d) (drained : d.drained ≡ true) where
  mark : marked d ≡ true
  mark = sym (any-mark run) ∙ drained

  pub gateway-replies : replies ≡ replies_of (read_all decode_judge taken).frames
  gateway-replies = any_order.any-replies decode_judge decode-steady gateway_calls unread marked gateway-keeping run mark

  pub gateway-unread : (buffer_of d).unread ≡ (read_all decode_judge taken).rest
  gateway-unread = any_order.any-unread decode_judge decode-steady gateway_calls unread marked gateway-keeping run mark

  pub gateway-in-time : InTime decode_judge lateness (joined pieces) taken replies
  gateway-in-time = any_order.any-in-time decode_judge decode-steady gateway_calls unread marked gateway-keeping run mark lateness decode-told-before

  pub gateway-ends : GatewayEnds ahead d
  gateway-ends = any-decoder.ready-ends decode_judge decode-steady gateway_calls unread Drained gateway-faithful gateway-able mark

pub gateway-whole : {pieces : List (List ℕ)} {taken : List ℕ} {replies : List CommandReply} {d : Decoder} → GatewayRun pieces [] taken replies d → d.drained ≡ true
    → replies ≡ replies_of (read_all decode_judge (joined pieces)).frames
gateway-whole {taken = taken} run drained =
    gateway-replies run drained ∙ ap (λ (l : List ℕ). replies_of (read_all decode_judge l).frames) (sym (any_order.any-front run ∙ append-nil taken))

-- A run as demand 3 describes it, empty pieces and all, is among these, and ends drained.
pub gateway-in-turn : {Free : Type 0} {pieces ahead : List (List ℕ)} {taken : List ℕ} {replies : List CommandReply} {d : Decoder}
    → runs.Run gateway_calls Free pieces ahead taken replies d → runs.AnyOrder gateway_calls Free pieces ahead taken replies d × (d.drained ≡ true)
gateway-in-turn run =
    let order = any_order.run-any run in
    (order, any-mark order ∙ any-decoder.run-ready decode_judge decode-steady gateway_calls unread Drained gateway-faithful run)

any-pieces : (pieces : List (List ℕ)) → EachPiece (λ piece. Unit) pieces
any-pieces [] = tt
any-pieces (piece ∷ pieces) = (tt, any-pieces pieces)

pub gateway-runs-whole : (pieces : List (List ℕ)) → (replies : List CommandReply) × (d : Decoder) × runs.Run gateway_calls ⊥ pieces [] (joined pieces) replies d
gateway-runs-whole pieces = any-decoder.runs-whole decode_judge decode-steady gateway_calls unread Drained gateway-faithful gateway-able pieces (any-pieces pieces)

pub gateway-exists : (pieces : List (List ℕ))
    → (replies : List CommandReply) × (d : Decoder) × PlainGatewayRun pieces [] (joined pieces) replies d × (d.drained ≡ true)
gateway-exists pieces =
    let whole = gateway-runs-whole pieces in
    let order = gateway-in-turn whole.2 in
    (whole.0, whole.1, order.0, order.1)

pub gateway-asking-ends : (d : Decoder) → runs.AskingEnds gateway_calls d
gateway-asking-ends = any-decoder.asking-ends decode_judge decode-steady gateway_calls unread gateway-faithful.next gateway-able.next

module _ {totals : Totals} {d : Decoder} (reached : GatewayReached totals d) where
  pub gateway-either : Reached totals d
  gateway-either = reached-either (λ s t piece k. inr) reached

  pub gateway-none-cleared : (figures : Figures) → figures ≡ figures_of (buffer_of d) → figures.cleared ≡ 0
  gateway-none-cleared figures is = ap (λ (f : Figures). f.cleared) is ∙ reached-cleared reached

  pub gateway-balance : (figures : Figures) → figures ≡ figures_of (buffer_of d) → figures.fed < top → figures.fed ≡ figures.handed + figures.passed + figures.held
  gateway-balance figures is below = omega (arith, balance gateway-either figures is below, gateway-none-cleared figures is)

-- A drained decoder takes a byte or more.
pub gateway-takes-some : {totals : Totals} {d : Decoder} → Reached totals d → d.drained ≡ true → (piece : List ℕ) (r : GatewayFed) → 0 < length piece → GatewayFeedIs d piece r
    → (n : ℕ) × (taken_answer r.answer ≡ ok n) × (0 < n)
gateway-takes-some {d = d} reached drained piece r some is =
    let m = sym (marked-buffer d _ (record { is = refl; sound = reached-sound reached })) ∙ drained in
    let never = never-clears (buffer_of d) piece m ((fits d).few m) some in
    (_, is.answer ∙ never.same_count, never.takes-some)

-- ---- the gateway feed itself

pub gateway-laws : GatewayLaws
gateway-laws =
    record {
      few = λ reached drained. (reached-sound reached).few drained;
      never-clears = λ d piece m some. never-clears (buffer_of d) piece m ((fits d).few m) some;
      same = λ d piece g f gateway rust m some.
          let never = never-clears (buffer_of d) piece m ((fits d).few m) some in (
            gateway.answer ∙ never.same_count ∙ ap ok (sym rust.count),
            holds-unique _ g.decoder f.decoder (record { is = gateway.after.is ∙ never.same-buffer; sound = gateway.after.sound }) rust.after,
          );
    }
