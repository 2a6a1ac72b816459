-- 106 bytes are too few: the stream on which demand 3 with 106 would be false.
use mathlib.Core.Path.{◌≡◌, refl, ap, ◌∙◌, subst}
use mathlib.Core.Bool.{true}
use mathlib.Core.List.{List, [], ◌∷◌, ◌++◌}
use Prim.Native.Nat.{ℕ}
use native.Mathlib.Omega.{arith}
use lib.ListN.{drop}
use Rattle.refusals.specs.Refusals.{refused, incomplete_data, invalid_frame}
use Rattle.packer.specs.Numbers.{be_at, total}
use Rattle.packer.specs.Unpacking.{read_at, consume_at}
use Rattle.names.specs.Names.{nul_within}
use Rattle.frame.specs.Opening.{byte_at, finish_of}
use Rattle.layout.specs.Layout.{extent_of, extent}
use Rattle.layout.specs.Replies.{layout_in, fields_end}
use Rattle.judge.specs.Judge.{judge_of}
use Rattle.stream.specs.Reading.{Reading, FrameAt, stops, frame_then, read_turns, read_from, read_all, replies_of, joined}
use Rattle.stream.specs.Lateness.{NoneOver, InTime}
use Rattle.stream.proofs.Frames.{not-among-none}
use Rattle.stream.proofs.Joined.{good-stands}
use Rattle.stream.proofs.Turns.{idle, at-good-frame, at-noise}
use Rattle.buffer.proofs.Runs.{run-plain, run_more}
use Rattle.buffer.proofs.AnyOrder.{any-plain}
use Rattle.reply.specs.declared.CommandReply.{CommandReply}
use Rattle.reply.specs.Decode.{decode_of}
use Rattle.decoder.specs.declared.Decoder.{Decoder}
use Rattle.decoder.specs.Judge.{decode_judge}
use Rattle.decoder.specs.Runs.{Run, PlainRun, GatewayRun, PlainGatewayRun}
use Rattle.decoder.specs.Lateness.{late_frame, too_few, late_pieces, late_reply, NoSooner}
use Rattle.decoder.proofs.Judging.{decode-steady, decode-waits, decode-moves, decode-noise, reset-stats}
use Rattle.decoder.proofs.DemandThree.{run-replies, whole-reading, runs-whole, gateway-replies, gateway-whole, gateway-runs-whole, gateway-in-turn}

-- ---- the reading

false-start-waits : judge_of too_few ≡ refused incomplete_data
unfolding judge_of byte_at fields_end layout_in extent extent_of consume_at nul_within finish_of read_at be_at total
false-start-waits = refl

-- the 110th byte is no end byte
false-start-fails : judge_of (joined late_pieces) ≡ refused invalid_frame
unfolding judge_of byte_at fields_end layout_in extent extent_of consume_at nul_within finish_of read_at be_at total
false-start-fails = refl

stops-there : read_all decode_judge too_few ≡ stops too_few
stops-there = idle decode_judge decode-steady 0 too_few (decode-waits too_few false-start-waits)

-- what follows the frame is noise
abbrev behind : List ℕ
behind = drop 9 (joined late_pieces)

noise-behind : read_from decode_judge 9 behind ≡ stops []
unfolding read_from read_turns decode_judge decode_of judge_of byte_at
noise-behind = refl

abbrev frame : FrameAt CommandReply
frame = record { place = 3; size = 6; reply = late_reply }

goes_on : read_all decode_judge (joined late_pieces) ≡ frame_then frame (stops [])
goes_on =
    at-noise decode_judge decode-steady 0 (joined late_pieces) (decode-moves _ invalid_frame false-start-fails (λ e. omega arith))
    ∙ at-noise decode_judge decode-steady 1 (105 ∷ 0 ∷ late_frame ++ behind) (decode-noise _ (omega arith) (λ e. omega arith))
    ∙ at-noise decode_judge decode-steady 2 (0 ∷ late_frame ++ behind) (decode-noise _ (omega arith) (λ e. omega arith))
    ∙ at-good-frame decode_judge decode-steady 3 (late_frame ++ behind) 6 _ (good-stands decode_judge decode-steady late_frame behind 6 _ reset-stats)
    ∙ ap (frame_then frame) noise-behind

-- ---- the runs

none_yet : {replies : List CommandReply} → replies ≡ replies_of (read_all decode_judge too_few).frames → replies ≡ []
none_yet same = same ∙ ap (λ (o : Reading CommandReply). replies_of o.frames) stops-there

one-given : {replies : List CommandReply} → replies ≡ replies_of (read_all decode_judge (joined late_pieces)).frames → replies ≡ late_reply ∷ []
one-given same = same ∙ ap (λ (o : Reading CommandReply). replies_of o.frames) goes_on

nothing_yet : (d : Decoder) × PlainRun late_pieces ((0 ∷ []) ∷ []) too_few [] d
nothing_yet =
    let first = runs-whole (too_few ∷ []) (omega arith, tt) in (
      first.1,
      subst (λ (l : List CommandReply). PlainRun late_pieces ((0 ∷ []) ∷ []) too_few l first.1) (none_yet (run-replies (run-plain first.2)))
          (run_more ((0 ∷ []) ∷ []) first.2),
    )

then-given : (d : Decoder) × PlainRun late_pieces [] (joined late_pieces) (late_reply ∷ []) d
then-given =
    let all = runs-whole late_pieces (omega arith, (omega arith, tt)) in
    (all.1, subst (λ (l : List CommandReply). PlainRun late_pieces [] (joined late_pieces) l all.1) (one-given (whole-reading (run-plain all.2))) all.2)

gateway-nothing-yet : (d : Decoder) × PlainGatewayRun late_pieces ((0 ∷ []) ∷ []) too_few [] d × (d.drained ≡ true)
gateway-nothing-yet =
    let first = gateway-runs-whole (too_few ∷ []) in
    let order = gateway-in-turn (run_more ((0 ∷ []) ∷ []) first.2) in (
      first.1,
      subst (λ (l : List CommandReply). PlainGatewayRun late_pieces ((0 ∷ []) ∷ []) too_few l first.1) (none_yet (gateway-replies (any-plain order.0) order.1)) order.0,
      order.1,
    )

gateway-then-given : (d : Decoder) × PlainGatewayRun late_pieces [] (joined late_pieces) (late_reply ∷ []) d × (d.drained ≡ true)
gateway-then-given =
    let all = gateway-runs-whole late_pieces in
    let order = gateway-in-turn all.2 in (
      all.1,
      subst (λ (l : List CommandReply). PlainGatewayRun late_pieces [] (joined late_pieces) l all.1) (one-given (gateway-whole (any-plain order.0) order.1)) order.0,
      order.1,
    )

-- ---- so the lateness clause is false with 106

clear : NoneOver 3 (read_all decode_judge (joined late_pieces)).frames
clear = rw goes_on ((λ before. absurd (omega arith)), tt)

too-soon : InTime decode_judge 106 (joined late_pieces) too_few [] → ⊥
too-soon sooner = not-among-none (sooner 3 6 late_reply reset-stats clear (omega arith) (omega arith)) refl

pub not-in-106 : ((pieces ahead : List (List ℕ)) (taken : List ℕ) (replies : List CommandReply) (d : Decoder)
    → Run pieces ahead taken replies d → InTime decode_judge 106 (joined pieces) taken replies) → ⊥
not-in-106 sooner = too-soon (sooner late_pieces ((0 ∷ []) ∷ []) too_few [] nothing_yet.0 (run-plain nothing_yet.1))

pub gateway-not-in-106 : ((pieces ahead : List (List ℕ)) (taken : List ℕ) (replies : List CommandReply) (d : Decoder)
    → GatewayRun pieces ahead taken replies d → d.drained ≡ true → InTime decode_judge 106 (joined pieces) taken replies) → ⊥
gateway-not-in-106 sooner = too-soon (sooner late_pieces ((0 ∷ []) ∷ []) too_few [] gateway-nothing-yet.0 (any-plain gateway-nothing-yet.1) gateway-nothing-yet.2)

pub no-sooner : NoSooner
no-sooner =
    record {
      counted = refl;
      stands = reset-stats;
      read = ap (λ (o : Reading CommandReply). o.frames) goes_on;
      nothing_yet = nothing_yet;
      then-given = then-given;
      gateway-nothing-yet = gateway-nothing-yet;
      gateway-then-given = gateway-then-given;
      every-run = λ run. none_yet (run-replies run);
      every-gateway-run = λ run drained. none_yet (gateway-replies run drained);
    }
