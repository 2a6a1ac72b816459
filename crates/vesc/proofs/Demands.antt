-- The three demands hold.
use mathlib.Core.Path.{◌≡◌, refl, sym, ap, ◌∙◌, subst}
use mathlib.Core.List.{List, ◌++◌}
use Prim.Native.Nat.{ℕ, ◌+◌, ◌-◌, ◌≤◌, ◌<◌}
use native.Mathlib.Omega.{arith}
use lib.ListN.{length, get_or, take, drop}
use mathlib.Core.Logic.{◌↔◌, inl, inr}
use Rattle.refusals.specs.Refusals.{Refusal, Answer, ok, refused, incomplete_data, invalid_frame, unknown_packet, checksum_mismatch, buffer_too_small, payload_too_long}
use Rattle.refusals.proofs.Different.{none}
use Rattle.checksum.specs.Xmodem.{checksum_of}
use Rattle.checksum.proofs.Remainder.{register-is-remainder}
use Rattle.checksum.proofs.CheckValue.{check-value}
use Rattle.floats.proofs.Nearest.{nearest-even}
use Rattle.floats.proofs.OverScale.{reading-near}
use Rattle.text.proofs.Rule.{well-formed-iff}
use Rattle.text.proofs.Ends.{text-of-name}
use Rattle.packer.specs.Numbers.{be_at}
use Rattle.packer.specs.Unpacking.{unsigned_at}
use Rattle.packer.proofs.Places.{got, lent-whole}
use Rattle.encode.specs.Encode.{EncodeIs, encoded}
use Rattle.encode.proofs.Exact.{refused-writes-nothing}
use Rattle.command.specs.declared.Command.{Command}
use Rattle.refusals.specs.declared.EncodeError.{EncodeError}
use Rattle.refusals.specs.declared.DecodeError.{DecodeError}
use Rattle.std.specs.Prelude.{Result}
use Rattle.judge.specs.Judge.{judge_of}
use Rattle.judge.proofs.Order as order
use Rattle.format.specs.Format.{payload_at, frame_start}
use Rattle.frame.specs.Frame.{short, frame_size, start_byte, declared, carried, end_byte}
use Rattle.frame.specs.Opening.{finish_of, judge_sum_of, payload_part}
use Rattle.frame.specs.Wrapping.{wrap_answer}
use Rattle.frame.proofs.Cases.{by_order, by-equality}
use Rattle.frame.proofs.Places.{declared-is, carried-is, payload-is, end_is}
use Rattle.frame.proofs.Endings as ending
use Rattle.frame.proofs.Wrapped.{answer-too-long, answer-too-small, answer-fits}
use Rattle.layout.specs.Layout.{Layout, extent}
use Rattle.layout.specs.Replies.{replies, layout_in, NoneOf, fields_end}
use Rattle.layout.proofs.Replies.{no-reply, by-reply}
use Rattle.layout.proofs.Refusals.{OneOrTwo, plain}
use Rattle.judge.specs.Good.{id_byte}
use Rattle.judge.proofs.Good.{good-frames}
use Rattle.reply.specs.Decode.{Decode, decode_of, decoded}
use Rattle.stream.specs.Reading.{read_all, replies_of, joined}
use Rattle.stream.specs.Lateness.{InTime}
use Rattle.stream.proofs.Rule.{reading-by-rule}
use Rattle.stream.proofs.Lateness.{in-time-later}
use Rattle.buffer.proofs.Runs.{run-front, run-plain}
use Rattle.buffer.proofs.AnyOrder.{any-front, any-plain}
use Rattle.buffer.proofs.Use.{run-in-use}
use Rattle.reply.specs.declared.CommandReply.{CommandReply}
use Rattle.decoder.specs.declared.Decoder.{Decoder}
use Rattle.decoder.specs.Judge.{decode_judge}
use Rattle.decoder.specs.State.{buffer_of}
use Rattle.decoder.proofs.Judging.{decode-steady}
use Rattle.reply.proofs.Nearness.{decoded-near}
use Rattle.decoder.proofs.GatewayRuns.{any-reached}
use Rattle.decoder.proofs.DemandThree as stream
use Rattle.decoder.proofs.NoSooner.{not-in-106, gateway-not-in-106}
use Rattle.vesc.specs.Demands.{EncodeRefuses, DecodeRefuses, Fields, fields_read, Way, DemandOne, DemandTwo, AsRead, DemandThree, DemandThreeGateway, LineFigures, summed}
use Rattle.vesc.specs.Demands.{no_start, start-wrong, no_length, no-id, unknown-id, no_field, no_nul, length-wrong, no_end, end-wrong, sum-wrong, good, answer_of}

-- ---- two answers are not one
abbrev number_of : Answer ℕ → ℕ
number_of (ok value) = 0
number_of (refused why) = why.number

six-five : {C : Type 0} → ◌≡◌ {A = Answer ℕ} (refused payload_too_long) (refused buffer_too_small) → C
six-five e = let z : ◌≡◌ {A = ℕ} 6 5 = ap number_of e in absurd (omega arith)

one_answer : {C : Type 0} {why : Refusal} {n : ℕ} → ◌≡◌ {A = Answer ℕ} (refused why) (ok n) → C
one_answer e = none (cc)

-- ---- what `encode` answers, by the length n of the payload and the room
module _ (n room : ℕ) (a : Answer ℕ) (is : a ≡ wrap_answer n room) where
  answer-long : (a ≡ refused payload_too_long) ↔ (255 < n)
  answer-long = (λ e. by_order 255 n (λ h. h) (λ h. by_order room (n + 5) (λ k. six-five (sym e ∙ is ∙ answer-too-small n room h k)) (λ k. one_answer (sym e ∙ is ∙ answer-fits n room h k))), λ h. is ∙ answer-too-long n room h)

  answer-small : (a ≡ refused buffer_too_small) ↔ ((n ≤ 255) × (room < n + 5))
  answer-small = (λ e. by_order 255 n (λ h. six-five (sym (answer-too-long n room h) ∙ sym is ∙ e)) (λ h. by_order room (n + 5) (λ k. (h, k)) (λ k. one_answer (sym e ∙ is ∙ answer-fits n room h k))), λ h. is ∙ answer-too-small n room h.0 h.1)

  answer-room : (a ≡ ok (n + 5)) ↔ ((n ≤ 255) × (n + 5 ≤ room))
  answer-room = (λ e. by_order 255 n (λ h. one_answer (sym (answer-too-long n room h) ∙ sym is ∙ e)) (λ h. by_order room (n + 5) (λ k. one_answer (sym (answer-too-small n room h k) ∙ sym is ∙ e)) (λ k. (h, k))), λ h. is ∙ answer-fits n room h.0 h.1)

encode-refuses : (command : Command) (hops buffer : List ℕ) (r : Result ℕ EncodeError) (after : List ℕ) → EncodeIs command hops buffer r after → EncodeRefuses command hops buffer r after
encode-refuses command hops buffer r after w =
    record {
      too_long = answer-long _ _ (encoded r) w.answer;
      too_small = answer-small _ _ (encoded r) w.answer;
      fits = answer-room _ _ (encoded r) w.answer;
      unchanged = λ e same. refused-writes-nothing command hops buffer after e (subst (λ (a : Result ℕ EncodeError). EncodeIs command hops buffer a after) same w);
    }

module _ (s : List ℕ) where
  abbrev n : ℕ
  n = get_or s 1 0

  fields_at : payload_at < length s → (a : Answer ℕ) → fields_read s ≡ a → a ≡ fields_end (id_byte s) (take (length s - 2) (drop 2 s)) 1
  fields_at h a e = sym e ∙ ap (λ (p : List ℕ). fields_end (id_byte s) p 1) (sym (lent-whole 2 s))

  -- an id of no reply ends the reading of fields
  unknown : NoneOf replies (id_byte s) → fields_read s ≡ refused (unknown_packet (id_byte s))
  unfolding fields_end
  unknown none_of = rw (no-reply replies (id_byte s) none_of)

  fields-refused : payload_at < length s → start_byte short s ≡ frame_start → (why : Refusal) → fields_read s ≡ refused why → judge_of s ≡ refused why
  fields-refused h start why e = sym (order.fields-wrong s start h n refl why (fields_at h (refused why) e))

  finished : Fields s → finish_of s n ≡ judge_of s
  finished f = order.length-right s f.start f.there n refl n (fields_at f.there (ok n) (f.read ∙ ap ok (declared-is s))) refl

  sum-there : n + 4 ≤ length s → ok (be_at s (n + 2) 2, n + 2 + 2) ≡ unsigned_at 2 s (n + 2)
  sum-there h = sym (got 2 (be_at s (n + 2) 2) s (n + 2) (omega arith))

  end-missing : Fields s → length s < n + 5 → judge_of s ≡ refused incomplete_data
  end-missing f h = sym (finished f) ∙ ending.finish-waits s n h

  module _ (f : Fields s) (there : n + 5 ≤ length s) where
    end-is-wrong : (get_or s (n + 4) 0 ≡ 3 → ⊥) → judge_of s ≡ refused invalid_frame
    end-is-wrong differs = sym (finished f) ∙ sym (ending.end-wrong s n _ (sum-there (omega arith)) (omega arith) differs)

    sum-is-wrong : get_or s (n + 4) 0 ≡ 3 → (carried short s ≡ summed s → ⊥) → judge_of s ≡ refused (checksum_mismatch (carried short s) (summed s))
    unfolding payload_part
    sum-is-wrong end differs =
        let all : n + 2 - 2 ≡ n = omega arith in
        let ended : judge_sum_of s n (be_at s (n + 2) 2) ≡ judge_of s = ending.end-right s n _ (sum-there (omega arith)) (omega arith) end ∙ finished f in
        let sum : summed s ≡ checksum_of (take (n + 2 - 2) (drop 2 s)) = rw all (ap checksum_of (payload-is s)) in
        sym (ap (judge_sum_of s n) (carried-is s) ∙ ended) ∙ sym (ending.sum-wrong s n (carried short s) (summed s) sum differs)

  fields-by : (layout : Layout) → layout_in replies (id_byte s) ≡ ok layout → fields_read s ≡ extent layout (drop 2 s) 1
  unfolding fields_end
  fields-by layout chosen = rw chosen

  goes : Way s
  goes =
      by_order 0 (length s)
      (λ one. by-equality (get_or s 0 0) 2
      (λ start. by_order 1 (length s)
      (λ two. by_order 2 (length s) (λ three. after-id three start) (no-id two start))
      (no_length one start))
      (start-wrong one))
      no_start
    where
      after-sum : (f : Fields s) → Way s
      after-sum f =
          by_order (length s) (frame_size short (declared short s)) (no_end f)
          (λ there. by-equality (end_byte short s) 3
          (λ end. by-equality (carried short s) (summed s)
          (λ same. good (record { framed = record { whole = there; start = f.start; sum = same; end = end }; fields = f.read }))
          (sum-wrong f there end))
          (end-wrong f there))

      after-fields : 2 < length s → get_or s 0 0 ≡ 2 → (a : Answer ℕ) → fields_read s ≡ a → OneOrTwo a → Way s
      after-fields three start (refused why) e (inl one) = no_field three start (e ∙ ap refused one)
      after-fields three start (refused why) e (inr two) = no_nul three start (e ∙ ap refused two)
      after-fields three start (ok read) e _ =
          by-equality (declared short s) read
          (λ same. after-sum (record { there = three; start = start; read = e ∙ ap ok (sym same) }))
          (length-wrong three start read e)

      after-id : 2 < length s → get_or s 0 0 ≡ 2 → Way s
      after-id three start =
          by-reply replies (id_byte s)
          (λ layout chosen. after-fields three start _ (fields-by layout chosen) (plain layout (drop 2 s) 1))
          (unknown-id three start)

  answer : (way : Way s) → judge_of s ≡ answer_of way
  answer (no_start h) = sym (order.no_start s h)
  answer (start-wrong h differs) = sym (order.start-wrong s h differs)
  answer (no_length h start past) = sym (order.no_length s start h past)
  answer (no-id h start past) = sym (order.no-id s start h past)
  answer (unknown-id h start none_of) = fields-refused h start _ (unknown none_of)
  answer (no_field h start e) = fields-refused h start incomplete_data e
  answer (no_nul h start e) = fields-refused h start invalid_frame e
  answer (length-wrong h start read e differs) =
      sym (order.length-wrong s start h n refl read (fields_at h (ok read) e) (λ same. differs (declared-is s ∙ same)))
  answer (no_end f past) = end-missing f (omega (arith, declared-is s))
  answer (end-wrong f there differs) = end-is-wrong f (omega (arith, declared-is s)) (λ same. differs (end_is s ∙ same))
  answer (sum-wrong f there end differs) = sum-is-wrong f (omega (arith, declared-is s)) (sym (end_is s) ∙ end) differs
  answer (good frame) = (good-frames.judged s _).1 (frame, refl)

decode-refuses : (s : List ℕ) (d : Result (ℕ × CommandReply) DecodeError) → decoded d ≡ decode_of s → DecodeRefuses s d
unfolding decode_of
decode-refuses s d is =
    record {
      goes = goes s;
      answer = λ way. ap (λ (o : Decode). o.answer) is ∙ answer s way;
      empty = λ e refuses. ap (λ (r : Result (ℕ × CommandReply) DecodeError). (decoded r).reply) refuses;
    }

pub demand-one : DemandOne
demand-one = record { encode = encode-refuses; decode = decode-refuses }

pub demand-two : DemandTwo
demand-two =
    record {
      checksum = register-is-remainder;
      check-value = check-value;
      nearest = nearest-even;
      rounding = reading-near;
      readings = decoded-near;
      text = well-formed-iff;
      name-text = text-of-name;
    }

-- the sentence with 109 follows from the one with 107
as_read : {pieces ahead : List (List ℕ)} {taken : List ℕ} {replies : List CommandReply} {d : Decoder} → joined pieces ≡ taken ++ joined ahead
    → replies ≡ replies_of (read_all decode_judge taken).frames → (buffer_of d).unread ≡ (read_all decode_judge taken).rest → InTime decode_judge 107 (joined pieces) taken replies
    → AsRead pieces ahead taken replies d
as_read {pieces} {taken = taken} {replies} front in_order unread in-time =
    record {
      stream = front;
      in_order = in_order;
      unread = unread;
      in-time = in-time;
      as-demanded = in-time-later decode_judge 107 109 (joined pieces) taken replies (omega arith) in-time;
    }

pub demand-three : DemandThree
demand-three =
    record {
      by-rule = reading-by-rule decode_judge decode-steady 0;
      as_read = λ run. as_read (run-front run) (stream.run-replies run) (stream.run-unread run) (stream.in-time run);
      no-sooner = not-in-106;
      whole = λ run. stream.whole-reading run;
      exists = stream.runs-whole;
      plain = λ run. run-plain run;
      ends = λ run. stream.ends run;
      takes-some = λ run. stream.takes-some run;
    }

pub demand-three-gateway : DemandThreeGateway
demand-three-gateway =
    record {
      so_far = λ run. stream.gateway-so-far run;
      as_read = λ run drained.
          as_read (any-front run) (stream.gateway-replies run drained) (stream.gateway-unread run drained) (stream.gateway-in-time run drained);
      no-sooner = gateway-not-in-106;
      whole = λ run. stream.gateway-whole run;
      in-turn = λ run. stream.gateway-in-turn run;
      exists = stream.gateway-exists;
      plain = λ run. any-plain run;
      asking-ends = stream.gateway-asking-ends;
      ends = λ run. stream.gateway-ends run;
      takes-some = λ reached. stream.gateway-takes-some reached;
    }

pub line-figures : LineFigures
line-figures =
    record {
      balance = λ reached. stream.balance reached;
      alone = λ reached. stream.alone reached;
      account = λ reached. stream.account reached;
      none-cleared = λ used. stream.none-cleared used;
      in-runs = λ run. run-in-use run;
      in_use = λ used. stream.in_use used;
      gateway-none-cleared = λ reached. stream.gateway-none-cleared reached;
      gateway-balance = λ reached. stream.gateway-balance reached;
      in-gateway-runs = λ run. any-reached run;
      gateway-reached = λ reached. stream.gateway-either reached;
    }
