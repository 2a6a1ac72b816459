-- Reading and writing raw replies undo each other, and `decode` reads what was written.
use mathlib.Core.Path.{◌≡◌, refl, sym, ap, ◌∙◌, subst}
use mathlib.Core.Bool.{Bool, true, false, cond}
use mathlib.Core.List.{List, [], ◌∷◌, ◌++◌, append-nil}
use Prim.Native.Nat.{ℕ, ◌≤◌}
use native.Mathlib.Omega.{arith}
use lib.Dec.{ltb}
use lib.ListN.{length, get_or, take, drop}
use lib.Seq.{take_at, take-length}
use borrow.Author.Tests.{le-ltb}
use Rattle.refusals.specs.Refusals.{Answer, ok, refused, buffer_too_small, unknown_mask_bits, bad_name}
use Rattle.refusals.proofs.Answers.{given-unless}
use Rattle.refusals.proofs.Different.{none}
use Rattle.packer.specs.Nearness.{Bytes}
use Rattle.packer.specs.Standing.{Stands}
use Rattle.packer.proofs.Standing.{in-front, second, one, joined, taken}
use Rattle.tables.proofs.Bits.{known-bits}
use Rattle.layout.specs.Layout.{extent, raws}
use Rattle.layout.specs.Replies.{layout_in, replies, fields_end}
use Rattle.layout.specs.Writing.{written, Fits}
use Rattle.layout.proofs.BothWays.{both_ways}
use Rattle.layout.proofs.Readers.{reads}
use Rattle.frame.specs.Frame.{short, frame_of, frame_size, declared, payload_in}
use Rattle.frame.specs.Room.{room_answer}
use Rattle.frame.proofs.Laws.{frame-laws}
use Rattle.frame.proofs.Places.{declared-is, payload-is, payload-bytes}
use Rattle.judge.specs.Judge.{judge_of}
use Rattle.judge.specs.Good.{ReadWhole, Begins}
use Rattle.judge.proofs.Good.{good-frames, begins-judged, payload-length, few}
use Rattle.reply.specs.Reply.{kind_number, reply_of}
use Rattle.reply.specs.Decode.{reply_in, reply_by, decode_of}
use Rattle.reply.specs.declared.Kind.{Kind}
use Rattle.raw_reply.specs.RawReply.{layout_for, raw_reply_by, raw_as, raw_reply_of, raws_in, cleared_as, cleared, reply_from}
use Rattle.raw_reply.specs.Reading.{raw_in, raw_read_of}
use Rattle.raw_reply.specs.Laws.{FitsAs, RecordFits, InForm}
use Rattle.raw_reply.specs.declared.RawReply.{RawReply}
use Rattle.raw_reply.proofs.OfKind.{raw_of-kind}
use Rattle.raw_reply.proofs.Laws.{remade-as, cleared-as, good-carries}
use Rattle.reply_writer.specs.Writer.{known_mask, good_names_as, good_names, payload_as, payload_of, write_answer, written_reply, WriteIs}
use Rattle.reply_writer.specs.Laws.{read_as, WroteFrame, WriterLaws}
use Rattle.std.specs.Prelude.{Result}
use Rattle.refusals.specs.declared.ReplyWriteError.{ReplyWriteError}
use Rattle.reply_writer.proofs.Sent.{sent-fits, made-cleared, kind-as, raws-as, names-as}

-- ---- a payload of a kind is read to its end, as what was sent

layout_of : (kind : Kind) → layout_in replies (kind_number kind) ≡ ok (layout_for kind)
unfolding layout_in
layout_of Kind.FwVersion = refl
layout_of Kind.GetValues = refl
layout_of Kind.GetValuesSelective = refl
layout_of Kind.GetValuesSetupSelective = refl
layout_of Kind.GetStats = refl
layout_of Kind.ResetStats = refl
layout_of Kind.FwInfo = refl

module _ (kind : Kind) (r : RawReply) (fits : FitsAs kind r) (names : good_names_as kind r ≡ true) where
  abbrev values : List ℕ
  values = written (layout_for kind) (raws_in kind (cleared_as kind r))

  abbrev payload : List ℕ
  payload = kind_number kind ∷ values

  sent : Fits (layout_for kind) (raws_in kind (cleared_as kind r))
  sent = sent-fits kind r fits names

  stands : Stands values payload 1 (length payload)
  stands = rw append-nil at (second (kind_number kind ∷ []) values (in-front payload []))

  whole : ReadWhole payload
  unfolding fields_end
  whole = rw (layout_of kind) ((both_ways (layout_for kind)).ends (raws_in kind (cleared_as kind r)) payload 1 (length payload) sent stands)

  carried : raws (layout_for kind) payload 1 ≡ raws_in kind (cleared_as kind r)
  carried = (both_ways (layout_for kind)).back (raws_in kind (cleared_as kind r)) payload 1 (length payload) sent stands

  read_back : raw_reply_of payload ≡ cleared_as kind r
  unfolding raw_as
  read_back = raw_of-kind payload kind refl ∙ ap (raw_reply_by kind) carried ∙ made-cleared kind r fits

  decoded-back : reply_of payload ≡ reply_from (cleared_as kind r)
  decoded-back =
      sym (remade-as payload kind refl (subst (Fits (layout_for kind)) (sym carried) sent)) ∙ ap reply_from (sym (raw_of-kind payload kind refl) ∙ read_back)

-- ---- a success: nothing was refused, and the frame stands in front

room-given : (n room count : ℕ) → room_answer n room ≡ ok count → count ≡ frame_size short n
room-given n room count e = go (ltb room (frame_size short n)) e
  where
    go : (b : Bool) → cond b (refused buffer_too_small) (ok (frame_size short n)) ≡ ok count → count ≡ frame_size short n
    go true e = none (cc)
    go false e = cc

record Wrote (r : RawReply) (count : ℕ) (after : List ℕ) : Type 0 where
  names : good_names r ≡ true
  counted : count ≡ frame_size short (length (payload_of r))
  rest : List ℕ
  begins : after ≡ frame_of short (payload_of r) ++ rest

wrote : (r : RawReply) (count : ℕ) (after : List ℕ) → WroteFrame r count after → Wrote r count after
unfolding write_answer
wrote r count after (buffer, w) =
    let known = given-unless (known_mask r) unknown_mask_bits _ count (sym w.answer) in
    let named = given-unless (good_names r) bad_name _ count known.then in
    record {
      names = named.holds;
      counted = room-given (length (payload_of r)) (length buffer) count named.then;
      rest = drop (length (frame_of short (payload_of r))) buffer;
      begins = w.holds ∙ rw (known.holds, named.holds, named.then);
    }

-- ---- what was written is read

module _ (r : RawReply) (fits : RecordFits r) (count : ℕ) (after : List ℕ) (w : WroteFrame r count after) where
  frame : Wrote r count after
  frame = wrote r count after w

  read_whole : ReadWhole (payload_of r)
  unfolding payload_as cleared good_names
  read_whole = whole r.kind r fits frame.names

  begun : Begins after count
  begun =
      record {
        payload = payload_of r;
        rest = frame.rest;
        is = frame.begins;
        whole = read_whole;
        counted = frame.counted ∙ sym ((frame-laws short).size (payload_of r));
      }

  judged : judge_of after ≡ ok count
  judged = begins-judged after count begun

  payload-there : payload_in short after ≡ payload_of r
  payload-there = rw frame.begins ((frame-laws short).written (payload_of r) frame.rest (omega (arith, few (payload_of r) read_whole))).carries

  good : (judge_of after ≡ ok count) × (count ≤ 110)
  good = (judged, omega (arith, frame.counted, few (payload_of r) read_whole))

  reads-cleared : raw_read_of after ≡ read_as count (cleared r)
  unfolding raw_read_of raw_in payload_as cleared good_names
  reads-cleared =
      let back : raw_reply_of (payload_in short after) ≡ cleared r = ap raw_reply_of payload-there ∙ read_back r.kind r fits frame.names in
      rw judged (λ i. read_as count (back i))

  reads-written : InForm r → raw_read_of after ≡ read_as count r
  reads-written form = reads-cleared ∙ ap (read_as count) form

  decoded : decode_of after ≡ record { answer = ok count; reply = reply_from (cleared r) }
  unfolding decode_of reply_by reply_in payload_as cleared good_names
  decoded =
      let back : reply_of (payload_in short after) ≡ reply_from (cleared r) = ap reply_of payload-there ∙ decoded-back r.kind r fits frame.names in
      rw judged (λ i. record { answer = ok count; reply = back i })

-- ---- what was read is written

-- a reply that a payload carries is written as that payload
module _ (kind : Kind) (payload : List ℕ) (is : get_or payload 0 0 ≡ kind_number kind) (fits : Fits (layout_for kind) (raws (layout_for kind) payload 1))
    (read : extent (layout_for kind) payload 1 ≡ ok (length payload)) (b : Bytes payload) where
  carries-values : kind_number kind ∷ written (layout_for kind) (raws (layout_for kind) payload 1) ≡ payload
  carries-values =
      let l = layout_for kind in
      let first = (reads l).onward payload 1 (length payload) read in
      let all = joined (one payload 0 first) ((both_ways l).stands payload 1 (length payload) b first read) in
      let long : length (get_or payload 0 0 ∷ written l (raws l payload 1)) ≡ length payload = omega (arith, all.ends) in
      let whole : get_or payload 0 0 ∷ written l (raws l payload 1) ≡ payload = taken all ∙ ap (λ (n : ℕ). take n payload) long ∙ take-length payload in
      rw is at whole

  payload-back : payload_of (raw_as kind payload) ≡ payload
  unfolding payload_as
  payload-back =
      ap (λ (k : Kind). payload_as k (raw_as kind payload)) (kind-as kind payload)
      ∙ rw (cleared-as payload kind fits, raws-as kind payload fits) carries-values

  names-back : good_names (raw_as kind payload) ≡ true
  unfolding good_names
  names-back = ap (λ (k : Kind). good_names_as k (raw_as kind payload)) (kind-as kind payload) ∙ names-as kind payload fits

writes-read : (s : List ℕ) → Bytes s → (count : ℕ) → (raw_read_of s).answer ≡ ok count → known_mask (raw_read_of s).reply ≡ true
    → (buffer after : List ℕ) (w : Result ℕ ReplyWriteError) → count ≤ length buffer → WriteIs (raw_read_of s).reply buffer w after
    → (written_reply w ≡ ok count) × (after ≡ take count s ++ drop count buffer)
unfolding raw_read_of raw_in write_answer
writes-read s b count e known buffer after w room is =
    let c = good-carries s count b e in
    let kind = c.of-kind.kind in
    let payload = payload_in short s in
    let good = (good-frames.judged s count).0 e in
    let r = raw_in (judge_of s) s in
    let same : r ≡ raw_as kind payload = ap (λ (a : Answer ℕ). raw_in a s) e ∙ raw_of-kind payload kind c.of-kind.its-id in
    let written : payload_of r ≡ payload = ap payload_of same ∙ payload-back kind payload c.of-kind.its-id c.fits c.of-kind.whole (payload-bytes s b) in
    let named : good_names r ≡ true = ap good_names same ∙ names-back kind payload c.of-kind.its-id c.fits c.of-kind.whole (payload-bytes s b) in
    let size : length payload ≡ declared short s = ap length (payload-is s) ∙ payload-length s good.0 ∙ sym (declared-is s) in
    let counted : frame_size short (length payload) ≡ count = omega (arith, size, good.1) in
    let answer : write_answer r (length buffer) ≡ ok count = rw (known, named, written, counted, le-ltb (length buffer) count room) in
    let long : length (frame_of short payload) ≡ count = (frame-laws short).size payload ∙ counted in
    let there : frame_of short payload ≡ take count s =
    sym (ap (take count) ((frame-laws short).read s b good.0.framed) ∙ take_at (frame_of short payload) _ count long) in
    (is.answer ∙ answer, is.holds ∙ rw (answer, written, long, there))

pub writer-laws : WriterLaws
writer-laws =
    record {
      known = known-bits;
      reads-written = λ r fits form count after w. reads-written r fits count after w form;
      reads-cleared = reads-cleared;
      writes-read = writes-read;
      decoded = decoded;
      good = good;
    }
