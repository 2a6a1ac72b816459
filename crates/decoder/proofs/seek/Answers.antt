-- `decoder::seek` meets its contract. The invariant: the search goes on from the bytes moved over.
use mathlib.Core.Path.{◌≡◌, ap, ◌∙◌}
use native.Mathlib.Omega.{arith}
use borrow.Author.Rules.{rules}
use lib.ListN.{length, drop}
use Rattle.std.specs.Prelude.{Err}
use Rattle.judge.specs.Judge.{judge_of}
use Rattle.stream.proofs.Seeking.{lent-rest, seek-moves, seek_found, seek-waits, seek-ends, seek-start}
use Rattle.reply.specs.Decode.{reply_in}
use Rattle.decoder.specs.Judge.{decode_judge}
use Rattle.decoder.proofs.Judging.{decode-steady, decode-noise, answer-good, answer-waits, answer-moves}
use Rattle.decoder.proofs.seek.Goals.{then-byte-eq-FRAME_START_SHORT+in-Err, else-byte-eq-FRAME_START_SHORT}
use Rattle.decoder.proofs.seek.Goals as goal

pub returns-in-Ok : goal.returns-in-Ok
returns-in-Ok c =
    let l = c.loop-over in
    let unread = c.args.unread.now in
    seek_found decode_judge decode-steady reply_in unread l.over c.in-Ok.count l.invariant
    (answer-good (drop l.over unread) c.judge.result (c.judge.ensures ∙ ap judge_of (lent-rest unread l.over)) c.in-Ok.count c.in-Ok.is)

pub returns-in-Err-IncompleteData : goal.returns-in-Err-IncompleteData
returns-in-Err-IncompleteData c =
    let l = c.loop-over in
    let unread = c.args.unread.now in
    seek-waits decode_judge decode-steady unread l.over l.invariant
    (answer-waits (drop l.over unread) c.judge.result (c.judge.ensures ∙ ap judge_of (lent-rest unread l.over)) (c.in-Err-IncompleteData.is ∙ ap Err c.in-Err-IncompleteData.field-0-is))

pub loop-over-preserved : goal.loop-over-preserved
loop-over-preserved c =
    let unread = c.args.unread.now in
    let l = c.loop-over in
    elim c.if-byte-eq-FRAME_START_SHORT.branch [
      | then-byte-eq-FRAME_START_SHORT+in-Err w ↦
          seek-moves decode_judge decode-steady unread l.over l.invariant
          (answer-moves (drop l.over unread) w.judge.result (w.judge.ensures ∙ ap judge_of (lent-rest unread l.over)) w.in-Err.field-0 w.in-Err.is
          (search rules))
      | else-byte-eq-FRAME_START_SHORT w ↦
          seek-moves decode_judge decode-steady unread l.over l.invariant
          (seek-start decode_judge decode-steady 2 decode-noise unread l.over c.loop-over-test.true w.if-byte-eq-FRAME_START_SHORT.false)
    ]

pub returns : goal.returns
returns c =
    let unread = c.args.unread.now in
    let l = c.loop-over in
    let all : length unread ≡ l.over = omega arith in
    rw all (seek-ends decode_judge decode-steady unread l.over l.invariant all)
