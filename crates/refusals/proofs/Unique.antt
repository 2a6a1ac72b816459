-- Two errors with one refusal are the same, and so the maps that the promises go through lose nothing.
use mathlib.Core.Path.{◌≡◌, refl, sym, ap, ◌∙◌}
use mathlib.Core.Bool.{cond}
use lib.Dec.{eqb}
use lib.ListN.{get_or}
use Rattle.refusals.specs.Refusals.{Refusal, Answer, ok, refused, answer_by, decode_refusal, encode_refusal, write_back_refusal, reply_write_refusal, feed_refusal, consumed}
use Rattle.std.specs.Prelude.{Result, Ok, Err}
use Rattle.refusals.proofs.Different.{none}
use Rattle.refusals.proofs.Answers.{given-same}
use Rattle.refusals.specs.OneAnswer.{ToldApart, OneAnswer}
use Rattle.refusals.specs.declared.DecodeError.{DecodeError}
use Rattle.refusals.specs.declared.DecodeError.TheVariants.{IncompleteData, InvalidFrame, UnknownPacket, ChecksumMismatch}
use Rattle.refusals.specs.declared.EncodeError.{EncodeError}
use Rattle.refusals.specs.declared.EncodeError.TheVariants.{BufferTooSmall, PayloadTooLong}
use Rattle.refusals.specs.declared.WriteBackError.{WriteBackError}
use Rattle.refusals.specs.declared.WriteBackError.TheVariants as w
use Rattle.refusals.specs.declared.ReplyWriteError.{ReplyWriteError}
use Rattle.refusals.specs.declared.ReplyWriteError.TheVariants as r
use Rattle.refusals.specs.declared.FeedError.{FeedError}
use Rattle.refusals.specs.declared.FeedError.TheVariants.{NotDrained}

-- a map with a way back tells its arguments apart
pub told-apart : {A B : Type 0} (f : A → B) (back : B → A) → ((a : A) → back (f a) ≡ a) → ToldApart f
told-apart f back same a b e = sym (same a) ∙ ap back e ∙ same b

-- the error with a number, and with the values returned with it
pub decode_back : Refusal → DecodeError
decode_back r =
    cond (eqb r.number 1) IncompleteData
    (cond (eqb r.number 2) InvalidFrame
    (cond (eqb r.number 3) (UnknownPacket (get_or r.values 0 0)) (ChecksumMismatch (get_or r.values 0 0) (get_or r.values 1 0))))

pub encode_back : Refusal → EncodeError
encode_back r = cond (eqb r.number 5) BufferTooSmall PayloadTooLong

pub decode-back : (e : DecodeError) → decode_back (decode_refusal e) ≡ e
unfolding decode_back
decode-back IncompleteData = refl
decode-back InvalidFrame = refl
decode-back (UnknownPacket id) = refl
decode-back (ChecksumMismatch expected actual) = refl

pub encode-back : (e : EncodeError) → encode_back (encode_refusal e) ≡ e
unfolding encode_back
encode-back BufferTooSmall = refl
encode-back PayloadTooLong = refl

pub write_back_back : Refusal → WriteBackError
write_back_back r = cond (eqb r.number 2) w.InvalidFrame (cond (eqb r.number 6) w.PayloadTooLong w.BufferTooSmall)

pub write-back-back : (e : WriteBackError) → write_back_back (write_back_refusal e) ≡ e
unfolding write_back_back
write-back-back w.InvalidFrame = refl
write-back-back w.PayloadTooLong = refl
write-back-back w.BufferTooSmall = refl

pub reply_write_back : Refusal → ReplyWriteError
reply_write_back why = cond (eqb why.number 8) r.UnknownMaskBits (cond (eqb why.number 7) r.BadName r.BufferTooSmall)

pub reply-write-back : (e : ReplyWriteError) → reply_write_back (reply_write_refusal e) ≡ e
unfolding reply_write_back
reply-write-back r.UnknownMaskBits = refl
reply-write-back r.BadName = refl
reply-write-back r.BufferTooSmall = refl

-- there is only one
pub feed_back : Refusal → FeedError
feed_back r = NotDrained

pub feed-back : (e : FeedError) → feed_back (feed_refusal e) ≡ e
unfolding feed_back
feed-back NotDrained = refl

-- a map of errors that tells them apart tells apart what calls return
pub answer-back : {A E : Type 0} (refusal_of : E → Refusal) (back : Refusal → E) → ((e : E) → back (refusal_of e) ≡ e) → ToldApart (answer_by {A = A} refusal_of)
answer-back refusal_of back same (Ok value) (Ok other) e = ap Ok (given-same e)
answer-back refusal_of back same (Ok value) (Err error) e = none (cc)
answer-back refusal_of back same (Err error) (Ok value) e = none (cc)
answer-back refusal_of back same (Err error) (Err other) e = ap Err (sym (same error) ∙ ap back (cc) ∙ same other)

pub consumed-unique : {A : Type 0} → ToldApart (consumed {A = A})
consumed-unique = answer-back decode_refusal decode_back decode-back

pub one_answer : OneAnswer
one_answer =
    record {
      decode-errors = told-apart decode_refusal decode_back decode-back;
      encode-errors = told-apart encode_refusal encode_back encode-back;
      write-back-errors = told-apart write_back_refusal write_back_back write-back-back;
      reply-write-errors = told-apart reply_write_refusal reply_write_back reply-write-back;
      feed-errors = told-apart feed_refusal feed_back feed-back;
      consumes = consumed-unique;
    }
