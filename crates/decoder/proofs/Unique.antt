-- What a call hands back is the only answer that meets its contract, up to the decoder's unused bytes.
use mathlib.Core.Path.{◌≡◌, refl, sym, ap, ◌∙◌}
use mathlib.Core.Bool.{Bool, true, false}
use Prim.Native.Nat.{ℕ}
use native.Mathlib.Omega.{arith}
use Rattle.std.specs.Prelude.{Option, Some, None}
use Rattle.refusals.specs.Refusals.{feed_refusal}
use Rattle.refusals.specs.OneAnswer.{ToldApart}
use Rattle.refusals.proofs.Unique.{answer-back, feed_back, feed-back}
use Rattle.buffer.specs.Buffer.{Buffer}
use Rattle.buffer.proofs.Feeding.{buffer-same}
use Rattle.reply.specs.declared.CommandReply.{CommandReply}
use Rattle.decoder.specs.declared.Decoder.{Decoder}
use Rattle.decoder.specs.State.{fields_buffer, BufferIs, taken_answer, is_given, count_given, reply_given}
use Rattle.decoder.specs.OneAnswer.{UnusedApart, OneAnswer}
use Rattle.decoder.proofs.States.{sound-buffer, held_fields, held-buffer}

pub holds-unique : (buffer : Buffer) (d e : Decoder) → BufferIs buffer d → BufferIs buffer e → UnusedApart d e
holds-unique buffer d e h k =
    let same : fields_buffer d ≡ fields_buffer e = held_fields buffer d h ∙ sym (held_fields buffer e k) in
    let wpos : d.wpos ≡ e.wpos = ap (λ (l : Buffer). l.wpos) same in
    record {
      rpos = omega (arith, held-buffer d buffer h, held-buffer e buffer k, h.sound.low, k.sound.low);
      wpos = wpos;
      unread = ap (λ (l : Buffer). l.unread) same;
      fed = ap (λ (l : Buffer). l.fed) same;
      handed = ap (λ (l : Buffer). l.handed) same;
      passed = ap (λ (l : Buffer). l.passed) same;
      cleared = ap (λ (l : Buffer). l.cleared) same;
      drained = ap (λ (l : Buffer). l.drained) same;
    }

taken-unique : ToldApart taken_answer
taken-unique = answer-back feed_refusal feed_back feed-back

-- what is given, by its three views
frame_of : Bool → ℕ → CommandReply → Option (ℕ × CommandReply)
frame_of true count reply = Some (count, reply)
frame_of false count reply = None

frame-of : (given : Option (ℕ × CommandReply)) → given ≡ frame_of (is_given given) (count_given given) (reply_given given)
unfolding frame_of
frame-of (Some frame) = refl
frame-of None = refl

pub one_answer : OneAnswer
one_answer =
    record {
      holds = holds-unique;
      feed = λ self piece a b p q. (p.count ∙ sym q.count, holds-unique _ a.decoder b.decoder p.after q.after);
      takes = taken-unique;
      gateway-feed = λ self piece a b p q. (
        taken-unique a.answer b.answer (p.answer ∙ sym q.answer),
        holds-unique _ a.decoder b.decoder p.after q.after,
      );
      next = λ self a b p q. (
        frame-of a.given ∙ (λ i. frame_of ((p.given ∙ sym q.given) i) ((p.count ∙ sym q.count) i) ((p.reply ∙ sym q.reply) i)) ∙ sym (frame-of b.given),
        holds-unique _ a.decoder b.decoder p.after q.after,
      );
      unused = λ d e s t u.
          sound-buffer d s ∙ buffer-same (fields_buffer d) (fields_buffer e) u.unread u.wpos u.fed u.handed u.passed u.cleared u.drained ∙ sym (sound-buffer e t);
    }
