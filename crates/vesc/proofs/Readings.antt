-- Which readings were there: of `decode`'s reply, and so of the reply that `next` finds in the unread bytes.
use mathlib.Core.Path.{◌≡◌, refl, sym, ap, subst}
use mathlib.Core.Bool.{Bool, true, false, cond}
use mathlib.Core.List.{List, [], ◌∷◌}
use Prim.Native.Nat.{ℕ, suc}
use lib.ListN.{drop}
use Rattle.refusals.specs.Refusals.{Answer, ok, refused}
use Rattle.stream.specs.Reading.{not_yet, moves_on}
use Rattle.stream.specs.Searching.{Search, found, nothing, further, search_at, search}
use Rattle.stream.specs.Judging.{verdict_of, is_incomplete_data}
use Rattle.buffer.specs.Buffer.{reply_found, next_reply}
use Rattle.tables.proofs.Bits.{asked-bits}
use Rattle.reply.specs.Decode.{Decode, decode_of}
use Rattle.reply.specs.Reply.{empty_reply}
use Rattle.reply.specs.Records.{RecordsOf}
use Rattle.reply.specs.declared.CommandReply.{CommandReply}
use Rattle.reply.proofs.Records.{decoded-records, empty-records}
use Rattle.decoder.specs.Judge.{decode_judge}
use Rattle.decoder.specs.State.{buffer_of}
use Rattle.vesc.specs.Demands.{ReadingsThere}

-- a search from a place further on finds the same reply
further-reply : (on : Search CommandReply) → reply_found empty_reply (further 1 on) ≡ reply_found empty_reply on
further-reply (found over n r after) = refl
further-reply (nothing over rest) = refl

abbrev Somewhere : List ℕ → CommandReply → Type 0
Somewhere l reply = (place : ℕ) × RecordsOf (drop place l) reply

-- one step of the search at l, by what `decode` says there
module _ (x : ℕ) (xs : List ℕ) (on : Search CommandReply) (further-on : Somewhere xs (reply_found empty_reply on)) where
  abbrev l : List ℕ
  l = x ∷ xs

  refusal : (waits : Bool) → Somewhere l (reply_found empty_reply (search_at (cond waits not_yet moves_on) l on))
  refusal true = (0, empty-records l)
  refusal false = (suc further-on.0, subst (RecordsOf (drop further-on.0 xs)) (sym (further-reply on)) further-on.1)

  step : (a : Answer ℕ) → Somewhere l (reply_found empty_reply (search_at (verdict_of a (decode_of l).reply) l on))
  step (ok count) = (0, decoded-records l)
  step (refused why) = refusal (is_incomplete_data why)

found-records : (l : List ℕ) → Somewhere l (reply_found empty_reply (search decode_judge l))
unfolding search decode_judge
found-records [] = (0, empty-records [])
found-records (x ∷ xs) = step x xs (search decode_judge xs) (found-records xs) (decode_of (x ∷ xs)).answer

pub readings-there : ReadingsThere
unfolding next_reply
readings-there =
    record {
      decode = λ s d is. subst (RecordsOf s) (sym (ap (λ (r : Decode). r.reply) is)) (decoded-records s);
      next = λ d r is.
          let there = found-records (buffer_of d).unread in
          (there.0, subst (RecordsOf (drop there.0 (buffer_of d).unread)) (sym is.reply) there.1);
      asked = asked-bits;
    }
