-- What `next` makes of where the search of the unread bytes ended.
use mathlib.Core.Path.{◌≡◌, refl, sym, ap, ◌∙◌, subst}
use mathlib.Core.Bool.{Bool, true, false, true≢false}
use mathlib.Core.List.{List}
use Prim.Native.Nat.{ℕ, ◌+◌, ◌-◌, ◌≤◌, min}
use native.Mathlib.Omega.{arith}
use lib.ListN.{length, take, drop, length-drop}
use lib.Seq.{drop-drop, slice}
use Rattle.std.specs.Prelude.{Option, Some, None}
use Rattle.stream.specs.Searching.{Search, size_found, search, found_at, nothing_at}
use Rattle.stream.proofs.Search.{nothing-waits}
use Rattle.stream.proofs.Seeking.{lent-rest, found_within, nothing-within}
use Rattle.buffer.specs.Buffer.{Buffer, top, raised, is_found, reply_found, buffer_after, next_given, next_count, next_reply, next_buffer}
use Rattle.reply.specs.declared.CommandReply.{CommandReply}
use Rattle.reply.specs.Reply.{empty_reply}
use Rattle.reply.specs.Decode.{reply_in}
use Rattle.decoder.specs.declared.Decoder.{Decoder}
use Rattle.decoder.specs.declared.Next.{Next}
use Rattle.decoder.specs.Judge.{decode_judge}
use Rattle.decoder.specs.State.{buffer_of, fields_buffer, Sound, NextIs, is_given, count_given, reply_given, search_of}
use Rattle.decoder.proofs.States.{holds, unread-length}
use Rattle.decoder.proofs.Judging.{decode-steady, decode-bounded}

-- where the search of u ended: so many bytes were moved over, and behind them a frame was found, or nothing
abbrev Ended : List ℕ → ℕ → Option ℕ → Type 0
Ended u over found = search_of u (over, found) ≡ search decode_judge u

-- what `seek` returned, by its variant
pub told : (u : List ℕ) (over : ℕ) (found variant : Option ℕ) → found ≡ variant → Ended u over found → Ended u over variant
told u over found variant e ended = subst (Ended u over) e ended

-- No more bytes are moved over than there are.
pub over_within : (u : List ℕ) (ended : ℕ × Option ℕ) → search_of u ended ≡ search decode_judge u → ended.0 ≤ length u
over_within u (over, Some count) e = omega (arith, found_within decode_judge decode-steady reply_in u over count e)
over_within u (over, None) e = nothing-within decode_judge decode-steady u over e

-- a decoder whose read position is further on
abbrev on : Decoder → (rpos handed passed : ℕ) → Bool → Decoder
on d rpos handed passed drained =
    record { buf = d.buf; rpos = rpos; wpos = d.wpos; fed = d.fed; handed = handed; passed = passed; cleared = d.cleared; drained = drained }

-- u are the unread bytes of a sound decoder, as they are lent
module _ (d : Decoder) (s : Sound d) (u : List ℕ) (lent : u ≡ (fields_buffer d).unread) where
  size : length u ≡ d.wpos - d.rpos
  size = ap length lent ∙ unread-length d s

  -- Its read position stays within, behind bytes moved over and behind a frame.
  pub over_room : (over : ℕ) (found : Option ℕ) → Ended u over found → d.rpos + over ≤ d.wpos
  over_room over found e = omega (arith, over_within u (over, found) e, size, s.low)

  pub found_room : (over count : ℕ) → Ended u over (Some count) → d.rpos + over + count ≤ d.wpos
  found_room over count e = omega (arith, found_within decode_judge decode-steady reply_in u over count e, size, s.low)

  module _ (self : Decoder) (held : fields_buffer d ≡ buffer_of self) where
    -- what `next` hands back, from where the search ended
    next-is : (t : Search CommandReply) → t ≡ search decode_judge u → (r : Next) → is_given r.given ≡ is_found t → count_given r.given ≡ size_found t
        → reply_given r.given ≡ reply_found empty_reply t → Sound r.decoder → fields_buffer r.decoder ≡ buffer_after t (fields_buffer d) → NextIs self r
    unfolding next_given next_count next_reply next_buffer
    next-is t e r given count reply sound after =
        let searched : t ≡ search decode_judge (buffer_of self).unread = e ∙ ap (search decode_judge) (lent ∙ ap (λ (l : Buffer). l.unread) held) in
        record {
          given = given ∙ ap is_found searched;
          count = count ∙ ap size_found searched;
          reply = reply ∙ ap (reply_found empty_reply) searched;
          after = holds _ r.decoder sound (after ∙ (λ i. buffer_after (searched i) (held i)));
        }

    -- n bytes further
    further-sound : (n rpos handed passed : ℕ) (drained : Bool) → rpos ≡ d.rpos + n → d.rpos + n ≤ d.wpos → (drained ≡ true → d.wpos - d.rpos ≤ n + 109)
        → Sound (on d rpos handed passed drained)
    further-sound n rpos handed passed drained at fits few =
        record { low = omega arith; high = s.high; long = s.long; few = λ q. omega (arith, few q) }

    further-unread : (n rpos : ℕ) → rpos ≡ d.rpos + n → slice rpos d.wpos d.buf ≡ drop n u
    further-unread n rpos at =
        ap (λ (k : ℕ). drop k (take d.wpos d.buf)) at ∙ sym (drop-drop n d.rpos (take d.wpos d.buf)) ∙ ap (drop n) (sym lent)

    pub next-found : (over count : ℕ) → Ended u over (Some count) → (reply : CommandReply) → reply ≡ reply_in (take (length u - over) (drop over u))
        → (handed passed : ℕ) → handed ≡ min (d.handed + count) top → passed ≡ min (d.passed + over) top
        → NextIs self (record { given = Some (count, reply); decoder = on d (d.rpos + over + count) handed passed false })
    unfolding raised
    next-found over count e reply is handed passed eh ep =
        let fits : d.rpos + (over + count) ≤ d.wpos = omega (arith, found_room over count e) in
        let at : d.rpos + over + count ≡ d.rpos + (over + count) = omega arith in
        next-is (found_at reply_in u over count) e _ refl refl (is ∙ ap reply_in (lent-rest u over))
        (further-sound (over + count) _ handed passed false at fits (λ q. absurd (true≢false (sym q))))
        (λ i.
        record {
          unread = further-unread (over + count) _ at i;
          wpos = d.wpos;
          fed = d.fed;
          handed = eh i;
          passed = ep i;
          cleared = d.cleared;
          drained = false;
        })

    pub next-nothing : (over : ℕ) → Ended u over None → (passed : ℕ) → passed ≡ min (d.passed + over) top
        → NextIs self (record { given = None; decoder = on d (d.rpos + over) d.handed passed true })
    unfolding raised
    next-nothing over e passed ep =
        let left = drop over u in
        let told : 110 ≤ length left → ⊥ = (λ q. decode-bounded.told left q (nothing-waits decode_judge decode-steady u over left (sym e))) in
        let few : d.wpos - d.rpos ≤ over + 109 = omega (arith, length-drop over u, size) in
        next-is (nothing_at u over) e _ refl refl refl
        (further-sound over _ d.handed passed true refl (over_room over None e) (λ q. few))
        (λ i.
        record {
          unread = further-unread over _ refl i;
          wpos = d.wpos;
          fed = d.fed;
          handed = d.handed;
          passed = ep i;
          cleared = d.cleared;
          drained = true;
        })
