-- The decoder's calls are what the laws of runs ask for.
use mathlib.Core.Path.{◌≡◌, refl, sym, ap, ◌∙◌, subst}
use mathlib.Core.List.{List, ◌++◌}
use mathlib.Core.Logic.{⊎_elim}
use mathlib.Core.Bool.{Bool, true, false, cond, ◌&&◌, true≢false}
use Prim.Native.Nat.{ℕ, ◌-◌, ◌<◌, ◌≤◌}
use native.Mathlib.Omega.{arith}
use borrow.Author.Tests.{ltb-false}
use lib.Dec.{ltb}
use lib.ListN.{length, take, drop, replicate, length-append, length-replicate, length-take, length-drop}
use lib.Seq.{take_at, drop_at, slice}
use Rattle.stream.specs.Reading.{not_yet}
use Rattle.stream.specs.Searching.{found, nothing}
use Rattle.refusals.specs.Answers.{place_or}
use Rattle.buffer.specs.Buffer.{Buffer, fresh, feed_count, fed_buffer, gateway_count, next_given, next_count, next_buffer}
use Rattle.buffer.proofs.Feeding.{Fits, Taken, feed-fits, taken-most, taken}
use Rattle.buffer.proofs.Nexts.{next-gives, next-nothing, nothing-count, nothing-reply, next_fits}
use Rattle.buffer.specs.Runs.{Answers, a-reply, no-reply}
use Rattle.buffer.proofs.Runs.{Searches, Faithful, Able, nothing-more}
use Rattle.buffer.specs.Runs as runs
use Rattle.buffer.specs.Runs.{Totals, with_feed, with_next, at_first, by-feed, by-reply, by-nothing}
use Rattle.buffer.proofs.Balance.{Tells, Telling, feed-tells, gateway-tells, next-tells}
use Rattle.reply.specs.Reply.{empty_reply}
use Rattle.decoder.specs.declared.Decoder.{Decoder}
use Rattle.decoder.specs.Judge.{decode_judge}
use Rattle.decoder.specs.State.{buffer_of, fields_buffer, Sound, BufferIs, held_of, figures_of}
use Rattle.decoder.specs.Runs.{calls_by, FeedTakes, GatewayTakes, EitherTakes, calls, Reached, figures_by}
use Rattle.decoder.proofs.Judging.{decode-steady, decode-bounded}
use Rattle.decoder.proofs.States.{holds}

abbrev pub unread : Decoder → List ℕ
unread d = (buffer_of d).unread

-- Every decoder holds a buffer that calls can make.
pub fits : (d : Decoder) → Fits (buffer_of d)
unfolding buffer_of
fits d = by (ltb 512 d.wpos) refl (ltb d.wpos d.rpos) d.drained refl (ltb 109 (d.wpos - d.rpos)) refl
  where
    none-there : Fits fresh
    none-there = record { low = omega arith; high = omega arith; few = λ q. omega arith }

    there : d.wpos ≤ 512 → (d.drained ≡ true → d.wpos - d.rpos ≤ 109) → Fits (fields_buffer d)
    there high few =
        let size = length-drop d.rpos (take d.wpos d.buf) in
        let most = length-take d.wpos d.buf in
        record { low = omega (arith, size, most); high = high; few = λ q. omega (arith, size, most, few q) }

    by : (a : Bool) → ltb 512 d.wpos ≡ a → (b m : Bool) → d.drained ≡ m → (k : Bool) → ltb 109 (d.wpos - d.rpos) ≡ k
        → Fits (cond a fresh (cond b fresh (cond (m && k) fresh (fields_buffer d))))
    by true e b m g k j = none-there
    by false e true m g k j = none-there
    by false e false true g true j = none-there
    by false e false true g false j = there (ltb-false _ _ e) (λ q. ltb-false _ _ j)
    by false e false false g k j = there (ltb-false _ _ e) (λ q. absurd (true≢false (sym q ∙ g)))

-- Every buffer that calls can make is held by a decoder: zeros around its unread bytes.
pub holder : (buffer : Buffer) → Fits buffer → (d : Decoder) × BufferIs buffer d
holder buffer f =
    let r = buffer.wpos - length buffer.unread in
    let front : List ℕ = replicate r 0 in
    let used = front ++ buffer.unread in
    let tail : List ℕ = replicate (512 - buffer.wpos) 0 in
    let d : Decoder = record { buf = used ++ tail; rpos = r; wpos = buffer.wpos; fed = buffer.fed; handed = buffer.handed; passed = buffer.passed; cleared = buffer.cleared; drained = buffer.drained } in
    let size : length used ≡ buffer.wpos = simp (length-append, length-replicate) (omega arith) in
    let long : length (used ++ tail) ≡ 512 = simp (length-append, length-replicate) (omega arith) in
    let bytes : slice r buffer.wpos (used ++ tail) ≡ buffer.unread = ap (drop r) (take_at used tail buffer.wpos size) ∙ drop_at front buffer.unread r (length-replicate r 0) in (
      d,
      holds buffer d (record { low = omega arith; high = f.high; long = long; few = λ q. omega (arith, f.low, f.few q) })
          (λ i. record { unread = bytes i; wpos = buffer.wpos; fed = buffer.fed; handed = buffer.handed; passed = buffer.passed; cleared = buffer.cleared; drained = buffer.drained }),
    )

-- `feed` of a piece with a byte, where `decode_judge` cannot tell more
takes-in : (d : Decoder) (piece : List ℕ) → decode_judge (unread d) ≡ not_yet → 0 < length piece → Taken (buffer_of d) piece
takes-in d piece waits some =
    let h : 110 ≤ length (unread d) → ⊥ = (λ q. decode-bounded.told (unread d) q waits) in
    taken (buffer_of d) piece some (omega arith)

-- ---- `next`, beside any feed

module _ (Piece : List ℕ → Type 0) (Feeds : Decoder → List ℕ → ℕ → Decoder → Type 0) where
  pub next-searches : Searches decode_judge (calls_by Piece Feeds) unread
  next-searches =
      record {
        gives = λ {s} is.
            let n = next-gives decode_judge empty_reply (buffer_of s) (sym is.given) in
            (n.0, n.1 ∙ sym (λ i. found n.0 (is.count i) (is.reply i) (is.after.is i).unread));
        nothing = λ {s} is.
            let n = next-nothing decode_judge empty_reply (buffer_of s) (sym is.given) in
            (n.0, n.1 ∙ ap (λ (l : Buffer). nothing n.0 l.unread) (sym is.after.is));
      }

  answers_by : (d : Decoder) (b : Bool) → next_given decode_judge (buffer_of d) ≡ b → (e : Decoder) → BufferIs (next_buffer decode_judge (buffer_of d)) e → Answers (calls_by Piece Feeds) d
  answers_by d true g e h = a-reply (record { given = sym g; count = refl; reply = refl; after = h })
  answers_by d false g e h = no-reply (record { given = sym g; count = sym (nothing-count decode_judge (buffer_of d) g); reply = sym (nothing-reply decode_judge empty_reply (buffer_of d) g); after = h })

  pub next-answers : (d : Decoder) → Answers (calls_by Piece Feeds) d
  next-answers d =
      let h = holder (next_buffer decode_judge (buffer_of d)) (next_fits decode_judge decode-steady decode-bounded (buffer_of d) (fits d)) in
      answers_by d (next_given decode_judge (buffer_of d)) refl h.0 h.1

-- ---- with the Rust's feed

-- ready for a piece is where `decode_judge` can't tell more
abbrev pub Waits : Decoder → Type 0
Waits d = decode_judge (unread d) ≡ not_yet

pub faithful : Faithful decode_judge calls unread Waits
faithful =
    record {
      next = next-searches _ _;
      fresh = λ h. ap (λ (l : Buffer). l.unread) h.is;
      first = λ h. ap (λ (l : Buffer). decode_judge l.unread) h.is ∙ decode-steady.empty;
      asked = nothing-more decode_judge decode-steady calls unread (next-searches _ _);
      feeds = λ {s} {t} {piece} waits some f.
          ap (λ (l : Buffer). l.unread) f.after.is ∙ (takes-in s piece waits some).keeps.unread ∙ ap (λ (k : ℕ). unread s ++ take k piece) (sym f.count);
      some = λ {s} {t} {piece} waits some f. rw f.count (takes-in s piece waits some).some;
      most = λ {s} {t} {piece} f. rw f.count (taken-most (buffer_of s) piece);
    }

-- Every `feed` can be answered.
pub feed-answers : (d : Decoder) (piece : List ℕ) → (e : Decoder) × FeedTakes d piece (feed_count (buffer_of d) piece) e
feed-answers d piece = let e = holder (fed_buffer (buffer_of d) piece) (feed-fits (buffer_of d) piece (fits d)) in (e.0, record { count = refl; after = e.1 })

pub a-fresh-one : (d : Decoder) × BufferIs fresh d
a-fresh-one = holder fresh (record { low = omega arith; high = omega arith; few = λ q. omega arith })

pub able : Able calls
able =
    record {
      first = a-fresh-one.0;
      fresh = a-fresh-one.1;
      piece = λ some. some;
      feeds = λ d piece. let e = feed-answers d piece in (feed_count (buffer_of d) piece, e.0, e.1);
      next = next-answers _ _;
    }

-- ---- the line figures, beside any pieces

-- what a call of `feed` or `next` did, by the count that it returned and the decoder
feed-did : (d e : Decoder) (piece : List ℕ) (n : ℕ) → FeedTakes d piece n e → (totals : Totals) → Tells totals (buffer_of d)
    → Tells (with_feed n (length (unread d)) (length (unread e)) totals) (buffer_of e)
feed-did d e piece n f totals t =
    subst (λ (T : Type 0). T) (sym (λ i. Tells (with_feed (f.count i) (length (unread d)) (length (f.after.is i).unread) totals) (f.after.is i)))
    (feed-tells totals (buffer_of d) piece t)

next-did : (d e : Decoder) (n : ℕ) → n ≡ next_count decode_judge (buffer_of d) → buffer_of e ≡ next_buffer decode_judge (buffer_of d) → (totals : Totals) → Tells totals (buffer_of d)
    → Tells (with_next n (length (unread d)) (length (unread e)) totals) (buffer_of e)
next-did d e n count after totals t =
    subst (λ (T : Type 0). T) (sym (λ i. Tells (with_next (count i) (length (unread d)) (length (after i).unread) totals) (after i)))
    (next-tells decode_judge decode-steady totals (buffer_of d) t)

gateway-did : (d e : Decoder) (piece : List ℕ) (n : ℕ) → GatewayTakes d piece n e → (totals : Totals) → Tells totals (buffer_of d)
    → Tells (with_feed n (length (unread d)) (length (unread e)) totals) (buffer_of e)
gateway-did d e piece n (answer, count, is) totals t =
    let same : n ≡ gateway_count (buffer_of d) piece = sym count ∙ ap (place_or 0) is.answer in
    subst (λ (T : Type 0). T) (sym (λ i. Tells (with_feed (same i) (length (unread d)) (length (is.after.is i).unread) totals) (is.after.is i)))
    (gateway-tells totals (buffer_of d) piece t)

pub telling : (Piece : List ℕ → Type 0) → Telling (calls_by Piece EitherTakes) buffer_of
telling Piece =
    record {
      fresh = λ h. h.is;
      feeds = λ {s} {t} {piece} {n} f. ⊎_elim (feed-did s t piece n) (gateway-did s t piece n) f;
      gives = λ {s} {t} {n} is. next-did s t n is.count is.after.is;
      nothing = λ {s} {t} is. next-did s t 0 is.count is.after.is;
    }

-- Calls of one feed are calls of either.
pub reached-either : {Piece : List ℕ → Type 0} {Feeds : Decoder → List ℕ → ℕ → Decoder → Type 0} {totals : Totals} {d : Decoder}
    → ((s t : Decoder) (piece : List ℕ) (n : ℕ) → Feeds s piece n t → EitherTakes s piece n t)
    → runs.Reached (calls_by Piece Feeds) unread totals d → Reached totals d
reached-either either (at_first first) = at_first first
reached-either either (by-feed reached feeds) = by-feed (reached-either either reached) (either _ _ _ _ feeds)
reached-either either (by-reply reached gave) = by-reply (reached-either either reached) gave
reached-either either (by-nothing reached none) = by-nothing (reached-either either reached) none

-- Every decoder that calls make is sound.
pub reached-sound : {totals : Totals} {d : Decoder} → Reached totals d → Sound d
reached-sound (at_first first) = first.sound
reached-sound (by-feed reached feeds) = ⊎_elim (λ f. f.after.sound) (λ f. f.2.after.sound) feeds
reached-sound (by-reply reached gave) = gave.after.sound
reached-sound (by-nothing reached none) = none.after.sound

pub figures-told : (totals : Totals) (buffer : Buffer) → Tells totals buffer → figures_of buffer ≡ figures_by totals (held_of buffer)
figures-told totals buffer t = λ i. record { fed = t.fed i; handed = t.handed i; passed = t.passed i; cleared = t.cleared i; held = held_of buffer }
