-- The gateway's calls, `gateway_feed` and `next`, are what the laws of runs ask for, and those of any order.
use mathlib.Core.Path.{◌≡◌, refl, sym, ap, ◌∙◌}
use mathlib.Core.Bool.{Bool, true, false, true≢false}
use mathlib.Core.List.{List, ◌++◌}
use Prim.Native.Nat.{ℕ, ◌-◌, ◌<◌}
use native.Mathlib.Omega.{arith}
use borrow.Author.Tests.{ltb-true, ltb-false, eqb-true, eqb-false}
use lib.Dec.{ltb, eqb}
use lib.ListN.{length, take}
use Rattle.refusals.specs.declared.FeedError.{FeedError}
use Rattle.refusals.specs.declared.FeedError.TheVariants.{NotDrained}
use Rattle.refusals.specs.Answers.{place_or}
use Rattle.buffer.specs.Buffer.{Buffer, gateway_answer, gateway_count, gateway_buffer}
use Rattle.buffer.specs.Runs.{AnyOrder, begins, feeds, gives_one, gives_none, cuts-anew, Totals, at_first, by-feed, by-reply, by-nothing}
use Rattle.buffer.proofs.Gateway.{gateway-empty, gateway-takes, gateway-refuses, gateway-fits, gateway-most, gateway-keeps, gateway-cleared, gateway-mark, never-clears}
use Rattle.buffer.proofs.Nexts.{next-mark, next-cleared}
use Rattle.buffer.proofs.Runs.{Faithful, Able}
use Rattle.buffer.proofs.AnyOrder.{Keeping}
use Rattle.reply.specs.declared.CommandReply.{CommandReply}
use Rattle.decoder.specs.declared.Decoder.{Decoder}
use Rattle.std.specs.Prelude.{Result, Ok, Err}
use Rattle.decoder.specs.Judge.{decode_judge}
use Rattle.decoder.specs.State.{buffer_of, Sound, BufferIs, taken_answer, GatewayFeedIs}
use Rattle.decoder.specs.Runs.{GatewayTakes, gateway_calls, GatewayReached}
use Rattle.decoder.proofs.States.{held_fields, marked-buffer}
use Rattle.decoder.proofs.Gateway.{gateway-stays, gateway_copied}
use Rattle.decoder.proofs.Runs.{unread, fits, holder, next-searches, next-answers, a-fresh-one}

abbrev pub marked : Decoder → Bool
marked d = (buffer_of d).drained

-- ready for a piece is a drained decoder
abbrev pub Drained : Decoder → Type 0
Drained d = marked d ≡ true

module _ (d e : Decoder) (piece : List ℕ) (n : ℕ) (f : GatewayTakes d piece n e) where
  pub took : n ≡ gateway_count (buffer_of d) piece
  took = sym f.1 ∙ ap (place_or 0) f.2.answer

  took-unread : unread e ≡ unread d ++ take n piece
  took-unread = ap (λ (l : Buffer). l.unread) f.2.after.is ∙ gateway-keeps (buffer_of d) piece ∙ ap (λ (k : ℕ). unread d ++ take k piece) (sym took)

  -- A mark that is there was there, and nothing changed.
  took-mark : marked e ≡ true → buffer_of e ≡ buffer_of d
  took-mark m = f.2.after.is ∙ gateway-mark (buffer_of d) piece (sym (ap (λ (l : Buffer). l.drained) f.2.after.is) ∙ m)

pub gateway-faithful : Faithful decode_judge gateway_calls unread Drained
gateway-faithful =
    record {
      next = next-searches _ _;
      fresh = λ h. ap (λ (l : Buffer). l.unread) h.is;
      first = λ h. ap (λ (l : Buffer). l.drained) h.is;
      asked = λ {s} is. ap (λ (l : Buffer). l.drained) is.after.is ∙ next-mark decode_judge (buffer_of s) false (sym is.given);
      feeds = λ {s} {t} {piece} {n} ready may f. took-unread s t piece n f;
      some = λ {s} {t} {piece} {n} ready some f.
          let never = never-clears (buffer_of s) piece ready ((fits s).few ready) some in
          omega (arith, took s t piece n f, ap (place_or 0) never.same_count, never.takes-some);
      most = λ {s} {t} {piece} {n} f. rw (took s t piece n f) (gateway-most (buffer_of s) piece);
    }

pub gateway-keeping : Keeping decode_judge gateway_calls unread marked
gateway-keeping =
    record {
      next = next-searches _ _;
      fresh = λ h. ap (λ (l : Buffer). l.unread) h.is;
      feeds = λ {s} {t} {piece} {n} f. took-unread s t piece n f;
      fed-mark = λ {s} {t} {piece} {n} f m.
          let same = took-mark s t piece n f m in
          (sym (ap (λ (l : Buffer). l.drained) same) ∙ m, ap (λ (l : Buffer). l.unread) same);
      reply-mark = λ {s} is m. true≢false (sym m ∙ ap (λ (l : Buffer). l.drained) is.after.is ∙ next-mark decode_judge (buffer_of s) true (sym is.given));
    }

-- ---- every call can be answered

-- The decoder that a call hands back where nothing changes: the same one, or for one that no calls can make another with the buffer that it is taken for.
record Kept (d : Decoder) : Type 0 where
  after : Decoder
  is : BufferIs (buffer_of d) after
  same : Sound d → after ≡ d

kept : (d : Decoder) → Kept d
kept d = by (ltb 512 d.wpos) refl (ltb d.wpos d.rpos) refl (eqb (length d.buf) 512) refl d.drained refl (ltb 109 (d.wpos - d.rpos)) refl
  where
    other : (Sound d → ⊥) → Kept d
    other never = let h = holder (buffer_of d) (fits d) in record { after = h.0; is = h.1; same = λ s. absurd (never s) }

    itself : Sound d → Kept d
    itself s = record { after = d; is = record { is = refl; sound = s }; same = λ t. refl }

    by : (a : Bool) → ltb 512 d.wpos ≡ a → (b : Bool) → ltb d.wpos d.rpos ≡ b → (l : Bool) → eqb (length d.buf) 512 ≡ l
        → (m : Bool) → d.drained ≡ m → (k : Bool) → ltb 109 (d.wpos - d.rpos) ≡ k → Kept d
    by true e b f l g m h k i = let past : 512 < d.wpos = ltb-true _ _ e in other (λ s. omega (arith, s.high))
    by false e true f l g m h k i = let past : d.wpos < d.rpos = ltb-true _ _ f in other (λ s. omega (arith, s.low))
    by false e false f false g m h k i = other (λ s. eqb-false _ _ g s.long)
    by false e false f true g true h true i = let many : 109 < d.wpos - d.rpos = ltb-true _ _ i in other (λ s. omega (arith, s.few h))
    by false e false f true g true h false i =
        itself (record { low = ltb-false _ _ f; high = ltb-false _ _ e; long = eqb-true _ _ g; few = λ q. ltb-false _ _ i })
    by false e false f true g false h k i =
        itself (record { low = ltb-false _ _ f; high = ltb-false _ _ e; long = eqb-true _ _ g; few = λ q. absurd (true≢false (sym q ∙ h)) })

-- Every `gateway_feed` can be answered.
pub gateway-answers : (d : Decoder) (piece : List ℕ) → (e : Decoder) × GatewayTakes d piece (gateway_count (buffer_of d) piece) e
gateway-answers d piece = by (eqb (length piece) 0) refl (marked d) refl
  where
    answered : (answer : Result ℕ FeedError) (e : Decoder) → GatewayFeedIs d piece (record { answer = answer; decoder = e }) → (e : Decoder) × GatewayTakes d piece (gateway_count (buffer_of d) piece) e
    answered answer e is = (e, (answer, ap (place_or 0) is.answer, is))

    stays : (answer : Result ℕ FeedError) → (gateway_answer (buffer_of d) piece ≡ taken_answer answer) × (gateway_buffer (buffer_of d) piece ≡ buffer_of d)
        → (e : Decoder) × GatewayTakes d piece (gateway_count (buffer_of d) piece) e
    stays answer g = let k = kept d in answered answer k.after (gateway-stays d piece answer k.after k.is.sound (held_fields _ k.after k.is) k.same g)

    by : (a : Bool) → eqb (length piece) 0 ≡ a → (m : Bool) → marked d ≡ m → (e : Decoder) × GatewayTakes d piece (gateway_count (buffer_of d) piece) e
    by true e m h = stays (Ok 0) (gateway-empty (buffer_of d) piece e)
    by false e true h =
        let k = holder (gateway_buffer (buffer_of d) piece) (gateway-fits (buffer_of d) piece (fits d)) in
        let g = gateway-takes (buffer_of d) piece e h in
        answered _ k.0 (gateway_copied d piece _ k.0 e h refl refl k.1.sound (held_fields _ k.0 k.1 ∙ g.1))
    by false e false h = stays (Err NotDrained) (gateway-refuses (buffer_of d) piece e h)

pub gateway-able : Able gateway_calls
gateway-able =
    record {
      first = a-fresh-one.0;
      fresh = a-fresh-one.1;
      piece = λ some. tt;
      feeds = λ d piece. let e = gateway-answers d piece in (gateway_count (buffer_of d) piece, e.0, e.1);
      next = next-answers _ _;
    }

-- ---- the decoders that these calls make

-- They are sound, so that their own mark is the buffer's.
any-sound : {Free : Type 0} {pieces ahead : List (List ℕ)} {taken : List ℕ} {replies : List CommandReply} {d : Decoder}
    → AnyOrder gateway_calls Free pieces ahead taken replies d → Sound d
any-sound (begins first) = first.sound
any-sound (feeds order fed) = fed.2.after.sound
any-sound (gives_one order gave) = gave.after.sound
any-sound (gives_none order none) = none.after.sound
any-sound (cuts-anew other may order same) = any-sound order

pub any-mark : {Free : Type 0} {pieces ahead : List (List ℕ)} {taken : List ℕ} {replies : List CommandReply} {d : Decoder}
    → AnyOrder gateway_calls Free pieces ahead taken replies d → d.drained ≡ marked d
any-mark {d = d} order = marked-buffer d _ (record { is = refl; sound = any-sound order })

pub any-reached : {Free : Type 0} {pieces ahead : List (List ℕ)} {taken : List ℕ} {replies : List CommandReply} {d : Decoder}
    → AnyOrder gateway_calls Free pieces ahead taken replies d → (totals : Totals) × GatewayReached totals d
any-reached (begins first) = (_, at_first first)
any-reached (feeds order fed) = (_, by-feed (any-reached order).1 fed)
any-reached (gives_one order gave) = (_, by-reply (any-reached order).1 gave)
any-reached (gives_none order none) = (_, by-nothing (any-reached order).1 none)
any-reached (cuts-anew other may order same) = any-reached order

-- None of these calls clears a byte.
pub reached-cleared : {totals : Totals} {d : Decoder} → GatewayReached totals d → (buffer_of d).cleared ≡ 0
reached-cleared (at_first first) = ap (λ (l : Buffer). l.cleared) first.is
reached-cleared (by-feed {s = s} {piece = piece} reached fed) =
    ap (λ (l : Buffer). l.cleared) fed.2.after.is ∙ gateway-cleared (buffer_of s) piece ∙ reached-cleared reached
reached-cleared (by-reply {s = s} reached gave) = ap (λ (l : Buffer). l.cleared) gave.after.is ∙ next-cleared decode_judge (buffer_of s) ∙ reached-cleared reached
reached-cleared (by-nothing {s = s} reached none) = ap (λ (l : Buffer). l.cleared) none.after.is ∙ next-cleared decode_judge (buffer_of s) ∙ reached-cleared reached
