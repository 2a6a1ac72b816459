-- The old loss happens, and its twin does not.
use mathlib.Core.Path.{◌≡◌, refl, sym, ap, ◌∙◌}
use mathlib.Core.Bool.{false}
use mathlib.Core.Logic.{inl, inr}
use mathlib.Core.List.{List, [], ◌∷◌}
use Prim.Native.Nat.{ℕ}
use native.Mathlib.Omega.{arith}
use lib.ListN.{length}
use Rattle.judge.proofs.ResetStats.{front-waits}
use Rattle.stream.specs.Reading.{moves_on, stops, read_all}
use Rattle.stream.proofs.Turns.{idle, at-noise}
use Rattle.buffer.specs.Buffer.{Buffer, feed_count, fed_buffer, gateway_count, gateway_buffer}
use Rattle.buffer.specs.Runs as runs
use Rattle.buffer.specs.Runs.{Totals}
use Rattle.buffer.proofs.Nexts.{next-wpos, next-mark}
use Rattle.buffer.proofs.Loss.{Cut, Feeding, read_whole, lost, kept}
use Rattle.buffer.proofs.Balance.{reached-tells}
use Rattle.reply.specs.Reply.{reply_of}
use Rattle.decoder.specs.declared.Decoder.{Decoder}
use Rattle.decoder.specs.Judge.{decode_judge}
use Rattle.decoder.specs.Runs.{calls_by, FeedTakes, GatewayTakes, EitherTakes, gateway_calls, figures_by}
use Rattle.decoder.specs.State.{buffer_of, figures_of}
use Rattle.decoder.specs.OldLoss.{old_lost, any_calls, OldLoss, NoLoss}
use Rattle.decoder.proofs.Judging.{decode-steady, decode-waits, decode-noise, reset-stats}
use Rattle.decoder.proofs.Runs.{unread, next-searches, next-answers, feed-answers, a-fresh-one, telling, reached-either, figures-told}
use Rattle.decoder.proofs.GatewayRuns.{gateway-answers}

-- a byte other than 2 is moved over
noise : (x : ℕ) (l : List ℕ) → (x ≡ 2 → ⊥) → decode_judge (x ∷ l) ≡ moves_on
noise x l differs = decode-noise (x ∷ l) (omega arith) differs

-- the frame's rest alone is noise
rest-alone : read_all decode_judge (129 ∷ 169 ∷ 3 ∷ []) ≡ stops []
rest-alone =
    at-noise decode_judge decode-steady 0 (129 ∷ 169 ∷ 3 ∷ []) (noise 129 _ (λ e. omega arith))
    ∙ at-noise decode_judge decode-steady 1 (169 ∷ 3 ∷ []) (noise 169 _ (λ e. omega arith))
    ∙ at-noise decode_judge decode-steady 2 (3 ∷ []) (noise 3 _ (λ e. omega arith))
    ∙ idle decode_judge decode-steady 3 [] decode-steady.empty

cut : Cut decode_judge 509 0 old_lost (129 ∷ 169 ∷ 3 ∷ []) (reply_of (129 ∷ []))
cut =
    record {
      quiet = λ l. noise 0 l (λ e. omega arith);
      full = refl;
      waits = decode-waits old_lost front-waits;
      stands = reset-stats;
      short = omega arith;
      useless = rest-alone;
    }

-- with either feed
feeding-by : (Feeds : Decoder → List ℕ → ℕ → Decoder → Type 0) (count : Buffer → List ℕ → ℕ) (after-feed : Buffer → List ℕ → Buffer)
    → ((d : Decoder) (piece : List ℕ) → (e : Decoder) × Feeds d piece (count (buffer_of d) piece) e × (buffer_of e ≡ after-feed (buffer_of d) piece))
    → Feeding (calls_by (λ piece. Unit) Feeds) buffer_of count after-feed
feeding-by Feeds count after-feed answers =
    record {
      first = a-fresh-one.0;
      begins = a-fresh-one.1;
      fresh = a-fresh-one.1.is;
      any = λ piece. tt;
      feeds = answers;
      answers = next-answers _ _;
      drains = λ {s} is. ap (λ (l : Buffer). l.drained) is.after.is ∙ next-mark decode_judge (buffer_of s) false (sym is.given);
      gives = λ {s} is. ap (λ (l : Buffer). l.wpos) is.after.is ∙ next-wpos decode_judge (buffer_of s);
      nothing = λ {s} is. ap (λ (l : Buffer). l.wpos) is.after.is ∙ next-wpos decode_judge (buffer_of s);
    }

-- The figures of a decoder that calls of one feed made, where nothing is unread.
figures-of : {Feeds : Decoder → List ℕ → ℕ → Decoder → Type 0} {totals : Totals} (d : Decoder) → ((s t : Decoder) (piece : List ℕ) (n : ℕ) → Feeds s piece n t → EitherTakes s piece n t)
    → runs.Reached (calls_by (λ piece. Unit) Feeds) unread totals d → (buffer_of d).unread ≡ [] → figures_of (buffer_of d) ≡ figures_by totals 0
figures-of {totals = totals} d either reached none =
    figures-told totals (buffer_of d) (reached-tells _ buffer_of (telling _) (reached-either either reached)) ∙ ap (λ (l : List ℕ). figures_by totals (length l)) none

pub the-old-loss : OldLoss
the-old-loss =
    let feeding = feeding-by FeedTakes feed_count fed_buffer (λ d piece. let e = feed-answers d piece in (e.0, e.1, e.1.after.is)) in
    let end =
    (lost decode_judge decode-steady 509 0 old_lost (129 ∷ 169 ∷ 3 ∷ []) (reply_of (129 ∷ [])) cut any_calls buffer_of (next-searches _ _) feed_count fed_buffer feeding
    (λ buffer piece. (refl, refl))).1 in
    record {
      read = read_whole decode_judge decode-steady 509 0 old_lost (129 ∷ 169 ∷ 3 ∷ []) (reply_of (129 ∷ [])) cut;
      lost = (
        end.state,
        end.run,
        figures-of end.state (λ s t piece n. inl) end.reached end.holds,
      );
    }

pub no-loss : NoLoss
no-loss =
    let feeding = feeding-by GatewayTakes gateway_count gateway_buffer (λ d piece. let e = gateway-answers d piece in (e.0, e.1, e.1.2.after.is)) in
    let end =
    kept decode_judge decode-steady 509 0 old_lost (129 ∷ 169 ∷ 3 ∷ []) (reply_of (129 ∷ [])) cut gateway_calls buffer_of (next-searches _ _) gateway_count gateway_buffer feeding
    (λ buffer piece. (refl, refl)) (omega arith) (omega arith) (omega arith) in
    record { kept = (end.state, end.run, figures-of end.state (λ s t piece n. inr) end.reached end.holds) }
