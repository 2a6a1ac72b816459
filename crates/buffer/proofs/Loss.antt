-- The old loss. Document 01: `feed` clears "on an empty piece when the tail is full, even if most bytes were read". So a run with one empty
-- piece can lose a frame that the reading gives, and demand 3 speaks of nonempty pieces. What was lost is what was cleared. The same pieces through
-- the gateway feed lose nothing. Over any judge.
use mathlib.Core.Path.{◌≡◌, refl, sym, ap, ◌∙◌, subst}
use mathlib.Core.List.{List, [], ◌∷◌, ◌++◌, append_assoc, append-nil}
use mathlib.Core.Bool.{true}
use Prim.Native.Nat.{ℕ, zero, suc, ◌+◌, ◌<◌, ◌≤◌}
use native.Mathlib.Omega.{arith}
use native.Mathlib.Nat.{zero-add}
use lib.ListN.{length, take, drop, replicate, length-append, length-replicate}
use lib.Seq.{take-length, drop-length}
use Rattle.stream.specs.Reading.{good, not_yet, moves_on, Judge, Reading, Steady, stops, frame_then, read_from, read_all, replies_of, joined}
use Rattle.stream.specs.Searching.{size_found, search}
use Rattle.stream.proofs.Turns.{idle, at-good-frame, at-noise}
use Rattle.stream.proofs.Search.{rest_of, search-good}
use Rattle.refusals.specs.Answers.{place_or}
use Rattle.buffer.specs.Buffer.{Buffer, fresh, feed_count, fed_buffer, gateway_count, gateway_buffer}
use Rattle.buffer.specs.Runs as runs
use Rattle.buffer.specs.Runs.{Calls, again, Asked, Run, starts, offers, Answers, Totals, none_yet, with_feed, with_next, Reached, at_first, by-feed, by-reply, by-nothing}
use Rattle.buffer.proofs.Feeding.{empty-clears, empty-takes}
use Rattle.buffer.proofs.Gateway.{gateway-empty, gateway-whole, never-clears}
use Rattle.buffer.proofs.Runs.{Searches, run-front, asked-comes, asked_of, asking-ends}

-- a stream that is cut so: noise and the front of a frame fill the buffer, and its back comes behind an empty piece
pub record Cut {R : Type 0} (judge : Judge R) (k noise : ℕ) (front back : List ℕ) (r : R) : Type 0 where
  pub quiet : (l : List ℕ) → judge (noise ∷ l) ≡ moves_on
  pub full : k + length front ≡ 512
  pub waits : judge front ≡ not_yet
  pub stands : judge (front ++ back) ≡ good (length (front ++ back)) r
  pub short : length back ≤ 512
  -- the back alone is no frame
  pub useless : read_all judge back ≡ stops []

abbrev pub cut_pieces : ℕ → ℕ → List ℕ → List ℕ → List (List ℕ)
cut_pieces k noise front back = (replicate k noise ++ front) ∷ [] ∷ back ∷ []

-- a decoder whose `feed`, of any piece, takes `count` bytes and leaves `fed`
pub record Feeding {R : Type 0} (calls : Calls R) (buffer_of : calls.State → Buffer) (count : Buffer → List ℕ → ℕ) (fed : Buffer → List ℕ → Buffer) : Type 0 where
  pub first : calls.State
  pub begins : calls.Fresh first
  pub fresh : buffer_of first ≡ fresh
  pub any : (piece : List ℕ) → calls.Piece piece
  pub feeds : (s : calls.State) (piece : List ℕ) → (t : calls.State) × calls.Feeds s piece (count (buffer_of s) piece) t × (buffer_of t ≡ fed (buffer_of s) piece)
  pub answers : (s : calls.State) → Answers calls s
  pub drains : {s t : calls.State} → calls.GivesNothing s t → (buffer_of t).drained ≡ true
  pub gives : {s t : calls.State} {n : ℕ} {reply : R} → calls.Gives s n reply t → (buffer_of t).wpos ≡ (buffer_of s).wpos
  pub nothing : {s t : calls.State} → calls.GivesNothing s t → (buffer_of t).wpos ≡ (buffer_of s).wpos

-- what the calls of the Rust's `feed` then did in all: of the stream's bytes the front was cleared, and all others were moved over
abbrev pub cut_totals : ℕ → List ℕ → List ℕ → Totals
cut_totals k front back = record { bytes_copied = k + length front + length back; bytes_given = 0; bytes_moved_over = k + length back; bytes_cleared = length front }

-- and those of the gateway feed: the frame was given, and only the noise was moved over
abbrev pub kept_totals : ℕ → List ℕ → List ℕ → Totals
kept_totals k front back = record { bytes_copied = k + length front + length back; bytes_given = length (front ++ back); bytes_moved_over = k; bytes_cleared = 0 }

-- Two totals with the same fields.
totals-same : (a b : Totals) → a.bytes_copied ≡ b.bytes_copied → a.bytes_given ≡ b.bytes_given → a.bytes_moved_over ≡ b.bytes_moved_over → a.bytes_cleared ≡ b.bytes_cleared → a ≡ b
totals-same a b c g m d = λ i. record { bytes_copied = c i; bytes_given = g i; bytes_moved_over = m i; bytes_cleared = d i }

-- Where no reply came, `next` gave nothing at once.
asked-none : {R : Type 0} {calls : Calls R} {s u : calls.State} {replies : List R} → Asked calls s replies u → replies ≡ [] → calls.GivesNothing s u
asked-none (runs.ends none) e = none
asked-none (runs.gives gave asked) e = let z = ap (λ (l : List _). length l) e in absurd (omega arith)

-- What is given where one reply came: it, and then nothing.
record GaveOne {R : Type 0} (calls : Calls R) (s u : calls.State) (r : R) : Type 0 where
  between : calls.State
  size : ℕ
  gave : calls.Gives s size r between
  none : calls.GivesNothing between u

asked-one : {R : Type 0} {calls : Calls R} {s u : calls.State} {replies : List R} {r : R} → Asked calls s replies u → replies ≡ r ∷ [] → GaveOne calls s u r
asked-one (runs.ends none) e = let z = ap (λ (l : List _). length l) e in absurd (omega arith)
asked-one {R} {calls} {s} {r = r} (runs.gives {t = t} {n = n} {reply = reply} {replies = replies} gave asked) e =
    let same : reply ≡ r = cc in
    let others : replies ≡ [] = cc in
    record { between = t; size = n; gave = subst (λ (x : R). calls.Gives s n x t) same gave; none = asked-none asked others }

module _ {R : Type 0} (judge : Judge R) (steady : Steady judge) (k noise : ℕ) (front back : List ℕ) (r : R) (cut : Cut judge k noise front back r) where
  -- bytes that are moved over, wherever they stand
  noise-passed : (k place : ℕ) (l : List ℕ) → read_from judge place (replicate k noise ++ l) ≡ read_from judge (place + k) l
  noise-passed zero place l = ap (λ (at : ℕ). read_from judge at l) (omega arith)
  noise-passed (suc k) place l =
      let at : place + 1 + k ≡ place + suc k = omega arith in
      at-noise judge steady place (noise ∷ (replicate k noise ++ l)) (cut.quiet _) ∙ noise-passed k (place + 1) l ∙ ap (λ (at : ℕ). read_from judge at l) at

  -- The frame alone, wherever it stands.
  read-frame : (place : ℕ) → read_from judge place (front ++ back) ≡ frame_then (record { place = place; size = length (front ++ back); reply = r }) (stops [])
  read-frame place =
      let frame = front ++ back in
      at-good-frame judge steady place frame (length frame) r cut.stands
      ∙ ap (frame_then (record { place = place; size = length frame; reply = r }))
      (ap (read_from judge (place + length frame)) (drop-length frame) ∙ idle judge steady (place + length frame) [] steady.empty)

  -- The reading of the uncut stream gives the frame, and nothing else.
  pub read_whole : (read_all judge (joined (cut_pieces k noise front back))).frames ≡ record { place = k; size = length (front ++ back); reply = r } ∷ []
  read_whole =
      ap (λ (o : Reading R). o.frames)
      (
      ap (λ (l : List ℕ). read_all judge ((replicate k noise ++ front) ++ l)) (append-nil back) ∙ ap (read_all judge) (append_assoc (replicate k noise) front back)
      ∙ noise-passed k 0 (front ++ back) ∙ ap (λ (at : ℕ). read_from judge at (front ++ back)) (zero-add k) ∙ read-frame k
      )

  module _ (calls : Calls R) (buffer_of : calls.State → Buffer) (next : Searches judge calls (λ s. (buffer_of s).unread))
      (count : Buffer → List ℕ → ℕ) (after-feed : Buffer → List ℕ → Buffer) (feeding : Feeding calls buffer_of count after-feed) where
    asked-wpos : {s u : calls.State} {replies : List R} → Asked calls s replies u → (buffer_of u).wpos ≡ (buffer_of s).wpos
    asked-wpos (runs.ends none) = feeding.nothing none
    asked-wpos (runs.gives gave asked) = asked-wpos asked ∙ feeding.gives gave

    -- a run that gave nothing so far
    pub record Quiet (ahead : List (List ℕ)) (taken unread : List ℕ) (wpos : ℕ) (totals : Totals) : Type 0 where
      pub state : calls.State
      pub run : Run calls ⊥ (cut_pieces k noise front back) ahead taken [] state
      pub holds : (buffer_of state).unread ≡ unread
      pub at : (buffer_of state).wpos ≡ wpos
      pub drained : (buffer_of state).drained ≡ true
      pub reached : Reached calls (λ s. (buffer_of s).unread) totals state

    abbrev totals_in : {ahead : List (List ℕ)} {taken unread : List ℕ} {wpos : ℕ} {totals : Totals} → Quiet ahead taken unread wpos totals → Totals
    totals_in {totals = totals} q = totals

    same-run : {s : calls.State} {pieces ahead ahead' : List (List ℕ)} {taken taken' : List ℕ} {replies replies' : List R} → ahead ≡ ahead' → taken ≡ taken' → replies ≡ replies'
        → Run calls ⊥ pieces ahead taken replies s → Run calls ⊥ pieces ahead' taken' replies' s
    same-run {s} {pieces} a t r run = subst (λ (T : Type 0). T) (λ i. Run calls ⊥ pieces (a i) (t i) (r i) s) run

    -- a piece that is taken at once, and gives nothing
    once : {ahead : List (List ℕ)} {taken unread : List ℕ} {wpos : ℕ} {totals : Totals} (piece l rest : List ℕ) (w : ℕ) (q : Quiet (piece ∷ ahead) taken unread wpos totals)
        → (let buffer = buffer_of q.state in (count buffer piece ≡ length piece) × ((after-feed buffer piece).unread ≡ l) × ((after-feed buffer piece).wpos ≡ w))
        → read_all judge l ≡ stops rest
        → Quiet ahead (taken ++ piece) rest w (with_next 0 (length l) (length rest) (with_feed (length piece) (length unread) (length l) totals))
    once {ahead} {taken} {totals = totals} piece l rest w q h e =
        let f = feeding.feeds q.state piece in
        let a = asked_of (asking-ends judge steady calls (λ s. (buffer_of s).unread) next feeding.answers f.0) in
        let c = asked-comes judge steady calls (λ s. (buffer_of s).unread) next a.2 in
        let fed : (buffer_of f.0).unread ≡ l = ap (λ (m : Buffer). m.unread) f.2 ∙ h.1 in
        let left : (buffer_of a.1).unread ≡ rest = c.same_rest 0 ∙ ap (λ (x : Reading R). x.rest) (ap (read_all judge) fed ∙ e) in
        let none : a.0 ≡ [] = c.same-replies 0 ∙ ap (λ (x : Reading R). replies_of x.frames) (ap (read_all judge) fed ∙ e) in
        record {
          state = a.1;
          run =
              same-run (ap (λ (n : ℕ). again (drop n piece) ahead) h.0 ∙ ap (λ (m : List ℕ). again m ahead) (drop-length piece))
              (ap (λ (n : ℕ). taken ++ take n piece) h.0 ∙ ap (λ (m : List ℕ). taken ++ m) (take-length piece))
              none
              (offers q.run (feeding.any piece) f.1 a.2);
          holds = left;
          at = asked-wpos a.2 ∙ ap (λ (m : Buffer). m.wpos) f.2 ∙ h.2;
          drained = feeding.drains (asked-none a.2 none);
          reached =
              subst (λ (x : Totals). Reached calls (λ s. (buffer_of s).unread) x a.1)
              (λ i. with_next 0 (length (fed i)) (length (left i)) (with_feed (h.0 i) (length (q.holds i)) (length (fed i)) totals))
              (by-nothing (by-feed q.reached f.1) (asked-none a.2 none));
        }

    -- before the first call
    no_call : Quiet (cut_pieces k noise front back) [] [] 0 none_yet
    no_call =
        let start = feeding.fresh in
        record {
          state = feeding.first;
          run = starts feeding.begins;
          holds = ap (λ (m : Buffer). m.unread) start;
          at = ap (λ (m : Buffer). m.wpos) start;
          drained = ap (λ (m : Buffer). m.drained) start;
          reached = at_first feeding.begins;
        }

    first-size : length (replicate k noise ++ front) ≡ 512
    first-size = length-append (replicate k noise) front ∙ ap (λ (n : ℕ). n + length front) (length-replicate k noise) ∙ cut.full

    first_read : read_all judge (replicate k noise ++ front) ≡ stops front
    first_read = noise-passed k 0 front ∙ idle judge steady (0 + k) front cut.waits

    -- The run is at its end.
    at-end : {taken : List ℕ} {replies : List R} {s : calls.State} → Run calls ⊥ (cut_pieces k noise front back) [] taken replies s
        → Run calls ⊥ (cut_pieces k noise front back) [] (joined (cut_pieces k noise front back)) replies s
    at-end {s = s} run = same-run {s = s} refl (sym (run-front {s = s} run ∙ append-nil _)) refl run

    -- what a `feed` did, by what `count` and `after-feed` are of the buffer and the piece
    did-by : {c n w : ℕ} {l : List ℕ} {m : Buffer} (buffer : Buffer) (piece : List ℕ) → (count buffer piece ≡ c) × (after-feed buffer piece ≡ m)
        → (c ≡ n) × (m.unread ≡ l) × (m.wpos ≡ w) → (count buffer piece ≡ n) × ((after-feed buffer piece).unread ≡ l) × ((after-feed buffer piece).wpos ≡ w)
    did-by buffer piece (c, m) h = (c ∙ h.0, ap (λ (x : Buffer). x.unread) m ∙ h.1, ap (λ (x : Buffer). x.wpos) m ∙ h.2)

    -- With the Rust's `feed`: a run of the pieces takes the whole stream, gives nothing at all, and clears just the front.
    pub lost : ((buffer : Buffer) (piece : List ℕ) → (count buffer piece ≡ feed_count buffer piece) × (after-feed buffer piece ≡ fed_buffer buffer piece))
        → (w : ℕ) × Quiet [] (joined (cut_pieces k noise front back)) [] w (cut_totals k front back)
    lost rust =
        let first = replicate k noise ++ front in
        let size = first-size in
        let one = once first first front (length first) no_call (did-by _ first (rust _ first) (empty-takes _ first no_call.holds no_call.at (omega arith))) first_read in
        let two = once [] [] [] 0 one (did-by _ [] (rust _ []) (empty-clears _ (one.at ∙ size))) (idle judge steady 0 [] steady.empty) in
        let three = once back back [] (length back) two (did-by _ back (rust _ back) (empty-takes _ back two.holds two.at cut.short)) cut.useless in
        let did = totals-same (totals_in three) (cut_totals k front back) (omega (arith, size, cut.full)) refl (omega (arith, size, cut.full)) (omega arith) in (
          length back,
          record {
            state = three.state;
            run = at-end three.run;
            holds = three.holds;
            at = three.at;
            drained = three.drained;
            reached = subst (λ (x : Totals). Reached calls (λ s. (buffer_of s).unread) x three.state) did three.reached;
          },
        )

    -- a run of the pieces that gave the frame, and nothing else
    pub record Kept : Type 0 where
      pub state : calls.State
      pub run : Run calls ⊥ (cut_pieces k noise front back) [] (joined (cut_pieces k noise front back)) (r ∷ []) state
      pub holds : (buffer_of state).unread ≡ []
      pub reached : Reached calls (λ s. (buffer_of s).unread) (kept_totals k front back) state

    -- the piece that brings the frame's back: the frame is given, and then nothing
    third : {taken : List ℕ} {totals : Totals} (q : Quiet (back ∷ []) taken front 512 totals)
        → (let buffer = buffer_of q.state in (count buffer back ≡ length back) × ((after-feed buffer back).unread ≡ front ++ back))
        → totals.bytes_copied ≡ 512 → totals.bytes_given ≡ 0 → totals.bytes_moved_over ≡ k → totals.bytes_cleared ≡ 0 → Kept
    third {totals = totals} q h copied-so given_so over-so cleared-so =
        let frame = front ++ back in
        let f = feeding.feeds q.state back in
        let fed : (buffer_of f.0).unread ≡ frame = ap (λ (m : Buffer). m.unread) f.2 ∙ h.1 in
        let a = asked_of (asking-ends judge steady calls (λ s. (buffer_of s).unread) next feeding.answers f.0) in
        let c = asked-comes judge steady calls (λ s. (buffer_of s).unread) next a.2 in
        let read = ap (read_all judge) fed ∙ read-frame 0 in
        let gave : a.0 ≡ r ∷ [] = c.same-replies 0 ∙ ap (λ (x : Reading R). replies_of x.frames) read in
        let left : (buffer_of a.1).unread ≡ [] = c.same_rest 0 ∙ ap (λ (x : Reading R). x.rest) read in
        let one = asked-one a.2 gave in
        let found_it = sym (ap (search judge) (sym fed) ∙ (next.gives one.gave).1) ∙ search-good judge steady frame (length frame) r cut.stands in
        let size : one.size ≡ length frame = ap size_found found_it in
        let between : (buffer_of one.between).unread ≡ [] = ap rest_of found_it ∙ drop-length frame in
        let did =
        totals-same
        (with_next 0 0 0 (with_next (length frame) (length frame) 0 (with_feed (length back) (length front) (length frame) totals)))
        (kept_totals k front back)
        (omega (arith, cut.full))
        (omega arith)
        (omega arith)
        (omega (arith, length-append front back)) in
        record {
          state = a.1;
          run =
              at-end
              (same-run (ap (λ (n : ℕ). again (drop n back) []) h.0 ∙ ap (λ (m : List ℕ). again m []) (drop-length back)) refl gave
              (offers q.run (feeding.any back) f.1 a.2));
          holds = left;
          reached =
              subst (λ (x : Totals). Reached calls (λ s. (buffer_of s).unread) x a.1)
              ((λ i. with_next 0 (length (between i)) (length (left i)) (with_next (size i) (length (fed i)) (length (between i)) (with_feed (h.0 i) (length (q.holds i)) (length (fed i)) totals))) ∙ did)
              (by-nothing (by-reply (by-feed q.reached f.1) one.gave) one.none);
        }

    -- With the gateway feed: a run of the same pieces takes the whole stream, gives the frame, and clears nothing.
    pub kept : ((buffer : Buffer) (piece : List ℕ) → (count buffer piece ≡ gateway_count buffer piece) × (after-feed buffer piece ≡ gateway_buffer buffer piece))
        → length front ≤ 109 → 0 < length back → length (front ++ back) ≤ 512 → Kept
    kept gateway few some room =
        let first = replicate k noise ++ front in
        let size = first-size in
        let start = buffer_of no_call.state in
        let never = never-clears start first no_call.drained (omega (arith, ap (λ (l : List ℕ). length l) no_call.holds)) (omega arith) in
        let g = gateway start first in
        let by-feed : (count start first ≡ feed_count start first) × (after-feed start first ≡ fed_buffer start first) =
        (g.0 ∙ ap (place_or 0) never.same_count, g.1 ∙ never.same-buffer) in
        let one = once first first front (length first) no_call (did-by start first by-feed (empty-takes start first no_call.holds no_call.at (omega arith))) first_read in
        let e = gateway-empty (buffer_of one.state) [] refl in
        let h = gateway (buffer_of one.state) [] in
        let two = once [] front front 512 one
        (did-by _ [] (h.0 ∙ ap (place_or 0) e.0, h.1 ∙ e.1) (refl, one.holds, one.at ∙ size))
        (idle judge steady 0 front cut.waits) in
        let j = gateway (buffer_of two.state) back in
        let w = gateway-whole (buffer_of two.state) back two.drained two.at some (omega (arith, ap (λ (l : List ℕ). length l) two.holds, length-append front back)) in
        third two (j.0 ∙ w.0, ap (λ (x : Buffer). x.unread) j.1 ∙ w.1 ∙ ap (λ (l : List ℕ). l ++ back) two.holds)
        (omega arith)
        refl
        (omega arith)
        (omega arith)
