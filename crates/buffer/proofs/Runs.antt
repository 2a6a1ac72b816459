-- Every run comes to the one reading of what was taken, and any stream can be run whole. Over any decoder that loses nothing of the pieces that may be
-- offered, and whose `next` is one search.
use mathlib.Core.Path.{◌≡◌, refl, sym, ap, ◌∙◌, subst}
use mathlib.Core.List.{List, [], ◌∷◌, ◌++◌, append_assoc, append-nil}
use Prim.Native.Nat.{ℕ, zero, suc, ◌+◌, ◌<◌, ◌≤◌}
use native.Mathlib.Omega.{arith}
use lib.ListN.{length, take, drop, length-append, length-drop, take-append-drop}
use lib.Seq.{drop-nil}
use Rattle.stream.specs.Reading.{not_yet, Judge, Reading, Steady, stops, read_from, read_all, replies_of, joined}
use Rattle.stream.specs.Lateness.{ToldBefore, InTime}
use Rattle.stream.specs.Searching.{Search, found, nothing, search}
use Rattle.stream.proofs.Turns.{idle}
use Rattle.stream.proofs.Frames.{replies-append}
use Rattle.stream.proofs.Joined.{behind, unread_place, reading-joined}
use Rattle.stream.proofs.Search.{read_on, found-fewer, nothing-waits, search-reading}
use Rattle.stream.proofs.Lateness as lateness
use Rattle.buffer.specs.Runs.{Calls, again, EachPiece, Asked, ends, gives}
use Rattle.buffer.specs.Runs.{Run, starts, offers, asks, recuts, Answers, a-reply, no-reply, AskingEnds, asking, Ends, all-taken, offering}

-- What is ahead is what was not taken, and the pieces behind it.
joined-again : (left : List ℕ) (ahead : List (List ℕ)) → joined (again left ahead) ≡ left ++ joined ahead
joined-again [] ahead = refl
joined-again (byte ∷ left) ahead = refl

-- A part that is offered again has a byte.
each_again : {P : List ℕ → Type 0} → ((piece : List ℕ) → 0 < length piece → P piece) → (left : List ℕ) (ahead : List (List ℕ)) → EachPiece P ahead → EachPiece P (again left ahead)
each_again may [] ahead each = each
each_again may (byte ∷ left) ahead each = (may (byte ∷ left) (omega arith), each)

-- how much is ahead: the bytes, and the pieces, because an empty one is to be offered too
abbrev size : List (List ℕ) → ℕ
size ahead = length (joined ahead) + length ahead

-- An offer that takes a byte, or offers none, leaves less ahead.
less-ahead : (piece : List ℕ) (ahead : List (List ℕ)) (n : ℕ) → (0 < length piece → 0 < n) → size (again (drop n piece) ahead) < size (piece ∷ ahead)
less-ahead [] ahead n some = rw (drop-nil n) (omega arith)
less-ahead (byte ∷ piece) ahead n some =
    let left = drop n (byte ∷ piece) in
    let taken : 0 < n = some (omega arith) in
    omega (arith, taken, again-size left ahead, length-drop n (byte ∷ piece), length-append (byte ∷ piece) (joined ahead))
  where
    again-size : (left : List ℕ) (ahead : List (List ℕ)) → size (again left ahead) ≤ length left + size ahead + 1
    again-size [] ahead = omega arith
    again-size (byte ∷ left) ahead = omega (arith, length-append (byte ∷ left) (joined ahead))

-- What was taken and what is ahead, before an offer that takes n bytes and after it.
pub offer-front : (taken piece : List ℕ) (ahead : List (List ℕ)) (n : ℕ) → taken ++ joined (piece ∷ ahead) ≡ (taken ++ take n piece) ++ joined (again (drop n piece) ahead)
offer-front taken piece ahead n =
    let rest = joined ahead in
    let split : piece ++ rest ≡ take n piece ++ (drop n piece ++ rest) = ap (λ (l : List ℕ). l ++ rest) (sym (take-append-drop n piece)) ∙ append_assoc (take n piece) (drop n piece) rest in
    ap (λ (l : List ℕ). taken ++ l) (split ∙ ap (λ (l : List ℕ). take n piece ++ l) (sym (joined-again (drop n piece) ahead)))
    ∙ sym (append_assoc taken (take n piece) (joined (again (drop n piece) ahead)))

-- The stream is what was taken, and then what is ahead.
pub run-front : {R : Type 0} {calls : Calls R} {Free : Type 0} {pieces ahead : List (List ℕ)} {taken : List ℕ} {replies : List R} {s : calls.State}
    → Run calls Free pieces ahead taken replies s → joined pieces ≡ taken ++ joined ahead
run-front (starts first) = refl
run-front (offers {ahead} {piece} {taken} {n = n} run may feeds asked) = run-front run ∙ offer-front taken piece ahead n
run-front (asks may run asked) = run-front run
run-front (recuts {taken = taken} other may run same) = run-front run ∙ ap (λ (l : List ℕ). taken ++ l) (sym same)

-- What is asked of the calls, where `unread` are the bytes that a state holds unread. `next` is one search of them
pub record Searches {R : Type 0} (judge : Judge R) (calls : Calls R) (unread : calls.State → List ℕ) : Type 0 where
  pub gives : {s t : calls.State} {n : ℕ} {reply : R} → calls.Gives s n reply t → (over : ℕ) × (search judge (unread s) ≡ found over n reply (unread t))
  pub nothing : {s t : calls.State} → calls.GivesNothing s t → (over : ℕ) × (search judge (unread s) ≡ nothing over (unread t))

-- and `feed` of a piece that may be offered loses nothing, and takes a byte if there is one, of a state that is ready for it: a fresh one, and one that a
-- `next` that gave nothing handed back
pub record Faithful {R : Type 0} (judge : Judge R) (calls : Calls R) (unread : calls.State → List ℕ) (Ready : calls.State → Type 0) : Type 0 where
  pub next : Searches judge calls unread
  pub fresh : {s : calls.State} → calls.Fresh s → unread s ≡ []
  pub first : {s : calls.State} → calls.Fresh s → Ready s
  pub asked : {s t : calls.State} → calls.GivesNothing s t → Ready t
  pub feeds : {s t : calls.State} {piece : List ℕ} {n : ℕ} → Ready s → calls.Piece piece → calls.Feeds s piece n t → unread t ≡ unread s ++ take n piece
  pub some : {s t : calls.State} {piece : List ℕ} {n : ℕ} → Ready s → 0 < length piece → calls.Feeds s piece n t → 0 < n
  -- and never more than is offered
  pub most : {s t : calls.State} {piece : List ℕ} {n : ℕ} → calls.Feeds s piece n t → n ≤ length piece

-- the replies, and what is left unread, are what the reading of l gives and leaves, wherever l stands
pub record Comes {R : Type 0} (judge : Judge R) (replies : List R) (rest l : List ℕ) : Type 0 where
  pub same-replies : (place : ℕ) → replies ≡ replies_of (read_from judge place l).frames
  pub same_rest : (place : ℕ) → rest ≡ (read_from judge place l).rest

module _ {R : Type 0} (judge : Judge R) (steady : Steady judge) where
  pub comes-by : {replies : List R} {rest : List ℕ} (l : List ℕ) (o : ℕ → Reading R) → ((place : ℕ) → read_from judge place l ≡ o place)
      → ((place : ℕ) → replies ≡ replies_of (o place).frames) → ((place : ℕ) → rest ≡ (o place).rest) → Comes judge replies rest l
  comes-by l o e replies rest =
      record {
        same-replies = λ place. replies place ∙ sym (ap (λ (x : Reading R). replies_of x.frames) (e place));
        same_rest = λ place. rest place ∙ sym (ap (λ (x : Reading R). x.rest) (e place));
      }

  comes-empty : Comes judge [] [] []
  comes-empty = comes-by [] (λ place. stops []) (λ place. idle judge steady place [] steady.empty) (λ place. refl) (λ place. refl)

  -- what comes first, and then what comes of the rest with more bytes behind it
  pub comes-on : {replies new : List R} {rest last : List ℕ} (taken more : List ℕ) → Comes judge replies rest taken → Comes judge new last (rest ++ more)
      → Comes judge (replies ++ new) last (taken ++ more)
  comes-on {rest = rest} taken more a b =
      let first : ℕ → Reading R = λ place. read_from judge place taken in
      let at : ℕ → ℕ = λ place. unread_place place taken (first place) in
      comes-by (taken ++ more) (λ place. behind (first place).frames (read_from judge (at place) (rest ++ more)))
      (λ place. reading-joined judge steady place taken more
      ∙ sym (ap (λ (l : List ℕ). behind (first place).frames (read_from judge (at place) (l ++ more))) (a.same_rest place)))
      (λ place. (λ i. a.same-replies place i ++ b.same-replies (at place) i) ∙ sym (replies-append (first place).frames _))
      (λ place. b.same_rest (at place))

  -- what comes where a search found nothing, or a frame
  searched : (l : List ℕ) (s : Search R) → search judge l ≡ s → (place : ℕ) → read_from judge place l ≡ read_on judge place s
  searched l s e place = search-reading judge steady place l ∙ ap (read_on judge place) e

  pub comes-none : (l : List ℕ) (over : ℕ) (rest : List ℕ) → search judge l ≡ nothing over rest → Comes judge [] rest l
  comes-none l over rest e = comes-by l _ (searched l _ e) (λ place. refl) (λ place. refl)

  pub comes-found : {replies : List R} {rest : List ℕ} (l : List ℕ) (over n : ℕ) (reply : R) (after : List ℕ) → search judge l ≡ found over n reply after → Comes judge replies rest after
      → Comes judge (reply ∷ replies) rest l
  comes-found l over n reply after e c =
      comes-by l _ (searched l _ e) (λ place. ap (λ (q : List R). reply ∷ q) (c.same-replies (place + over + n))) (λ place. c.same_rest (place + over + n))

module _ {R : Type 0} (judge : Judge R) (steady : Steady judge) (calls : Calls R) (unread : calls.State → List ℕ) (next : Searches judge calls unread) where
  pub nothing-comes : {s t : calls.State} → calls.GivesNothing s t → Comes judge [] (unread t) (unread s)
  nothing-comes {s} {t} none = let f = next.nothing none in comes-none judge steady (unread s) f.0 (unread t) f.1

  pub reply-comes : {s t : calls.State} {n : ℕ} {reply : R} {replies : List R} {rest : List ℕ} → calls.Gives s n reply t → Comes judge replies rest (unread t)
      → Comes judge (reply ∷ replies) rest (unread s)
  reply-comes {s} {t} {n} {reply} gave = let f = next.gives gave in comes-found judge steady (unread s) f.0 n reply (unread t) f.1

  pub asked-comes : {s u : calls.State} {replies : List R} → Asked calls s replies u → Comes judge replies (unread u) (unread s)
  asked-comes (ends none) = nothing-comes none
  asked-comes (gives gave asked) = reply-comes gave (asked-comes asked)

  -- Each reply leaves fewer bytes unread.
  pub gives-fewer : {s t : calls.State} {n : ℕ} {reply : R} → calls.Gives s n reply t → length (unread t) < length (unread s)
  gives-fewer {s} {t} {n} {reply} gave = let f = next.gives gave in found-fewer judge steady (unread s) f.0 n reply (unread t) f.1

  ends-in : (k : ℕ) (s : calls.State) → ((t : calls.State) → Answers calls t) → length (unread s) < k → AskingEnds calls s
  ends-in zero s answers h = absurd (omega arith)
  ends-in (suc k) s answers h = asking (answers s) (λ n reply t gave. ends-in k t answers (omega (arith, gives-fewer gave)))

  -- So where `next` always hands something back, asking ends.
  pub asking-ends : ((t : calls.State) → Answers calls t) → (s : calls.State) → AskingEnds calls s
  asking-ends answers s = ends-in (suc (length (unread s))) s answers (omega arith)

  -- Where `next` gave nothing, the judge can't tell more of what is unread.
  pub nothing-more : {s t : calls.State} → calls.GivesNothing s t → judge (unread t) ≡ not_yet
  nothing-more {s} {t} none = let f = next.nothing none in nothing-waits judge steady (unread s) f.0 (unread t) f.1

module _ {R : Type 0} (judge : Judge R) (steady : Steady judge) (calls : Calls R) (unread : calls.State → List ℕ) (Ready : calls.State → Type 0)
    (faithful : Faithful judge calls unread Ready) where
  -- A run is ready for the next piece.
  asked-ready : {s u : calls.State} {replies : List R} → Asked calls s replies u → Ready u
  asked-ready (ends none) = faithful.asked none
  asked-ready (gives gave asked) = asked-ready asked

  pub run-ready : {Free : Type 0} {pieces ahead : List (List ℕ)} {taken : List ℕ} {replies : List R} {s : calls.State} → Run calls Free pieces ahead taken replies s → Ready s
  run-ready (starts first) = faithful.first first
  run-ready (offers run may feeds asked) = asked-ready asked
  run-ready (asks may run asked) = asked-ready asked
  run-ready (recuts other may run same) = run-ready run

  run-comes : {Free : Type 0} {pieces ahead : List (List ℕ)} {taken : List ℕ} {replies : List R} {s : calls.State}
      → Run calls Free pieces ahead taken replies s → Comes judge replies (unread s) taken
  run-comes (starts first) = rw (faithful.fresh first) (comes-empty judge steady)
  run-comes (recuts other may run same) = run-comes run
  run-comes (asks {taken = taken} {s = s} may run asked) =
      let now = asked-comes judge steady calls unread faithful.next asked in
      rw append-nil at (comes-on judge steady taken [] (run-comes run) (rw (← append-nil (unread s)) at now))
  run-comes (offers {piece = piece} {taken = taken} {n = n} run may feeds asked) =
      let now = asked-comes judge steady calls unread faithful.next asked in
      comes-on judge steady taken (take n piece) (run-comes run) (rw (faithful.feeds (run-ready run) may feeds) at now)

  module _ {Free : Type 0} {pieces ahead : List (List ℕ)} {taken : List ℕ} {replies : List R} {s : calls.State} (run : Run calls Free pieces ahead taken replies s) where
    -- "the replies are those of one left-to-right reading .., in order and no others": of what was taken; and what that reading leaves is unread
    pub run-replies : replies ≡ replies_of (read_all judge taken).frames
    run-replies = (run-comes run).same-replies 0

    pub run-unread : unread s ≡ (read_all judge taken).rest
    run-unread = (run-comes run).same_rest 0

    -- "A good frame overlapped by no earlier frame of that reading is given"
    pub in-time : (late : ℕ) → ToldBefore judge late → InTime judge late (joined pieces) taken replies
    in-time late before = lateness.in-time judge steady late before (joined pieces) taken (joined ahead) replies (run-front run) run-replies

    -- An offer takes a byte or more.
    pub takes-some : {t : calls.State} {n : ℕ} (piece : List ℕ) → 0 < length piece → calls.Feeds s piece n t → 0 < n
    takes-some piece some feeds = faithful.some (run-ready run) some feeds

-- A run whose caller does no more than it must is one whose caller may do more.
pub run-plain : {R : Type 0} {calls : Calls R} {pieces ahead : List (List ℕ)} {taken : List ℕ} {replies : List R} {s : calls.State}
    → Run calls ⊥ pieces ahead taken replies s → Run calls Unit pieces ahead taken replies s
run-plain (starts first) = starts first
run-plain (offers run may feeds asked) = offers (run-plain run) may feeds asked
run-plain (asks never run asked) = absurd never
run-plain (recuts other never run same) = absurd never

-- A run of some pieces is the beginning of a run of these and more.
again-more : (left : List ℕ) (ahead more : List (List ℕ)) → again left (ahead ++ more) ≡ again left ahead ++ more
again-more [] ahead more = refl
again-more (byte ∷ left) ahead more = refl

pub run_more : {R : Type 0} {calls : Calls R} {pieces ahead : List (List ℕ)} {taken : List ℕ} {replies : List R} {s : calls.State} (more : List (List ℕ))
    → Run calls ⊥ pieces ahead taken replies s → Run calls ⊥ (pieces ++ more) (ahead ++ more) taken replies s
run_more more (starts first) = starts first
run_more {calls = calls} {pieces} {s = s} more (offers {ahead} {piece} {taken} {replies} {new} {n = n} run may feeds asked) =
    subst (λ (l : List (List ℕ)). Run calls ⊥ (pieces ++ more) l (taken ++ take n piece) (replies ++ new) s) (again-more (drop n piece) ahead more)
    (offers (run_more more run) may feeds asked)
run_more more (asks never run asked) = absurd never
run_more more (recuts other never run same) = absurd never

-- Where asking ends there are replies that it ends with.
pub asked_of : {R : Type 0} {calls : Calls R} {s : calls.State} → AskingEnds calls s → (replies : List R) × (u : calls.State) × Asked calls s replies u
asked_of (asking (no-reply {t} none) on) = ([], t, ends none)
asked_of (asking (a-reply {t} {n} {reply} gave) on) = let rest = asked_of (on n reply t gave) in (reply ∷ rest.0, rest.1, gives gave rest.2)

-- What is asked so that a run can go on: a piece with a byte may be offered, and each call hands something back
pub record Able {R : Type 0} (calls : Calls R) : Type 0 where
  pub first : calls.State
  pub fresh : calls.Fresh first
  pub piece : {piece : List ℕ} → 0 < length piece → calls.Piece piece
  pub feeds : (s : calls.State) (piece : List ℕ) → (n : ℕ) × (t : calls.State) × calls.Feeds s piece n t
  pub next : (s : calls.State) → Answers calls s

module _ {R : Type 0} (judge : Judge R) (steady : Steady judge) (calls : Calls R) (unread : calls.State → List ℕ) (Ready : calls.State → Type 0)
    (faithful : Faithful judge calls unread Ready) (able : Able calls) where
  -- From a state that is ready on: each offer takes a byte or more, or is of an empty piece, so that less is ahead.
  ends_by : (k : ℕ) (ahead : List (List ℕ)) {s : calls.State} → Ready s → size ahead < k → Ends calls ahead s
  ends_by zero ahead ready h = absurd (omega arith)
  ends_by (suc k) [] ready h = all-taken
  ends_by (suc k) (piece ∷ ahead) {s} ready h =
      offering (able.feeds s piece) (λ n t feeds. asking-ends judge steady calls unread faithful.next able.next t)
      (λ n t u new feeds asked. ends_by k (again (drop n piece) ahead) (asked-ready judge steady calls unread Ready faithful asked)
      (omega (arith, less-ahead piece ahead n (λ some. faithful.some ready some feeds))))

  pub ready-ends : {ahead : List (List ℕ)} {s : calls.State} → Ready s → Ends calls ahead s
  ready-ends {ahead} ready = ends_by (suc (size ahead)) ahead ready (omega arith)

  ended : {Free : Type 0} {pieces ahead : List (List ℕ)} {taken : List ℕ} {replies : List R} {s : calls.State}
      → Run calls Free pieces ahead taken replies s → EachPiece calls.Piece ahead → Ends calls ahead s
      → (gave : List R) × (u : calls.State) × Run calls Free pieces [] (joined pieces) gave u
  ended {Free} {pieces} {taken = taken} {replies = replies} {s = s} run some all-taken =
      (replies, s, subst (λ (l : List ℕ). Run calls Free pieces [] l replies s) (sym (run-front run ∙ append-nil taken)) run)
  ended run both (offering {ahead} {piece} (n, t, feeds) ending on) =
      let asked = asked_of (ending n t feeds) in
      ended (offers run both.0 feeds asked.2) (each_again {P = calls.Piece} (λ piece some. able.piece some) (drop n piece) ahead both.1) (on n t asked.1 asked.0 feeds asked.2)

  -- Every cutting into pieces that may be offered has a run that takes all of it.
  pub runs-whole : (pieces : List (List ℕ)) → EachPiece calls.Piece pieces → (replies : List R) × (s : calls.State) × Run calls ⊥ pieces [] (joined pieces) replies s
  runs-whole pieces may = ended (starts able.fresh) may (ready-ends (faithful.first able.fresh))
