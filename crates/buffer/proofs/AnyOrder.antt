-- Any calls, in any order, of a decoder whose `feed` loses nothing in any state: whatever is asked, and whenever, comes to the one reading of what was taken.
use mathlib.Core.Path.{◌≡◌, refl, sym, ap, ◌∙◌, subst}
use mathlib.Core.List.{List, [], ◌∷◌, ◌++◌, append_assoc, append-nil}
use mathlib.Core.Bool.{Bool, true}
use Prim.Native.Nat.{ℕ, ◌+◌}
use lib.ListN.{take}
use Rattle.stream.specs.Reading.{not_yet, Judge, Steady, read_all, replies_of, joined}
use Rattle.stream.specs.Lateness.{ToldBefore, InTime}
use Rattle.stream.proofs.Lateness as lateness
use Rattle.stream.proofs.Turns.{by-reading, idle, at-good-frame, at-noise}
use Rattle.buffer.specs.Runs.{Calls, Asked, ends, gives, Run, starts, offers, asks, recuts, AnyOrder, begins, feeds, gives_one, gives_none, cuts-anew}
use Rattle.buffer.proofs.Runs.{offer-front, Searches, Comes, comes-by, comes-on, nothing-comes, reply-comes, nothing-more}

-- The stream is what was taken, and then what is ahead.
pub any-front : {R : Type 0} {calls : Calls R} {Free : Type 0} {pieces ahead : List (List ℕ)} {taken : List ℕ} {replies : List R} {s : calls.State}
    → AnyOrder calls Free pieces ahead taken replies s → joined pieces ≡ taken ++ joined ahead
any-front (begins first) = refl
any-front (feeds {ahead} {piece} {taken} {n = n} run fed) = any-front run ∙ offer-front taken piece ahead n
any-front (gives_one run gave) = any-front run
any-front (gives_none run none) = any-front run
any-front (cuts-anew {taken = taken} other may run same) = any-front run ∙ ap (λ (l : List ℕ). taken ++ l) (sym same)

-- A run is such calls too.
asked-any : {R : Type 0} {calls : Calls R} {Free : Type 0} {pieces ahead : List (List ℕ)} {taken : List ℕ} {replies new : List R} {s u : calls.State}
    → AnyOrder calls Free pieces ahead taken replies s → Asked calls s new u → AnyOrder calls Free pieces ahead taken (replies ++ new) u
asked-any {calls = calls} {Free} {pieces} {ahead} {taken} {replies} {u = u} order (ends none) =
    subst (λ (l : List _). AnyOrder calls Free pieces ahead taken l u) (sym (append-nil replies)) (gives_none order none)
asked-any {calls = calls} {Free} {pieces} {ahead} {taken} {replies} {u = u} order (gives {reply = reply} {replies = others} gave asked) =
    subst (λ (l : List _). AnyOrder calls Free pieces ahead taken l u) (append_assoc replies (reply ∷ []) others) (asked-any (gives_one order gave) asked)

pub run-any : {R : Type 0} {calls : Calls R} {Free : Type 0} {pieces ahead : List (List ℕ)} {taken : List ℕ} {replies : List R} {s : calls.State}
    → Run calls Free pieces ahead taken replies s → AnyOrder calls Free pieces ahead taken replies s
run-any (starts first) = begins first
run-any (offers run may fed asked) = asked-any (feeds (run-any run) fed) asked
run-any (asks may run asked) = asked-any (run-any run) asked
run-any (recuts other may run same) = cuts-anew other may (run-any run) same

-- Calls whose caller cuts nothing anew are calls whose caller may.
pub any-plain : {R : Type 0} {calls : Calls R} {pieces ahead : List (List ℕ)} {taken : List ℕ} {replies : List R} {s : calls.State}
    → AnyOrder calls ⊥ pieces ahead taken replies s → AnyOrder calls Unit pieces ahead taken replies s
any-plain (begins first) = begins first
any-plain (feeds order fed) = feeds (any-plain order) fed
any-plain (gives_one order gave) = gives_one (any-plain order) gave
any-plain (gives_none order none) = gives_none (any-plain order) none
any-plain (cuts-anew other never order same) = absurd never

-- what is asked of the calls: `next` is one search; `feed` loses nothing, in any state; and a state that is marked is one in which nothing more can be
-- told, unless a piece was fed since: so a mark that is there after a `feed` or a reply tells that nothing changed
pub record Keeping {R : Type 0} (judge : Judge R) (calls : Calls R) (unread : calls.State → List ℕ) (marked : calls.State → Bool) : Type 0 where
  pub next : Searches judge calls unread
  pub fresh : {s : calls.State} → calls.Fresh s → unread s ≡ []
  pub feeds : {s t : calls.State} {piece : List ℕ} {n : ℕ} → calls.Feeds s piece n t → unread t ≡ unread s ++ take n piece
  pub fed-mark : {s t : calls.State} {piece : List ℕ} {n : ℕ} → calls.Feeds s piece n t → marked t ≡ true → (marked s ≡ true) × (unread t ≡ unread s)
  pub reply-mark : {s t : calls.State} {n : ℕ} {reply : R} → calls.Gives s n reply t → marked t ≡ true → ⊥

module _ {R : Type 0} (judge : Judge R) (steady : Steady judge) where
  -- Something comes of every list.
  comes : (l : List ℕ) → (replies : List R) × (rest : List ℕ) × Comes judge replies rest l
  comes =
      by-reading judge steady (λ place l. (replies : List R) × (rest : List ℕ) × Comes judge replies rest l)
      (λ place l e. ([], l, comes-by judge steady l _ (λ at. idle judge steady at l e) (λ at. refl) (λ at. refl)))
      (λ place l n r e (replies, rest, c). (
        r ∷ replies,
        rest,
        comes-by judge steady l _ (λ at. at-good-frame judge steady at l n r e) (λ at. ap (λ (q : List R). r ∷ q) (c.same-replies (at + n))) (λ at. c.same_rest (at + n)),
      ))
      (λ place l e (replies, rest, c). (
        replies,
        rest,
        comes-by judge steady l _ (λ at. at-noise judge steady at l e) (λ at. c.same-replies (at + 1)) (λ at. c.same_rest (at + 1)),
      ))
      0

  module _ (calls : Calls R) (unread : calls.State → List ℕ) (marked : calls.State → Bool) (keeping : Keeping judge calls unread marked) where
    -- whatever comes of what is unread comes of what was taken, behind the replies so far
    abbrev Behind : List ℕ → List R → List ℕ → Type 0
    Behind taken replies left = (new : List R) (rest : List ℕ) → Comes judge new rest left → Comes judge (replies ++ new) rest taken

    -- bytes behind both
    behind_more : (taken left more : List ℕ) (replies : List R) → Behind taken replies left → Behind (taken ++ more) replies (left ++ more)
    behind_more taken left more replies behind new rest c =
        let a = comes left in
        let b = comes (a.1 ++ more) in
        let whole = comes-on judge steady left more a.2 b.2 in
        let d = comes-on judge steady taken more (behind a.0 a.1 a.2) b.2 in
        let same_new : a.0 ++ b.0 ≡ new = whole.same-replies 0 ∙ sym (c.same-replies 0) in
        let same_rest : b.1 ≡ rest = whole.same_rest 0 ∙ sym (c.same_rest 0) in
        subst (λ (T : Type 0). T) (λ i. Comes judge ((append_assoc replies a.0 b.0 ∙ ap (λ (l : List R). replies ++ l) same_new) i) (same_rest i) (taken ++ more)) d

    any-behind : {Free : Type 0} {pieces ahead : List (List ℕ)} {taken : List ℕ} {replies : List R} {s : calls.State}
        → AnyOrder calls Free pieces ahead taken replies s → Behind taken replies (unread s)
    any-behind (begins first) = λ new rest c. subst (λ (l : List ℕ). Comes judge new rest l) (keeping.fresh first) c
    any-behind (feeds {piece = piece} {taken} {replies} {s} {n = n} order fed) =
        subst (Behind (taken ++ take n piece) replies) (sym (keeping.feeds fed)) (behind_more taken (unread s) (take n piece) replies (any-behind order))
    any-behind (gives_one {taken = taken} {replies} {reply = reply} order gave) = λ new rest c.
        subst (λ (l : List R). Comes judge l rest taken) (sym (append_assoc replies (reply ∷ []) new))
        (any-behind order (reply ∷ new) rest (reply-comes judge steady calls unread keeping.next gave c))
    any-behind (gives_none {taken = taken} {replies} {t = t} order none) = λ new rest c.
        let b = any-behind order [] (unread t) (nothing-comes judge steady calls unread keeping.next none) in
        subst (λ (T : Type 0). T) (λ i. Comes judge (append_assoc replies [] new i) rest (append-nil taken i))
        (comes-on judge steady taken [] b (subst (Comes judge new rest) (sym (append-nil (unread t))) c))
    any-behind (cuts-anew other may order same) = any-behind order

    -- At every point: the replies so far, and behind them those that the reading of what is unread gives.
    pub any-so-far : {Free : Type 0} {pieces ahead : List (List ℕ)} {taken : List ℕ} {replies : List R} {s : calls.State} → AnyOrder calls Free pieces ahead taken replies s
        → replies ++ replies_of (read_all judge (unread s)).frames ≡ replies_of (read_all judge taken).frames
    any-so-far {replies = replies} {s} order =
        let c = comes (unread s) in
        ap (λ (l : List R). replies ++ l) (sym (c.2.same-replies 0)) ∙ (any-behind order c.0 c.1 c.2).same-replies 0

    -- A marked state: the judge can't tell more of what is unread.
    any-waits : {Free : Type 0} {pieces ahead : List (List ℕ)} {taken : List ℕ} {replies : List R} {s : calls.State}
        → AnyOrder calls Free pieces ahead taken replies s → marked s ≡ true → judge (unread s) ≡ not_yet
    any-waits (begins first) m = ap judge (keeping.fresh first) ∙ steady.empty
    any-waits (feeds order fed) m = let k = keeping.fed-mark fed m in ap judge k.1 ∙ any-waits order k.0
    any-waits (gives_one order gave) m = absurd (keeping.reply-mark gave m)
    any-waits (gives_none order none) m = nothing-more judge steady calls unread keeping.next none
    any-waits (cuts-anew other may order same) m = any-waits order m

    module _ {Free : Type 0} {pieces ahead : List (List ℕ)} {taken : List ℕ} {replies : List R} {s : calls.State}
        (order : AnyOrder calls Free pieces ahead taken replies s) (m : marked s ≡ true) where
      all-comes : Comes judge (replies ++ []) (unread s) taken
      all-comes =
          let waits = any-waits order m in
          any-behind order [] (unread s) (comes-by judge steady (unread s) _ (λ at. idle judge steady at (unread s) waits) (λ at. refl) (λ at. refl))

      -- So where the mark is set, the replies are those of the reading of what was taken, and what that leaves is unread.
      pub any-replies : replies ≡ replies_of (read_all judge taken).frames
      any-replies = sym (append-nil replies) ∙ all-comes.same-replies 0

      pub any-unread : unread s ≡ (read_all judge taken).rest
      any-unread = all-comes.same_rest 0

      -- "A good frame overlapped by no earlier frame of that reading is given"
      pub any-in-time : (late : ℕ) → ToldBefore judge late → InTime judge late (joined pieces) taken replies
      any-in-time late before = lateness.in-time judge steady late before (joined pieces) taken (joined ahead) replies (any-front order) any-replies
