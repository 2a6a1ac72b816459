-- Runs: a fresh decoder is handed a stream in pieces, asked after each until it has no reply, and offered again what it
-- did not take. Of each call only the contract is known: a run is whatever calls that meet their contracts can do one
-- after the other. Over any decoder: `Calls` says which pieces may be offered and what `feed` and `next` do.
use Rattle.std.specs.Prelude.{List, [], ◌∷◌, ◌++◌, ◌≡◌, Bool, true, false, ℕ, ◌+◌, ◌-◌, ◌<◌, length, take, drop}
use Rattle.stream.specs.Reading.{joined}

-- a decoder that replies with an R; the second state is the one handed back
pub record Calls (R : Type 0) : Type 1 where
  pub State : Type 0
  pub Fresh : State → Type 0
  -- a piece that may be offered
  pub Piece : List ℕ → Type 0
  -- `feed` of the piece, which takes so many bytes of it
  pub Feeds : State → List ℕ → ℕ → State → Type 0
  -- `next`, which gives the reply of a frame of so many bytes
  pub Gives : State → ℕ → R → State → Type 0
  -- `next`, which gives nothing
  pub GivesNothing : State → State → Type 0

-- "offer again what it did not take": the pieces ahead, where `left` of the one offered was not taken
abbrev pub again : List ℕ → List (List ℕ) → List (List ℕ)
again [] ahead = ahead
again (byte ∷ left) ahead = (byte ∷ left) ∷ ahead

-- P holds of each piece
abbrev pub EachPiece : (List ℕ → Type 0) → List (List ℕ) → Type 0
EachPiece P [] = Unit
EachPiece P (piece ∷ pieces) = P piece × EachPiece P pieces

-- pieces with a byte or more each
abbrev pub Nonempty : List (List ℕ) → Type 0
Nonempty pieces = EachPiece (λ piece. 0 < length piece) pieces

module _ {R : Type 0} (calls : Calls R) where
  -- "ask until it has no reply": the replies, in order
  pub data Asked : calls.State → List R → calls.State → Type 0 where
    ends : {s t : calls.State} → calls.GivesNothing s t → Asked s [] t
    gives : {s t u : calls.State} {n : ℕ} {reply : R} {replies : List R} → calls.Gives s n reply t → Asked t replies u → Asked s (reply ∷ replies) u

  -- The run of a cutting, `pieces`, at its start or after some `next` that gave nothing: the pieces still ahead, the first
  -- of them perhaps in part; the bytes taken so far; the replies so far; and the decoder then. `Free` says whether the caller
  -- may do more than to offer each piece, and again what was not taken of it
  pub data Run (Free : Type 0) (pieces : List (List ℕ)) : (ahead : List (List ℕ)) (taken : List ℕ) (replies : List R) → calls.State → Type 0 where
    starts : {s : calls.State} → calls.Fresh s → Run Free pieces pieces [] [] s
    offers : {ahead : List (List ℕ)} {piece taken : List ℕ} {replies new : List R} {s t u : calls.State} {n : ℕ}
        → Run Free pieces (piece ∷ ahead) taken replies s → calls.Piece piece → calls.Feeds s piece n t → Asked t new u
        → Run Free pieces (again (drop n piece) ahead) (taken ++ take n piece) (replies ++ new) u
    -- to ask again
    asks : {ahead : List (List ℕ)} {taken : List ℕ} {replies new : List R} {s u : calls.State}
        → Free → Run Free pieces ahead taken replies s → Asked s new u → Run Free pieces ahead taken (replies ++ new) u
    -- and to cut anew what is ahead: to offer what was not taken with bytes that follow it, or a part of it alone
    recuts : {ahead : List (List ℕ)} {taken : List ℕ} {replies : List R} {s : calls.State} (other : List (List ℕ))
        → Free → Run Free pieces ahead taken replies s → joined other ≡ joined ahead → Run Free pieces other taken replies s

  -- Any calls of `feed` and `next`, in any order, over a cutting, `pieces`: a `feed` may come before `next` gave nothing, and may be refused. At each
  -- point: the pieces still ahead, the first of them perhaps in part; the bytes taken so far; the replies so far; and the decoder then. What a `feed` did
  -- not take stays ahead. `Free` says whether the caller may cut anew what is ahead, and so put empty pieces anywhere
  pub data AnyOrder (Free : Type 0) (pieces : List (List ℕ)) : (ahead : List (List ℕ)) (taken : List ℕ) (replies : List R) → calls.State → Type 0 where
    begins : {s : calls.State} → calls.Fresh s → AnyOrder Free pieces pieces [] [] s
    feeds : {ahead : List (List ℕ)} {piece taken : List ℕ} {replies : List R} {s t : calls.State} {n : ℕ}
        → AnyOrder Free pieces (piece ∷ ahead) taken replies s → calls.Feeds s piece n t
        → AnyOrder Free pieces (again (drop n piece) ahead) (taken ++ take n piece) replies t
    gives_one : {ahead : List (List ℕ)} {taken : List ℕ} {replies : List R} {s t : calls.State} {n : ℕ} {reply : R}
        → AnyOrder Free pieces ahead taken replies s → calls.Gives s n reply t → AnyOrder Free pieces ahead taken (replies ++ reply ∷ []) t
    gives_none : {ahead : List (List ℕ)} {taken : List ℕ} {replies : List R} {s t : calls.State}
        → AnyOrder Free pieces ahead taken replies s → calls.GivesNothing s t → AnyOrder Free pieces ahead taken replies t
    cuts-anew : {ahead : List (List ℕ)} {taken : List ℕ} {replies : List R} {s : calls.State} (other : List (List ℕ))
        → Free → AnyOrder Free pieces ahead taken replies s → joined other ≡ joined ahead → AnyOrder Free pieces other taken replies s

  -- what `next` may hand back
  pub data Answers (s : calls.State) : Type 0 where
    a-reply : {t : calls.State} {n : ℕ} {reply : R} → calls.Gives s n reply t → Answers s
    no-reply : {t : calls.State} → calls.GivesNothing s t → Answers s

  -- `next` returns something, and after each reply that it may give the same holds, to an end
  pub data AskingEnds : calls.State → Type 0 where
    asking : {s : calls.State} → Answers s → ((n : ℕ) (reply : R) (t : calls.State) → calls.Gives s n reply t → AskingEnds t) → AskingEnds s

  -- `feed` of the first piece returns something; whatever it returns, asking then ends; and whatever the replies are, the
  -- same holds of what is then ahead, until nothing is
  pub data Ends : (ahead : List (List ℕ)) → calls.State → Type 0 where
    all-taken : {s : calls.State} → Ends [] s
    offering : {ahead : List (List ℕ)} {piece : List ℕ} {s : calls.State}
        → (n : ℕ) × (t : calls.State) × calls.Feeds s piece n t
        → ((n : ℕ) (t : calls.State) → calls.Feeds s piece n t → AskingEnds t)
        → ((n : ℕ) (t u : calls.State) (new : List R) → calls.Feeds s piece n t → Asked t new u → Ends (again (drop n piece) ahead) u)
        → Ends (piece ∷ ahead) s

  -- The states of a run, also those between a `feed` and the `next` that gives nothing. `asked` is true where the last call was
  -- such a `next`, or there was none yet. Only then is a piece fed
  pub data InUse : (asked : Bool) → calls.State → Type 0 where
    is-fresh : {s : calls.State} → calls.Fresh s → InUse true s
    is-fed : {s t : calls.State} {piece : List ℕ} {n : ℕ} → InUse true s → calls.Piece piece → calls.Feeds s piece n t → InUse false t
    gave-reply : {asked : Bool} {s t : calls.State} {n : ℕ} {reply : R} → InUse asked s → calls.Gives s n reply t → InUse false t
    gave-nothing : {asked : Bool} {s t : calls.State} → InUse asked s → calls.GivesNothing s t → InUse true t

-- how many bytes calls copied, gave, moved over and cleared in all
pub record Totals : Type 0 where
  pub bytes_copied : ℕ
  pub bytes_given : ℕ
  pub bytes_moved_over : ℕ
  pub bytes_cleared : ℕ

abbrev pub none_yet : Totals
none_yet = record { bytes_copied = 0; bytes_given = 0; bytes_moved_over = 0; bytes_cleared = 0 }

-- with one more `feed`, which copied n bytes; `before` bytes were unread before it, `after` bytes after it. What is gone was cleared
abbrev pub with_feed : (n before after : ℕ) → Totals → Totals
with_feed n before after totals =
    record {
      bytes_copied = totals.bytes_copied + n;
      bytes_given = totals.bytes_given;
      bytes_moved_over = totals.bytes_moved_over;
      bytes_cleared = totals.bytes_cleared + (before + n - after);
    }

-- with one more `next`, which gave a frame of n bytes, or nothing, and then n is 0. What is gone besides was moved over
abbrev pub with_next : (n before after : ℕ) → Totals → Totals
with_next n before after totals =
    record {
      bytes_copied = totals.bytes_copied;
      bytes_given = totals.bytes_given + n;
      bytes_moved_over = totals.bytes_moved_over + (before - n - after);
      bytes_cleared = totals.bytes_cleared;
    }

module _ {R : Type 0} (calls : Calls R) (unread : calls.State → List ℕ) where
  abbrev held : calls.State → ℕ
  held s = length (unread s)

  -- any calls whatever, in any order, from a fresh state on, and what they did in all. That is told from outside: by the
  -- counts that they return, and by how many bytes are unread before and after each
  pub data Reached : Totals → calls.State → Type 0 where
    at_first : {s : calls.State} → calls.Fresh s → Reached none_yet s
    by-feed : {totals : Totals} {s t : calls.State} {piece : List ℕ} {n : ℕ}
        → Reached totals s → calls.Feeds s piece n t → Reached (with_feed n (held s) (held t) totals) t
    by-reply : {totals : Totals} {s t : calls.State} {n : ℕ} {reply : R}
        → Reached totals s → calls.Gives s n reply t → Reached (with_next n (held s) (held t) totals) t
    by-nothing : {totals : Totals} {s t : calls.State}
        → Reached totals s → calls.GivesNothing s t → Reached (with_next 0 (held s) (held t) totals) t
