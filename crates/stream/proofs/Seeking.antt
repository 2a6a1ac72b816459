-- A search by a loop that moves over one byte in each turn: what it knows on the way, and what it tells where it ends. Over any judge.
use mathlib.Core.Path.{◌≡◌, sym, ap, ◌∙◌}
use mathlib.Core.List.{List}
use Prim.Native.Nat.{ℕ, ◌+◌, ◌-◌, ◌<◌, ◌≤◌}
use native.Mathlib.Omega.{arith}
use native.Mathlib.Nat.{zero-add, add-zero}
use lib.ListN.{length, take, drop, get_or, length-drop}
use lib.Seq.{drop-drop, drop-length, take_all, get_or-drop}
use Rattle.stream.specs.Reading.{good, not_yet, moves_on, Judge, Steady}
use Rattle.stream.specs.Searching.{Search, found, nothing, further, search, found_at, nothing_at}
use Rattle.stream.proofs.Search.{further-further, search-good, search-not-yet, search-noise, found-account, nothing-account}

-- all bytes from `over` on, lent as so many bytes
pub lent-rest : (l : List ℕ) (over : ℕ) → take (length l - over) (drop over l) ≡ drop over l
lent-rest l over = take_all (length l - over) (drop over l) (simp length-drop (omega arith))

further-none : {R : Type 0} (s : Search R) → s ≡ further 0 s
further-none (found over n r after) = ap (λ (k : ℕ). found k n r after) (sym (zero-add over))
further-none (nothing over rest) = ap (λ (k : ℕ). nothing k rest) (sym (zero-add over))

-- so many bytes were moved over: the search goes on from there
abbrev pub SoFar : {R : Type 0} → Judge R → List ℕ → ℕ → Type 0
SoFar judge l over = search judge l ≡ further over (search judge (drop over l))

module _ {R : Type 0} (judge : Judge R) (steady : Steady judge) where
  -- ---- the loop

  pub seek-starts : (l : List ℕ) → SoFar judge l 0
  seek-starts l = further-none (search judge l)

  pub seek-moves : (l : List ℕ) (over : ℕ) → SoFar judge l over → judge (drop over l) ≡ moves_on → SoFar judge l (over + 1)
  seek-moves l over so e =
      so ∙ ap (further over) (search-noise judge steady (drop over l) e) ∙ further-further over 1 (search judge (drop 1 (drop over l)))
      ∙ ap (λ (m : List ℕ). further (over + 1) (search judge m)) (drop-drop 1 over l)

  pub seek_found : (reply : List ℕ → R) (l : List ℕ) (over n : ℕ) → SoFar judge l over → judge (drop over l) ≡ good n (reply (drop over l))
      → found_at reply l over n ≡ search judge l
  seek_found reply l over n so e =
      sym (so ∙ ap (further over) (search-good judge steady (drop over l) n (reply (drop over l)) e)
      ∙ (λ i. found (add-zero over i) n (reply (drop over l)) (drop-drop n over l i)))

  pub seek-waits : (l : List ℕ) (over : ℕ) → SoFar judge l over → judge (drop over l) ≡ not_yet → nothing_at l over ≡ search judge l
  seek-waits l over so e =
      sym (so ∙ ap (further over) (search-not-yet judge steady (drop over l) e) ∙ ap (λ (k : ℕ). nothing k (drop over l)) (add-zero over))

  -- all bytes were moved over
  pub seek-ends : (l : List ℕ) (over : ℕ) → SoFar judge l over → length l ≡ over → nothing_at l over ≡ search judge l
  seek-ends l over so all = seek-waits l over so (ap judge (ap (λ (k : ℕ). drop k l) (sym all) ∙ drop-length l) ∙ steady.empty)

  -- If no good frame starts with a byte other than `start`, such a byte is moved over wherever it stands.
  pub seek-start : (start : ℕ) → ((m : List ℕ) → 0 < length m → (get_or m 0 0 ≡ start → ⊥) → judge m ≡ moves_on)
      → (l : List ℕ) (over : ℕ) → over < length l → (get_or l over 0 ≡ start → ⊥) → judge (drop over l) ≡ moves_on
  seek-start start moved l over there other =
      moved (drop over l) (simp length-drop (omega arith))
      (λ e. other (ap (λ (k : ℕ). get_or l k 0) (sym (add-zero over)) ∙ sym (get_or-drop over l 0 0) ∙ e))

  -- ---- where it ended

  -- A frame that was found lies within the bytes, and no more bytes are moved over than there are.
  pub found_within : (reply : List ℕ → R) (l : List ℕ) (over n : ℕ) → found_at reply l over n ≡ search judge l → over + n ≤ length l
  found_within reply l over n e = omega (arith, (found-account judge steady l over n _ _ (sym e)).1)

  pub nothing-within : (l : List ℕ) (over : ℕ) → nothing_at l over ≡ search judge l → over ≤ length l
  nothing-within l over e = omega (arith, nothing-account judge steady l over _ (sym e))
