-- In demand 3's use nothing is cleared. Over any decoder that loses nothing of the pieces that may be offered, and whose `next` is one search.
use mathlib.Core.Path.{◌≡◌, refl, ap}
use mathlib.Core.List.{List}
use mathlib.Core.Bool.{Bool, true}
use Prim.Native.Nat.{ℕ}
use native.Mathlib.Omega.{arith}
use lib.ListN.{length, take, length-append}
use lib.Seq.{length-take-le}
use Rattle.stream.specs.Reading.{Judge}
use Rattle.buffer.specs.Runs.{Calls, Asked, ends, gives, Run, starts, offers, asks, recuts, InUse, is-fresh, is-fed, gave-reply, gave-nothing}
use Rattle.buffer.specs.Runs.{Totals, Reached, at_first, by-feed, by-reply, by-nothing}
use Rattle.buffer.proofs.Runs.{Faithful}

-- The states of a run are in use.
asked-in-use : {R : Type 0} {calls : Calls R} {asked : Bool} {s u : calls.State} {replies : List R} → InUse calls asked s → Asked calls s replies u → InUse calls true u
asked-in-use used (ends none) = gave-nothing used none
asked-in-use used (gives gave asked) = asked-in-use (gave-reply used gave) asked

pub run-in-use : {R : Type 0} {calls : Calls R} {Free : Type 0} {pieces ahead : List (List ℕ)} {taken : List ℕ} {replies : List R} {s : calls.State}
    → Run calls Free pieces ahead taken replies s → InUse calls true s
run-in-use (starts first) = is-fresh first
run-in-use (offers run may feeds asked) = asked-in-use (is-fed (run-in-use run) may feeds) asked
run-in-use (asks may run asked) = asked-in-use (run-in-use run) asked
run-in-use (recuts other may run same) = run-in-use run

module _ {R : Type 0} (judge : Judge R) (calls : Calls R) (unread : calls.State → List ℕ) (Ready : calls.State → Type 0) (faithful : Faithful judge calls unread Ready) where
  -- a state in which a piece is fed is ready for it
  ready : {asked : Bool} {s : calls.State} → InUse calls asked s → asked ≡ true → Ready s
  ready (is-fresh first) e = faithful.first first
  ready (is-fed used may feeds) e = let z : ◌≡◌ {A = ℕ} 0 1 = cc in absurd (omega arith)
  ready (gave-reply used gave) e = let z : ◌≡◌ {A = ℕ} 0 1 = cc in absurd (omega arith)
  ready (gave-nothing used none) e = faithful.asked none

  -- the state is one that calls make of a fresh one, and none of these cleared a byte
  pub record NoneCleared (s : calls.State) : Type 0 where
    pub totals : Totals
    pub reached : Reached calls unread totals s
    pub none : totals.bytes_cleared ≡ 0

  -- What is unread after a `feed` is what was, and what was copied.
  pub none-cleared : {asked : Bool} {s : calls.State} → InUse calls asked s → NoneCleared s
  none-cleared (is-fresh first) = record { totals = _; reached = at_first first; none = refl }
  none-cleared (is-fed {s} {t} {piece} {n} used may feeds) =
      let before = none-cleared used in
      let kept = ap (λ (l : List ℕ). length l) (faithful.feeds (ready used refl) may feeds) in
      record {
        totals = _;
        reached = by-feed before.reached feeds;
        none = omega (arith, before.none, kept, length-append (unread s) (take n piece), length-take-le n piece (faithful.most feeds));
      }
  none-cleared (gave-reply used gave) = let before = none-cleared used in record { totals = _; reached = by-reply before.reached gave; none = before.none }
  none-cleared (gave-nothing used none) = let before = none-cleared used in record { totals = _; reached = by-nothing before.reached none; none = before.none }
