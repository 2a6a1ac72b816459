-- The line figures: through any calls whatever, each is what the calls did in all, held at the top value. So they balance while fed is below it.
use mathlib.Core.Path.{◌≡◌, refl, sym, ap, ◌∙◌, subst}
use mathlib.Core.List.{List}
use mathlib.Core.Bool.{Bool, true, false, cond}
use mathlib.Core.Logic.{⊎_elim}
use Prim.Native.Nat.{ℕ, ◌+◌, ◌-◌, ◌<◌, ◌≤◌, min}
use native.Mathlib.Omega.{arith}
use native.Mathlib.Nat.{add-zero}
use lib.Dec.{ltb, eqb}
use lib.ListN.{length, take, length-append}
use lib.Seq.{length-take-le}
use Rattle.stream.specs.Reading.{Judge, Steady}
use Rattle.stream.specs.Searching.{Search, found, nothing, size_found, search}
use Rattle.stream.proofs.Search.{moved_over, rest_of, search-account}
use Rattle.buffer.specs.Buffer.{Buffer, fresh, top, raised, at_front, moved, all_cleared, emptied, copied, feed_count, fed_buffer, gateway_count, gateway_buffer, buffer_after, next_count, next_buffer}
use Rattle.buffer.specs.Runs.{Calls, Totals, none_yet, with_feed, with_next, Reached, at_first, by-feed, by-reply, by-nothing}
use Rattle.buffer.proofs.Figures.{raised-total}
use Rattle.buffer.proofs.Feeding.{taken-most}
use Rattle.buffer.proofs.Gateway.{goes, gateway-most}

-- the figures of the buffer are what calls did in all, and every byte that was copied is accounted for
pub record Tells (totals : Totals) (buffer : Buffer) : Type 0 where
  pub fed : buffer.fed ≡ min totals.bytes_copied top
  pub handed : buffer.handed ≡ min totals.bytes_given top
  pub passed : buffer.passed ≡ min totals.bytes_moved_over top
  pub cleared : buffer.cleared ≡ min totals.bytes_cleared top
  pub account : totals.bytes_copied ≡ totals.bytes_given + totals.bytes_moved_over + totals.bytes_cleared + length buffer.unread

-- A total, n higher: so is its figure.
rises : {figure : ℕ} (total n m : ℕ) → figure ≡ min total top → n ≡ m → raised figure n ≡ min (total + m) top
rises total n m e same = ap (λ (k : ℕ). raised k n) e ∙ raised-total total n ∙ ap (λ (k : ℕ). min (total + k) top) same

stays : {figure : ℕ} (total : ℕ) → figure ≡ min total top → figure ≡ min (total + 0) top
stays total e = e ∙ ap (λ (k : ℕ). min k top) (sym (add-zero total))

-- ---- `feed`, part by part

moved-tells : (n : ℕ) (totals : Totals) (buffer : Buffer) → Tells totals buffer → Tells totals (moved n buffer)
unfolding moved
moved-tells n totals buffer t = by (ltb (512 - buffer.wpos) n)
  where
    by : (b : Bool) → Tells totals (cond b (at_front buffer) buffer)
    by true = record { fed = t.fed; handed = t.handed; passed = t.passed; cleared = t.cleared; account = t.account }
    by false = t

-- n bytes more cleared
abbrev with_cleared : ℕ → Totals → Totals
with_cleared n totals =
    record { bytes_copied = totals.bytes_copied; bytes_given = totals.bytes_given; bytes_moved_over = totals.bytes_moved_over; bytes_cleared = totals.bytes_cleared + n }

emptied-tells : (totals : Totals) (buffer : Buffer) → Tells totals buffer → (n : ℕ) × Tells (with_cleared n totals) (emptied buffer)
unfolding emptied
emptied-tells totals buffer t = by (eqb buffer.wpos 512)
  where
    by : (b : Bool) → (n : ℕ) × Tells (with_cleared n totals) (cond b (all_cleared buffer) buffer)
    by true =
        let n = length buffer.unread in
        (n, record { fed = t.fed; handed = t.handed; passed = t.passed; cleared = rises totals.bytes_cleared n n t.cleared refl; account = omega (arith, t.account) })
    by false = (0, record { fed = t.fed; handed = t.handed; passed = t.passed; cleared = stays totals.bytes_cleared t.cleared; account = omega (arith, t.account) })

-- n bytes more copied
abbrev with_copied : ℕ → Totals → Totals
with_copied n totals =
    record { bytes_copied = totals.bytes_copied + n; bytes_given = totals.bytes_given; bytes_moved_over = totals.bytes_moved_over; bytes_cleared = totals.bytes_cleared }

copied-tells : (piece : List ℕ) (n : ℕ) (totals : Totals) (buffer : Buffer) → n ≤ length piece → Tells totals buffer → Tells (with_copied n totals) (copied piece n buffer)
unfolding copied
copied-tells piece n totals buffer most t =
    record {
      fed = rises totals.bytes_copied n n t.fed refl;
      handed = t.handed;
      passed = t.passed;
      cleared = t.cleared;
      account = omega (arith, t.account, length-append buffer.unread (take n piece), length-take-le n piece most);
    }

-- What is gone was cleared.
pub feed-tells : (totals : Totals) (buffer : Buffer) (piece : List ℕ) → Tells totals buffer
    → Tells (with_feed (feed_count buffer piece) (length buffer.unread) (length (fed_buffer buffer piece).unread) totals) (fed_buffer buffer piece)
unfolding fed_buffer
feed-tells totals buffer piece t =
    let n = feed_count buffer piece in
    let ready = emptied (moved (length piece) buffer) in
    let after = length (copied piece n ready).unread in
    let c = emptied-tells totals (moved (length piece) buffer) (moved-tells (length piece) totals buffer t) in
    let g = copied-tells piece n (with_cleared c.0 totals) ready (taken-most buffer piece) c.1 in
    let gone : c.0 ≡ length buffer.unread + n - after = omega (arith, t.account, g.account) in
    record {
      fed = g.fed;
      handed = g.handed;
      passed = g.passed;
      cleared = g.cleared ∙ ap (λ (k : ℕ). min (totals.bytes_cleared + k) top) gone;
      account = omega (arith, g.account, gone);
    }

-- ---- the gateway feed: nothing is gone

-- n bytes copied, and every byte accounted for: none was cleared
from-copied : (totals : Totals) (before after : Buffer) (n : ℕ) → Tells totals before → Tells (with_copied n totals) after
    → Tells (with_feed n (length before.unread) (length after.unread) totals) after
from-copied totals before after n t g =
    let none : length before.unread + n - length after.unread ≡ 0 = omega (arith, t.account, g.account) in
    record {
      fed = g.fed;
      handed = g.handed;
      passed = g.passed;
      cleared = stays totals.bytes_cleared g.cleared ∙ ap (λ (k : ℕ). min (totals.bytes_cleared + k) top) (sym none);
      account = omega (arith, g.account, none);
    }

pub gateway-tells : (totals : Totals) (buffer : Buffer) (piece : List ℕ) → Tells totals buffer
    → Tells (with_feed (gateway_count buffer piece) (length buffer.unread) (length (gateway_buffer buffer piece).unread) totals) (gateway_buffer buffer piece)
gateway-tells totals buffer piece t =
    from-copied totals buffer (gateway_buffer buffer piece) (gateway_count buffer piece) t
    (⊎_elim
    (λ s. subst (λ (T : Type 0). T) (sym (λ i. Tells (with_copied (s.none i) totals) (s.same i)))
    (record { fed = stays totals.bytes_copied t.fed; handed = t.handed; passed = t.passed; cleared = t.cleared; account = omega (arith, t.account) }))
    (λ k. subst (λ (T : Type 0). T) (sym (λ i. Tells (with_copied (k.count i) totals) (k.after i)))
    (copied-tells piece _ totals (moved (length piece) buffer) (rw k.count at (gateway-most buffer piece)) (moved-tells (length piece) totals buffer t)))
    (goes buffer piece))

-- ---- `next`: what is gone, and is not of a frame given, was moved over

module _ {R : Type 0} (judge : Judge R) (steady : Steady judge) where
  search-tells : (totals : Totals) (buffer : Buffer) (s : Search R) → moved_over s + size_found s + length (rest_of s) ≡ length buffer.unread → Tells totals buffer
      → Tells (with_next (size_found s) (length buffer.unread) (length (buffer_after s buffer).unread) totals) (buffer_after s buffer)
  search-tells totals buffer (found over n r after) a t =
      record {
        fed = t.fed;
        handed = rises totals.bytes_given n n t.handed refl;
        passed = rises totals.bytes_moved_over over _ t.passed (omega arith);
        cleared = t.cleared;
        account = omega (arith, t.account);
      }
  search-tells totals buffer (nothing over rest) a t =
      record {
        fed = t.fed;
        handed = stays totals.bytes_given t.handed;
        passed = rises totals.bytes_moved_over over _ t.passed (omega arith);
        cleared = t.cleared;
        account = omega (arith, t.account);
      }

  pub next-tells : (totals : Totals) (buffer : Buffer) → Tells totals buffer
      → Tells (with_next (next_count judge buffer) (length buffer.unread) (length (next_buffer judge buffer).unread) totals) (next_buffer judge buffer)
  unfolding next_count next_buffer
  next-tells totals buffer = search-tells totals buffer (search judge buffer.unread) (search-account judge steady buffer.unread)

-- ---- any calls whatever

-- a decoder, and the buffer that a state of it holds: each call adds to the figures what it did
pub record Telling {R : Type 0} (calls : Calls R) (buffer_of : calls.State → Buffer) : Type 0 where
  pub fresh : {s : calls.State} → calls.Fresh s → buffer_of s ≡ fresh
  pub feeds : {s t : calls.State} {piece : List ℕ} {n : ℕ} → calls.Feeds s piece n t → (totals : Totals) → Tells totals (buffer_of s)
      → Tells (with_feed n (length (buffer_of s).unread) (length (buffer_of t).unread) totals) (buffer_of t)
  pub gives : {s t : calls.State} {n : ℕ} {reply : R} → calls.Gives s n reply t → (totals : Totals) → Tells totals (buffer_of s)
      → Tells (with_next n (length (buffer_of s).unread) (length (buffer_of t).unread) totals) (buffer_of t)
  pub nothing : {s t : calls.State} → calls.GivesNothing s t → (totals : Totals) → Tells totals (buffer_of s)
      → Tells (with_next 0 (length (buffer_of s).unread) (length (buffer_of t).unread) totals) (buffer_of t)

none-tells : Tells none_yet fresh
none-tells = record { fed = refl; handed = refl; passed = refl; cleared = refl; account = refl }

module _ {R : Type 0} (calls : Calls R) (buffer_of : calls.State → Buffer) (telling : Telling calls buffer_of) where
  -- Each figure alone is what the calls did in all.
  pub reached-tells : {totals : Totals} {s : calls.State} → Reached calls (λ s. (buffer_of s).unread) totals s → Tells totals (buffer_of s)
  reached-tells (at_first first) = subst (Tells none_yet) (sym (telling.fresh first)) none-tells
  reached-tells (by-feed reached feeds) = telling.feeds feeds _ (reached-tells reached)
  reached-tells (by-reply reached gave) = telling.gives gave _ (reached-tells reached)
  reached-tells (by-nothing reached none) = telling.nothing none _ (reached-tells reached)

-- "while fed is below the top value, fed is handed plus passed plus cleared plus held": no figure is then held at the top.
pub balance : {totals : Totals} (buffer : Buffer) → Tells totals buffer → buffer.fed < top
    → buffer.fed ≡ buffer.handed + buffer.passed + buffer.cleared + length buffer.unread
balance {totals} buffer t below =
    omega (arith, t.fed, t.handed, t.passed, t.cleared, t.account)
