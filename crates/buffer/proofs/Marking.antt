-- The mark `drained`, through each call.
use mathlib.Core.Path.{◌≡◌, refl, ap, ◌∙◌}
use mathlib.Core.Bool.{Bool, true, false, cond}
use mathlib.Core.List.{List, []}
use Prim.Native.Nat.{ℕ, ◌<◌}
use native.Mathlib.Omega.{arith}
use borrow.Author.Tests.{ne_eqb}
use lib.Dec.{eqb}
use lib.ListN.{length}
use Rattle.buffer.specs.Buffer.{Buffer, moved, all_cleared, emptied, mark_fed, copied, fed_buffer, gateway_buffer}
use Rattle.buffer.specs.Gateway.{Mark}
use Rattle.buffer.proofs.Feeding.{moved_same, mark-off}
use Rattle.buffer.proofs.Gateway.{gateway-takes, gateway-refuses, gateway-feed}
use Rattle.buffer.proofs.Nexts.{next-mark}

-- A clearing leaves the mark as it was.
emptied-mark : (buffer : Buffer) → (emptied buffer).drained ≡ buffer.drained
unfolding emptied
emptied-mark buffer = by (eqb buffer.wpos 512)
  where
    by : (b : Bool) → (cond b (all_cleared buffer) buffer).drained ≡ buffer.drained
    by true = refl
    by false = refl

fed-mark : (buffer : Buffer) (piece : List ℕ) → (fed_buffer buffer piece).drained ≡ mark_fed (length piece) buffer.drained
unfolding fed_buffer copied
fed-mark buffer piece = ap (mark_fed (length piece)) (emptied-mark (moved (length piece) buffer) ∙ moved_same (λ (l : Buffer). l.drained) (length piece) buffer refl)

gateway-off : (buffer : Buffer) (piece : List ℕ) → 0 < length piece → (gateway_buffer buffer piece).drained ≡ false
unfolding copied
gateway-off buffer piece some = by buffer.drained refl
  where
    nonempty : eqb (length piece) 0 ≡ false
    nonempty = ne_eqb (length piece) 0 (λ q. omega arith)

    by : (m : Bool) → buffer.drained ≡ m → (gateway_buffer buffer piece).drained ≡ false
    by true e = ap (λ (l : Buffer). l.drained) (gateway-takes buffer piece nonempty e).1 ∙ mark-off (length piece) _ some
    by false e = ap (λ (l : Buffer). l.drained) (gateway-refuses buffer piece nonempty e).1 ∙ e

pub mark : Mark
mark =
    record {
      fresh = refl;
      next = λ judge buffer. next-mark judge buffer _ refl;
      feed = λ buffer piece some. fed-mark buffer piece ∙ mark-off (length piece) _ some;
      gateway-feed = gateway-off;
      empty = λ buffer. fed-mark buffer [];
      emptied-refused = λ buffer piece m some. (gateway-feed.not-drained (fed_buffer buffer []) piece).1 (some, fed-mark buffer [] ∙ m);
    }
