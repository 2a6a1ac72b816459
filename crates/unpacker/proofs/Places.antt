-- Where a name that is refused leaves the position.
use mathlib.Core.Path.{◌≡◌, refl, sym, ap}
use mathlib.Core.Bool.{Bool, true, false, cond}
use mathlib.Core.List.{List, [], ◌∷◌}
use Prim.Native.Nat.{ℕ, zero, suc, ◌+◌, ◌-◌, ◌≤◌, max}
use native.Mathlib.Omega.{arith}
use lib.Dec.{eqb}
use lib.ListN.{length, drop, length-drop}
use borrow.Author.Tests.{ne_eqb}
use Rattle.refusals.specs.Refusals.{Refusal, Answer, ok, refused, decode_refusal, incomplete_data}
use Rattle.refusals.specs.declared.DecodeError.{DecodeError}
use Rattle.refusals.specs.declared.DecodeError.TheVariants.{IncompleteData, InvalidFrame, UnknownPacket, ChecksumMismatch}
use Rattle.std.proofs.lemmas.Bool.Decides.{nat_tests}
use Rattle.refusals.proofs.Different.{none}
use Rattle.names.specs.Names.{nul_within, name_at}
use Rattle.unpacker.specs.Unpacker.{name_end}

-- a choice between a place and an answer that is refused is refused by the answer
picked : (b : Bool) (next : ℕ) (on : Answer ℕ) (why : Refusal) → cond b (ok next) on ≡ refused why → on ≡ refused why
picked true next on why e = none (cc)
picked false next on why e = e

-- a scan that is refused, but not for want of bytes, has seen all its room
room-seen : (room : ℕ) (left : List ℕ) (place : ℕ) (why : Refusal) → nul_within room left place ≡ refused why → (why.number ≡ 1 → ⊥) → room ≤ length left
unfolding nul_within
room-seen zero left place why e other = omega arith
room-seen (suc room) [] place why e other = let same : incomplete_data ≡ why = cc in absurd (other (sym (ap (λ (r : Refusal). r.number) same)))
room-seen (suc room) (byte ∷ left) place why e other =
    let seen = room-seen room left (place + 1) why (picked (eqb byte 0) (place + 1) _ why e) other in
    omega arith

-- the error whose number is 1
one-is : (error : DecodeError) → (decode_refusal error).number ≡ 1 → error ≡ IncompleteData
one-is IncompleteData e = refl
one-is InvalidFrame e = absurd (omega arith)
one-is (UnknownPacket id) e = absurd (omega arith)
one-is (ChecksumMismatch expected actual) e = absurd (omega arith)

-- a name that is refused as an error
module _ (room : ℕ) (s : List ℕ) (pos : ℕ) (error : DecodeError) (told : refused (decode_refusal error) ≡ (name_at room s pos).answer) where
  pub name-room : (error ≡ IncompleteData → ⊥) → room ≤ length s - pos
  unfolding name_at
  name-room other = simp length-drop at (room-seen room (drop pos s) pos (decode_refusal error) (sym told) (λ one. other (one-is error one)))

  pub ends-after-room : (error ≡ IncompleteData → ⊥) → pos + room ≡ name_end room s pos (refused (decode_refusal error))
  unfolding name_end
  ends-after-room other = rw (ne_eqb (decode_refusal error).number 1 (λ one. other (one-is error one)))

-- one that is refused for want of bytes
pub ends-at-end : (room : ℕ) (s : List ℕ) (pos : ℕ) → max pos (length s) ≡ name_end room s pos (refused incomplete_data)
unfolding name_end
ends-at-end room s pos = grind (arith, nat_tests)
