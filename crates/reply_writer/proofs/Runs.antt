-- Parts that are written one after the other, each at the place after the one before, where there is room for all of them.
use mathlib.Core.Path.{◌≡◌, refl, ap, ◌∙◌, subst}
use mathlib.Core.List.{List, [], ◌∷◌, ◌++◌}
use Prim.Native.Nat.{ℕ, zero, suc, ◌+◌, ◌≤◌}
use native.Mathlib.Omega.{arith}
use lib.ListN.{length, replicate, length-append}
use Rattle.std.specs.Prelude.{Result, Ok, Err}
use Rattle.refusals.specs.declared.EncodeError.{EncodeError}
use Rattle.refusals.proofs.Answers.{given-same}
use Rattle.refusals.proofs.Different.{none}
use Rattle.packer.specs.Numbers.{digits, Below}
use Rattle.packer.specs.Nearness.{Bytes}
use Rattle.packer.specs.Packing.{PackIs}
use Rattle.packer.proofs.Writes.{byte, fits-answer, after-length, two-packs}

-- bytes are numbers of one byte each
pub digits-are : (n : ℕ) (part : List ℕ) → Below (replicate n 1) part → digits (replicate n 1) part ≡ part
unfolding digits
digits-are zero [] below = refl
digits-are zero (x ∷ part) below = absurd below
digits-are (suc n) [] below = absurd below
digits-are (suc n) (x ∷ part) below = rw (byte x below.0, digits-are n part below.1)

pub bytes-below : (n : ℕ) (part : List ℕ) → length part ≡ n → Bytes part → Below (replicate n 1) part
bytes-below zero [] long small = tt
bytes-below zero (x ∷ part) long small = absurd (omega arith)
bytes-below (suc n) [] long small = absurd (omega arith)
bytes-below (suc n) (x ∷ part) long small = (small 0, bytes-below n part (omega arith) (λ at. small (suc at)))

-- a part p with q behind it
module _ {p l m : List ℕ} {at : ℕ} (q : List ℕ) where
  pub not-refused : {error : EncodeError} {A : Type 0} → PackIs p l at (Err error) m → at + length (p ++ q) ≤ length l → A
  not-refused w room =
      let fits = fits-answer p l at (omega (arith, length-append p q)) in
      let answers = w.answer in
      none (cc)

  module _ {next : ℕ} (w : PackIs p l at (Ok next) m) (room : at + length (p ++ q) ≤ length l) where
    placed : next ≡ at + length p
    placed = given-same (w.answer ∙ fits-answer p l at (omega (arith, length-append p q)))

    pub room-left : next + length q ≤ length m
    room-left =
        let same : length m ≡ length l = ap length w.holds ∙ after-length p l at (omega (arith, length-append p q)) in
        omega (arith, same, placed, length-append p q)

    pub then-packs : {after : List ℕ} {r : Result ℕ EncodeError} → PackIs q m next r after → PackIs (p ++ q) l at r after
    then-packs {after} {r} v = two-packs room w (subst (λ (place : ℕ). PackIs q m place r after) placed v)
