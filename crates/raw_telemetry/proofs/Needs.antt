-- Signed numbers as they come by a call, and as they are sent.
use mathlib.Core.Path.{◌≡◌, ap, ◌∙◌}
use Prim.Native.Nat.{ℕ, ◌^◌, ◌<◌}
use lib.IntN.{ℤ}
use lib.Signed.{mag}
use mir.Val.{to_z, of_z}
use mir.Syntax.{w16, w32}
use mir.ValLaws.{to_z-of_z}
use Rattle.packer.specs.Numbers.{unsigned_of}

-- a number that came by a call, as an i16
pub called-half : {z v : ℤ} → mag z < 2 ^ 15 → z ≡ v → to_z w16 (of_z w16 z) ≡ v
called-half {z} fits is = to_z-of_z w16 z (record { sfits = fits }) ∙ is

-- the bits of a number out of a record
pub sent-half : (z : ℤ) {n : ℕ} → mag z < 2 ^ 15 → n ≡ unsigned_of (256 ^ 2) (to_z w16 (of_z w16 z)) → n ≡ unsigned_of (256 ^ 2) z
sent-half z fits is = is ∙ ap (unsigned_of (256 ^ 2)) (to_z-of_z w16 z (record { sfits = fits }))

pub sent_word : (z : ℤ) {n : ℕ} → mag z < 2 ^ 31 → n ≡ unsigned_of (256 ^ 4) (to_z w32 (of_z w32 z)) → n ≡ unsigned_of (256 ^ 4) z
sent_word z fits is = is ∙ ap (unsigned_of (256 ^ 4)) (to_z-of_z w32 z (record { sfits = fits }))
