-- The other way: the bytes that are written of a message's raw values, from the same list of items as its reading. Document 02, W4: "Only fields whose mask
-- bit is set are written": a field whose bit is not set has width 0 (`widths`), and so no bytes.
use Rattle.std.specs.Prelude.{◌≡◌, List, [], ◌∷◌, ◌++◌, ℕ, ◌≤◌, length, take}
use Rattle.refusals.specs.Refusals.{ok}
use Rattle.refusals.specs.Answers.{place_or}
use Rattle.packer.specs.Numbers.{digits, Below}
use Rattle.packer.specs.Nearness.{Bytes}
use Rattle.packer.specs.Standing.{Stands}
use Rattle.names.specs.Names.{sent_of}
use Rattle.layout.specs.Layout.{Item, numbers, name, masked, Layout, mask_widths, extent, RawOf, RawsOf, raws}

-- the bytes of an item: of a name those up to its NUL, without the zeros behind it
unfoldable pub written_of : (i : Item) → RawOf i → List ℕ
written_of (numbers ws) ns = digits ws ns
written_of (name room) held = take (place_or 0 (sent_of room held)) held
written_of (masked table) raw = digits (mask_widths raw.0 table) (raw.0 ∷ raw.1)

-- a raw value that can be written and read back: each number has bytes enough, an absent field is zero, a name is not refused
abbrev pub FitsOf : (i : Item) → RawOf i → Type 0
FitsOf (numbers ws) ns = Below ws ns
FitsOf (name room) held = (length held ≡ room) × ((next : ℕ) × (sent_of room held ≡ ok next))
FitsOf (masked table) raw = Below (mask_widths raw.0 table) (raw.0 ∷ raw.1)

-- the same of a list of items, one after the other

unfoldable pub written : (l : Layout) → RawsOf l → List ℕ
written [] r = []
written (i ∷ l) r = written_of i r.0 ++ written l r.1

abbrev pub Fits : (l : Layout) → RawsOf l → Type 0
Fits [] r = Unit {0}
Fits (i ∷ l) r = FitsOf i r.0 × Fits l r.1

-- Reading and writing undo each other, of every list of items: shown once, and not for each reply. `Stands bytes s at end`: these bytes stand in s from
-- `at` up to `end`.
pub record BothWays (l : Layout) : Type 0 where
  -- what is read fits, and is written as it stood
  pub fits : (s : List ℕ) (at end : ℕ) → Bytes s → extent l s at ≡ ok end → Fits l (raws l s at)
  pub stands : (s : List ℕ) (at end : ℕ) → Bytes s → at ≤ length s → extent l s at ≡ ok end → Stands (written l (raws l s at)) s at end
  -- what fits, and is written at a place, is read there
  pub ends : (r : RawsOf l) (s : List ℕ) (at end : ℕ) → Fits l r → Stands (written l r) s at end → extent l s at ≡ ok end
  pub back : (r : RawsOf l) (s : List ℕ) (at end : ℕ) → Fits l r → Stands (written l r) s at end → raws l s at ≡ r
