-- A message as a list of items. Where its fields end, the raw values that a reader delivers and the most bytes that it can have all follow from the list.
-- Document 01, "The envelope" and "Reply fields".
use Rattle.std.specs.Prelude.{ℕ, ◌+◌, List, [], ◌∷◌, length, drop, replicate}
use Rattle.refusals.specs.Refusals.{Answer, ok}
use Rattle.refusals.specs.Answers.{and_then, place_or}
use Rattle.packer.specs.Numbers.{be_at, total, numbers_at}
use Rattle.packer.specs.Unpacking.{consume_at}
use Rattle.names.specs.Names.{nul_within, name_at}
use Rattle.tables.specs.Tables.{Field, widths, most}

pub data Item : Type 0 where
  -- numbers of so many bytes each
  numbers : List ℕ → Item
  -- a name, by its room
  name : ℕ → Item
  -- a mask of four bytes, and the fields of the table whose bits it has
  masked : List Field → Item

abbrev pub Layout : Type 0
Layout = List Item

-- a number of a width
abbrev pub number : ℕ → Item
number width = numbers (width ∷ [])

-- so many bytes
abbrev pub bytes : ℕ → Item
bytes count = numbers (replicate count 1)

-- the fields of a table under a mask that is not sent
abbrev pub fields_under : ℕ → List Field → Item
fields_under mask table = numbers (widths mask table)

-- a mask, and the fields that it has: their widths
abbrev pub mask_widths : ℕ → List Field → List ℕ
mask_widths mask table = 4 ∷ widths mask table

-- 1. One item. A reader gets a slice and a place in it.

abbrev pub Reader : Type 0
Reader = List ℕ → ℕ → Answer ℕ

-- where the item ends: "A read past the end of the slice is 1"; "2 for a name without NUL"
unfoldable pub extent_of : Item → Reader
extent_of (numbers ws) s at = consume_at (total ws) s at
extent_of (name room) s at = nul_within room (drop at s) at
extent_of (masked table) s at = consume_at (total (mask_widths (be_at s at 4) table)) s at

-- its raw value: the numbers; the bytes of the name's room; the mask, and the numbers of its fields
abbrev pub RawOf : Item → Type 0
RawOf (numbers ws) = List ℕ
RawOf (name room) = List ℕ
RawOf (masked table) = ℕ × List ℕ

unfoldable pub raw_of : (i : Item) → List ℕ → ℕ → RawOf i
raw_of (numbers ws) s at = numbers_at ws s at
raw_of (name room) s at = (name_at room s at).bytes
raw_of (masked table) s at = (be_at s at 4, numbers_at (widths (be_at s at 4) table) s (at + 4))

-- the place after it. In a good frame that is where it ends; after a name without NUL it is the end of the slice, so that zeros are read from there on
unfoldable pub after_of : Item → List ℕ → ℕ → ℕ
after_of (numbers ws) s at = at + total ws
after_of (name room) s at = place_or (length s) (nul_within room (drop at s) at)
after_of (masked table) s at = at + total (mask_widths (be_at s at 4) table)

-- the most bytes that it can have
unfoldable pub longest_of : Item → ℕ
longest_of (numbers ws) = total ws
longest_of (name room) = room
longest_of (masked table) = 4 + most table

-- 2. A list of items, one after the other.

unfoldable pub extent : Layout → Reader
extent [] s at = ok at
extent (i ∷ l) s at = and_then (extent_of i s at) (extent l s)

abbrev pub RawsOf : Layout → Type 0
RawsOf [] = Unit {0}
RawsOf (i ∷ l) = RawOf i × RawsOf l

unfoldable pub raws : (l : Layout) → List ℕ → ℕ → RawsOf l
raws [] s at = tt
raws (i ∷ l) s at = (raw_of i s at, raws l s (after_of i s at))

unfoldable pub longest : Layout → ℕ
longest [] = 0
longest (i ∷ l) = longest_of i + longest l
