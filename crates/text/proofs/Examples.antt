-- Sequences on both sides of the table's limits, computed.
use Rattle.std.specs.Prelude.{◌≡◌, true, false, [], ◌∷◌}
use mathlib.Core.Path.{refl}
use Rattle.text.specs.Utf8.{within, stands, front_length, well_formed_after, well_formed}

-- U+004D U+0430 U+4E8C U+10302, the standard's own example of UTF-8
pub four-lengths : well_formed (0x4D ∷ 0xD0 ∷ 0xB0 ∷ 0xE4 ∷ 0xBA ∷ 0x8C ∷ 0xF0 ∷ 0x90 ∷ 0x8C ∷ 0x82 ∷ []) ≡ true
unfolding within stands front_length well_formed_after well_formed
four-lengths = refl

-- U+D7FF and U+10FFFF, the last before the surrogates and the last of all
pub last-ones : well_formed (0xED ∷ 0x9F ∷ 0xBF ∷ 0xF4 ∷ 0x8F ∷ 0xBF ∷ 0xBF ∷ []) ≡ true
unfolding within stands front_length well_formed_after well_formed
last-ones = refl

-- C0 AF, the standard's own example of an ill-formed sequence
pub overlong : well_formed (0xC0 ∷ 0xAF ∷ []) ≡ false
unfolding within stands front_length well_formed_after well_formed
overlong = refl

pub surrogate : well_formed (0xED ∷ 0xA0 ∷ 0x80 ∷ []) ≡ false
unfolding within stands front_length well_formed_after well_formed
surrogate = refl

pub past-last : well_formed (0xF4 ∷ 0x90 ∷ 0x80 ∷ 0x80 ∷ []) ≡ false
unfolding within stands front_length well_formed_after well_formed
past-last = refl

pub cut_short : well_formed (0x4D ∷ 0xE4 ∷ 0xBA ∷ []) ≡ false
unfolding within stands front_length well_formed_after well_formed
cut_short = refl
