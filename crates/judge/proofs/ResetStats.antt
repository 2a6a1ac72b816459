-- The frame that the old loss loses, ResetStats, and its first three bytes, as they are judged.
use mathlib.Core.Path.{◌≡◌, refl}
use mathlib.Core.List.{[], ◌∷◌}
use Rattle.refusals.specs.Refusals.{ok, refused, incomplete_data}
use Rattle.checksum.specs.Xmodem.{bring_down, remainder, bits_of_byte, bits_of, checksum_of}
use Rattle.packer.specs.Numbers.{be_at}
use Rattle.packer.specs.Unpacking.{read_at}
use Rattle.frame.specs.Opening.{byte_at, payload_part, judge_sum_of, finish_of}
use Rattle.layout.specs.Layout.{extent}
use Rattle.layout.specs.Replies.{layout_in, fields_end}
use Rattle.judge.specs.Judge.{judge_of}

pub front-waits : judge_of (2 ∷ 1 ∷ 129 ∷ []) ≡ refused incomplete_data
unfolding judge_of byte_at fields_end layout_in extent finish_of read_at be_at
front-waits = refl

pub frame-good : judge_of (2 ∷ 1 ∷ 129 ∷ 129 ∷ 169 ∷ 3 ∷ []) ≡ ok 6
unfolding judge_of byte_at fields_end layout_in extent finish_of read_at be_at judge_sum_of payload_part checksum_of remainder bring_down bits_of bits_of_byte
frame-good = refl
