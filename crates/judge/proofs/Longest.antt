-- The longest frames are as long as document 01 says.
use mathlib.Core.Path.{◌≡◌, refl}
use mathlib.Core.List.{List, [], ◌∷◌, ◌++◌}
use mathlib.Core.Bool.{Bool, true, ◌&&◌}
use Prim.Native.Nat.{ℕ, zero, suc, ◌+◌, ◌≤◌}
use native.Mathlib.Omega.{arith}
use lib.Dec.{T, ltb, ltb→lt}
use lib.Ieee.Fits.{and_l, and_r}
use lib.ListN.{get_or, drop, replicate}
use Rattle.refusals.specs.Refusals.{ok}
use Rattle.checksum.specs.Xmodem.{bring_down, remainder, bits_of_byte, bits_of, checksum_of}
use Rattle.packer.specs.Numbers.{be_at, big_endian, total}
use Rattle.packer.specs.Nearness.{Bytes}
use Rattle.packer.specs.Unpacking.{read_at, consume_at}
use Rattle.names.specs.Names.{nul_within}
use Rattle.tables.specs.Tables.{has_bit, takes, widths, most}
use Rattle.frame.specs.Frame.{short, frame_of}
use Rattle.frame.specs.Opening.{byte_at, payload_part, judge_sum_of, finish_of}
use Rattle.layout.specs.Layout.{extent_of, extent, longest_of, longest}
use Rattle.layout.specs.Replies.{fw_version_layout, get_values, selective, setup_selective, get_stats, reset_stats, fw_info_layout, layout_in, fields_end}
use Rattle.layout.proofs.Readers.{Lawful, reads}
use Rattle.judge.specs.Judge.{judge_of}
use Rattle.judge.specs.Longest.{Longest, LongestFrames}
use Rattle.judge.proofs.Full.{judge-full, judge-full-others}
use Rattle.judge.proofs.Parts.{judge-frame}

-- an id whose fields take so many bytes at the most has frames of six more
none-longer : (width id : ℕ) → Lawful width (fields_end id) → (s : List ℕ) (count : ℕ) → get_or s 2 0 ≡ id → judge_of s ≡ ok count → count ≤ width + 6
none-longer width id reads s count is e =
    let frame = judge-frame s count e in
    let near = reads.near (drop 2 s) 1 (get_or s 1 0) (rw is at frame.1.fields) in
    omega arith

-- a name that fills its room: 65 to the NUL
abbrev filled : ℕ → List ℕ
filled letters = replicate letters 65 ++ (0 ∷ [])

-- each number of a list is a byte, as a test to compute
abbrev all_below : List ℕ → Bool
all_below [] = true
all_below (x ∷ xs) = ltb x 256 && all_below xs

all-bytes : (l : List ℕ) → T (all_below l) → Bytes l
all-bytes [] t at = omega arith
all-bytes (x ∷ xs) t zero = ltb→lt x 256 (and_l (ltb x 256) (all_below xs) t)
all-bytes (x ∷ xs) t (suc at) = all-bytes xs (and_r (ltb x 256) (all_below xs) t) at

-- a payload whose frame is as long
one-as-long : {id most : ℕ} (payload : List ℕ) → T (all_below (frame_of short payload)) → get_or (frame_of short payload) 2 0 ≡ id
    → judge_of (frame_of short payload) ≡ ok most → ((s : List ℕ) (count : ℕ) → get_or s 2 0 ≡ id → judge_of s ≡ ok count → count ≤ most) → Longest id most
one-as-long payload below is e none =
    record { none-longer = none; one = frame_of short payload; bytes = all-bytes (frame_of short payload) below; its-id = is; as_long = e }

pub longest-frames : LongestFrames
unfolding
    frame_of big_endian judge_of byte_at fields_end layout_in extent extent_of consume_at nul_within total widths takes has_bit finish_of read_at be_at judge_sum_of payload_part
    checksum_of remainder bring_down bits_of bits_of_byte longest longest_of most
longest-frames =
    record {
      fw-version =
          one-as-long (replicate 3 0 ++ (filled 38 ++ (replicate 20 0 ++ (filled 38 ++ replicate 4 0)))) (tt {0}) refl refl (none-longer _ _ (reads fw_version_layout));
      fw-info = one-as-long (157 ∷ replicate 3 0 ++ (filled 46 ++ filled 46)) (tt {0}) refl refl (none-longer _ _ (reads fw_info_layout));
      selective = one-as-long (50 ∷ replicate 4 255 ++ replicate 73 0) (tt {0}) refl refl (none-longer _ _ (reads selective));
      get-values = one-as-long (4 ∷ replicate 73 0) (tt {0}) refl refl (none-longer _ _ (reads get_values));
      setup = one-as-long (51 ∷ replicate 4 255 ++ replicate 69 0) (tt {0}) refl refl (none-longer _ _ (reads setup_selective));
      stats = one-as-long (128 ∷ replicate 4 255 ++ replicate 44 0) (tt {0}) refl refl (none-longer _ _ (reads get_stats));
      reset-stats = one-as-long (129 ∷ []) (tt {0}) refl refl (none-longer _ _ (reads reset_stats));
      enough = judge-full;
      enough-for-others = λ s differs full. judge-full-others s differs full;
    }
