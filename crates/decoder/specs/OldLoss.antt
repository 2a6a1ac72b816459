-- The old loss: why demand 3 speaks of nonempty pieces. Document 01, "Easy ways to be wrong": "Treating an empty piece
-- as harmless in `feed`"; "The stream": `feed` clears "on an empty piece when the tail is full, even if most bytes were
-- read". And its twin: the same pieces through the gateway feed of document 02, W12, lose nothing.
use Rattle.std.specs.Prelude.{◌≡◌, List, [], ◌∷◌, ◌++◌, ℕ, length, replicate}
use Rattle.stream.specs.Reading.{read_all, joined}
use Rattle.buffer.specs.Runs as runs
use Rattle.reply.specs.declared.CommandReply.{CommandReply}
use Rattle.reply.specs.Reply.{reply_of}
use Rattle.decoder.specs.declared.Decoder.{Decoder}
use Rattle.decoder.specs.Judge.{decode_judge}
use Rattle.decoder.specs.State.{buffer_of, figures_of}
use Rattle.decoder.specs.Runs.{calls_by, FeedTakes, gateway_calls}

-- the first three bytes of the frame 2 1 129 129 169 3, which will be lost
abbrev pub old_lost : List ℕ
old_lost = 2 ∷ 1 ∷ 129 ∷ []

-- 509 bytes of noise and the frame's first three, which fill the buffer; an empty piece; and the frame's other three bytes
abbrev pub old_pieces : List (List ℕ)
old_pieces = (replicate 509 0 ++ old_lost) ∷ [] ∷ (129 ∷ 169 ∷ 3 ∷ []) ∷ []

-- the decoder's calls, where any piece may be offered, an empty one too
abbrev pub any_calls : runs.Calls CommandReply
any_calls = calls_by (λ piece. Unit) FeedTakes

pub record OldLoss : Type 0 where
  -- the reading of the uncut stream gives the frame, at 509
  pub read : (read_all decode_judge (joined old_pieces)).frames ≡ record { place = 509; size = 6; reply = reply_of (129 ∷ []) } ∷ []
  -- a run of those pieces takes every byte, and gives no reply. Its figures: cleared counts just the bytes that were lost, and
  -- the frame's other three, which alone are noise, are passed with the 509
  pub lost : (d : Decoder) × runs.Run any_calls ⊥ old_pieces [] (joined old_pieces) [] d
      × (figures_of (buffer_of d) ≡ record { fed = 515; handed = 0; passed = 512; cleared = length old_lost; held = 0 })

pub record NoLoss : Type 0 where
  -- a run of the same pieces through the gateway feed takes every byte, and gives the frame's reply. Its figures: the frame's 6 bytes are handed, the 509
  -- bytes of noise passed, and none is cleared
  pub kept : (d : Decoder) × runs.Run gateway_calls ⊥ old_pieces [] (joined old_pieces) (reply_of (129 ∷ []) ∷ []) d
      × (figures_of (buffer_of d) ≡ record { fed = 515; handed = 6; passed = 509; cleared = 0; held = 0 })
