-- How late is late? Document 02, W13: "We believe the true number is 107, because a false start one or two bytes before a good frame is settled
-- early. Prove demand 3 with 107, and show a stream on which 106 would be false." Demand 3 is in vesc/specs/Demands.antt; here is why 107 bytes
-- are enough, and the stream.
use Rattle.std.specs.Prelude.{◌≡◌, true, List, [], ◌∷◌, ◌++◌, ℕ, ◌+◌, length, take, drop, replicate}
use Rattle.stream.specs.Reading as verdict
use Rattle.stream.specs.Reading.{read_all, joined}
use Rattle.stream.specs.Lateness.{ToldAt, ToldBefore}
use Rattle.reply.specs.declared.CommandReply.{CommandReply}
use Rattle.reply.specs.Reply.{reply_of}
use Rattle.decoder.specs.declared.Decoder.{Decoder}
use Rattle.decoder.specs.Judge.{decode_judge}
use Rattle.decoder.specs.Runs.{Run, PlainRun, GatewayRun, PlainGatewayRun}

-- "the true number is 107"
abbrev pub lateness : ℕ
lateness = 107

-- How long a start before a good frame can stay undecided. Only FwVersion, whose id is 0, has frames of over 103 bytes. One byte before a good
-- frame the id is that frame's length byte, which is never 0; two bytes before it, that frame's start byte, 2. No frame has over 110 bytes
pub record ToldEarly : Type 0 where
  pub one-before : ToldAt decode_judge 1 103
  pub two-before : ToldAt decode_judge 2 103
  pub further-before : (k : ℕ) → ToldAt decode_judge k 110
  -- so 107 bytes counted from the good frame's first tell every start before it: from three bytes before it they are 110
  pub before : ToldBefore decode_judge lateness

-- the frame of ResetStats, which is good
abbrev pub late_frame : List ℕ
late_frame = 2 ∷ 1 ∷ 129 ∷ 129 ∷ 169 ∷ 3 ∷ []

-- A false start, 2 105 0, and the good frame three bytes after it. From the false start on, the bytes are those of FwVersion's longest frame but for
-- the end byte, which is still missing: the good frame would be major, minor and the first four bytes of hw_name; then come 34 bytes more of hw_name and
-- its NUL, 12 bytes of uuid and 8 more, 38 bytes of fw_name and its NUL, 4 bytes of hw_crc, and two of the sum
abbrev pub too_few : List ℕ
too_few = 2 ∷ 105 ∷ 0 ∷ late_frame ++ (replicate 34 65 ++ (0 ∷ replicate 20 0 ++ (replicate 38 66 ++ (0 ∷ replicate 6 0))))

-- these bytes, and then one further 0, which is no end byte
abbrev pub late_pieces : List (List ℕ)
late_pieces = too_few ∷ (0 ∷ []) ∷ []

abbrev pub late_reply : CommandReply
late_reply = reply_of (129 ∷ [])

-- With 106 in place of 107, demand 3 would be false
pub record NoSooner : Type 0 where
  -- 106 bytes counted from the frame's first are in the first piece, its own six among them
  pub counted : length too_few ≡ 3 + 106
  pub stands : decode_judge (take 6 (drop 3 (joined late_pieces))) ≡ verdict.good 6 late_reply
  -- and the reading of the uncut stream gives this frame alone, so that no earlier one overlaps it
  pub read : (read_all decode_judge (joined late_pieces)).frames ≡ record { place = 3; size = 6; reply = late_reply } ∷ []
  -- a run that took in the first piece and asked has no reply yet; with the second piece it has
  pub nothing_yet : (d : Decoder) × PlainRun late_pieces ((0 ∷ []) ∷ []) too_few [] d
  pub then-given : (d : Decoder) × PlainRun late_pieces [] (joined late_pieces) (late_reply ∷ []) d
  -- the same by the gateway feed
  pub gateway-nothing-yet : (d : Decoder) × PlainGatewayRun late_pieces ((0 ∷ []) ∷ []) too_few [] d × (d.drained ≡ true)
  pub gateway-then-given : (d : Decoder) × PlainGatewayRun late_pieces [] (joined late_pieces) (late_reply ∷ []) d × (d.drained ≡ true)
  -- and so it is however these bytes are cut, and whatever follows them
  pub every-run : {pieces ahead : List (List ℕ)} {replies : List CommandReply} {d : Decoder} → Run pieces ahead too_few replies d → replies ≡ []
  pub every-gateway-run : {pieces ahead : List (List ℕ)} {replies : List CommandReply} {d : Decoder}
      → GatewayRun pieces ahead too_few replies d → d.drained ≡ true
      → replies ≡ []
