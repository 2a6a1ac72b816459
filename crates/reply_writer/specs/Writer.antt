-- A raw reply written as a frame. Document 02, W4: "a writer from it, for all seven replies. Only fields whose mask bit is set are written .. GetValues
-- ignores its mask when writing (8 is not given for it) .. Refusals: 8 UnknownMaskBits, 7 BadName (no NUL in its room, or a nonzero byte after it), 5, in that
-- order; the buffer is then unchanged."
use Rattle.std.specs.Prelude.{Bool, true, false, ◌&&◌, ◌≡◌, List, ◌∷◌, ℕ, Result, length}
use Rattle.refusals.specs.Refusals.{Answer, ok, refused, answer_by, unknown_mask_bits, bad_name, reply_write_refusal}
use Rattle.refusals.specs.declared.ReplyWriteError.{ReplyWriteError}
use Rattle.refusals.specs.Answers.{unless}
use Rattle.format.specs.Format.{name_room, hash_room}
use Rattle.names.specs.Names.{sent_of}
use Rattle.tables.specs.Sorts.{known_bits}
use Rattle.tables.specs.declared.Sort.TheVariants as Sort
use Rattle.layout.specs.Writing.{written}
use Rattle.frame.specs.Frame.{short, frame_of}
use Rattle.frame.specs.Room.{room_answer}
use Rattle.frame.specs.Wrapping.{held_after}
use Rattle.reply.specs.Reply.{kind_number}
use Rattle.reply.specs.declared.Kind.{Kind}
use Rattle.raw_reply.specs.RawReply.{layout_for, cleared, raws_in}
use Rattle.raw_reply.specs.declared.RawReply.{RawReply}

-- 1. What is judged: the mask and the names of the kind that is written.

abbrev pub known_mask_as : Kind → RawReply → Bool
known_mask_as Kind.FwVersion r = true
known_mask_as Kind.GetValues r = true
known_mask_as Kind.GetValuesSelective r = known_bits Sort.Values r.values.mask
known_mask_as Kind.GetValuesSetupSelective r = known_bits Sort.SetupValues r.setup_values.mask
known_mask_as Kind.GetStats r = known_bits Sort.Stats r.stats.mask
known_mask_as Kind.ResetStats r = true
known_mask_as Kind.FwInfo r = true

unfoldable pub known_mask : RawReply → Bool
known_mask r = known_mask_as r.kind r

abbrev pub is_given : Answer ℕ → Bool
is_given (ok n) = true
is_given (refused why) = false

-- a name that can be sent
unfoldable pub is_name : ℕ → List ℕ → Bool
is_name room held = is_given (sent_of room held)

abbrev pub good_names_as : Kind → RawReply → Bool
good_names_as Kind.FwVersion r = is_name name_room r.fw_version.hw_name && is_name name_room r.fw_version.fw_name
good_names_as Kind.GetValues r = true
good_names_as Kind.GetValuesSelective r = true
good_names_as Kind.GetValuesSetupSelective r = true
good_names_as Kind.GetStats r = true
good_names_as Kind.ResetStats r = true
good_names_as Kind.FwInfo r = is_name hash_room r.fw_info.commit_hash && is_name hash_room r.fw_info.user_commit_hash

unfoldable pub good_names : RawReply → Bool
good_names r = good_names_as r.kind r

-- 2. What is written: the id, and the raw values of the reply by its kind's layout. The fields that its mask lacks have no bytes there.

unfoldable pub payload_as : Kind → RawReply → List ℕ
payload_as kind r = kind_number kind ∷ written (layout_for kind) (raws_in kind (cleared r))

abbrev pub payload_of : RawReply → List ℕ
payload_of r = payload_as r.kind r

-- 3. What writing it into so much room answers, and what the buffer then holds. No payload of a reply is too long for its length byte (`Laws`), so 6 is not
-- given.

unfoldable pub write_answer : RawReply → ℕ → Answer ℕ
write_answer r room = unless (known_mask r) unknown_mask_bits (unless (good_names r) bad_name (room_answer (length (payload_of r)) room))

-- what is returned: the bytes of the frame, or the refusal
abbrev pub written_reply : Result ℕ ReplyWriteError → Answer ℕ
written_reply result = answer_by reply_write_refusal result

-- writing r into the buffer l: `w` is returned, and `after` is what the buffer then holds
pub record WriteIs (r : RawReply) (l : List ℕ) (w : Result ℕ ReplyWriteError) (after : List ℕ) : Type 0 where
  pub answer : written_reply w ≡ write_answer r (length l)
  pub holds : after ≡ held_after (write_answer r (length l)) (frame_of short (payload_of r)) l
