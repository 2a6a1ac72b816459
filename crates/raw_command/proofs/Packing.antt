-- A plain command's parts, and the writes of packer that are their bytes.
use mathlib.Core.Path.{◌≡◌, ◌∙◌}
use mathlib.Core.List.{List, [], ◌∷◌, ◌++◌}
use Prim.Native.Nat.{ℕ, ◌+◌, ◌^◌, ◌≤◌, ◌<◌}
use native.Mathlib.Omega.{arith}
use lib.ListN.{length, length-append}
use Rattle.packer.specs.Numbers.{big_endian}
use Rattle.packer.specs.Packing.{PackIs}
use Rattle.std.specs.Prelude.{Result, Ok, Err}
use Rattle.refusals.specs.Refusals.{encode_refusal, buffer_too_small}
use Rattle.refusals.specs.declared.EncodeError.{EncodeError}
use Rattle.refusals.proofs.Different.{none}
use Rattle.refusals.proofs.Answers.{given-same}
use Rattle.packer.proofs.Writes.{byte, digits-length, fits-answer, full-refused, two-packs}
use Rattle.raw_command.specs.Commands.{form_of, plain_of, id_in, width_in, number_in, bytes_of, PartsIs, parts_bytes}
use Rattle.raw_command.specs.declared.RawCommand.{RawCommand}
use Rattle.raw_command.specs.declared.Parts.{Parts}
use Rattle.raw_command.proofs.Sizes.{narrow}

-- the parts that one arm of the match gives
pub made
    : {command known : RawCommand} {r : Parts} {n : ℕ} → command ≡ known
    → (r.id ≡ id_in (plain_of known)) × (r.width ≡ width_in (plain_of known)) × (r.number ≡ n)
    → n ≡ number_in (plain_of known) → n < 256 ^ width_in (plain_of known) → PartsIs command r
made {command} {known} {r} is sent same fits =
    rw is
    (record {
      id = sent.0;
      width = sent.1;
      number = sent.2 ∙ same;
      narrow = rw sent.1 (narrow (form_of (plain_of known).id));
      below = rw (sent.2, sent.1) fits;
    })

-- the bytes of a command's parts are the command's
pub parts-bytes : (command : RawCommand) (parts : Parts) → PartsIs command parts → parts_bytes parts ≡ bytes_of command
parts-bytes command parts is = rw (is.id, is.width, is.number)

-- ---- a write with room for it is not refused, and ends behind its bytes

module _ {bytes l after : List ℕ} {at : ℕ} (room : at + length bytes ≤ length l) where
  pub ends-behind : {next : ℕ} → PackIs bytes l at (Ok next) after → next ≡ at + length bytes
  ends-behind w = given-same (w.answer ∙ fits-answer bytes l at room)

  pub never-refused : {A : Type 0} {error : EncodeError} → PackIs bytes l at (Err error) after → A
  never-refused w = let fits = fits-answer bytes l at room in let e = w.answer in none (cc)

-- one write, and another where it left off
pub then : {p q l m after : List ℕ} {at mid : ℕ} {s : Result ℕ EncodeError} → at + length (p ++ q) ≤ length l → PackIs p l at (Ok mid) m
    → PackIs q m mid s after → PackIs (p ++ q) l at s after
then {p} {q} {l} {m} {after} {at} {mid} {s} room w v =
    let first : at + length p ≤ length l = omega (arith, length-append p q) in
    let behind = ends-behind first w in
    two-packs room w (rw behind at v)

-- a byte is a number of one
pub byte-room : (n : ℕ) (l : List ℕ) (at : ℕ) → at + 1 ≤ length l → at + length (big_endian 1 n) ≤ length l
byte-room n l at room = omega (arith, digits-length 1 n)

pub byte-behind : (n : ℕ) {at next : ℕ} {l after : List ℕ} → at + 1 ≤ length l → PackIs (big_endian 1 n) l at (Ok next) after → next ≡ at + 1
byte-behind n {at} {next} {l} {after} room w = let behind = ends-behind (byte-room n l at room) w in omega (arith, digits-length 1 n)

-- ---- the id, and then the number, are the bytes of the parts

pub parts-packed
    : {l m after : List ℕ} {at next behind : ℕ} {s : Result ℕ EncodeError} (parts : Parts) → parts.id < 256 → behind ≡ at + 1
    → behind + parts.width ≤ length l → PackIs (big_endian 1 parts.id) l at (Ok next) m
    → PackIs (big_endian parts.width parts.number) m behind s after → PackIs (parts_bytes parts) l at s after
parts-packed parts small is room w v =
    two-packs {p = parts.id ∷ []} {q = big_endian parts.width parts.number} (omega (arith, digits-length parts.width parts.number)) (rw (byte parts.id small) at w)
    (rw is at v)

-- where they do not fit, nothing is written
pub parts-no-room : (parts : Parts) (l : List ℕ) (at : ℕ) → length l < at + 1 + parts.width → (e : EncodeError) → encode_refusal e ≡ buffer_too_small
    → PackIs (parts_bytes parts) l at (Err e) l
parts-no-room parts l at h e says = full-refused (parts_bytes parts) l at (omega (arith, digits-length parts.width parts.number)) e says
