-- Names: how many bytes of one are sent.
use mathlib.Core.Path.{◌≡◌, refl}
use mathlib.Core.List.{List}
use Prim.Native.Nat.{ℕ, ◌≤◌}
use native.Mathlib.Omega.{arith}
use lib.ListN.{length, take}
use lib.Seq.{length-take-le}
use Rattle.refusals.specs.Refusals.{Answer, ok, refused}
use Rattle.refusals.specs.Answers.{place_or}
use Rattle.names.specs.Names.{sent_of, name_sent}
use Rattle.names.proofs.Sent.{sent-given}
use Rattle.reply_writer.specs.Writer.{is_given}
use Rattle.std.specs.Prelude.{Option, Some, None}
use Rattle.std.specs.Prelude.{unwrap_or, is_some}

-- what is sent of a name lies in it
pub sent-inside : (room : ℕ) (held : List ℕ) → place_or 0 (sent_of room held) ≤ length held
sent-inside room held = go (sent_of room held) refl
  where
    go : (a : Answer ℕ) → sent_of room held ≡ a → place_or 0 a ≤ length held
    go (ok next) e = (sent-given room held next e).inside
    go (refused why) e = omega arith

-- the bytes of a name that are sent
abbrev pub sent_bytes : ℕ → List ℕ → List ℕ
sent_bytes room held = take (place_or 0 (sent_of room held)) held

pub sent-length : (room : ℕ) (held : List ℕ) → length (sent_bytes room held) ≡ place_or 0 (sent_of room held)
sent-length room held = length-take-le (place_or 0 (sent_of room held)) held (sent-inside room held)

-- what `sent_len` gives of it
pub sent-or : (given : Option ℕ) (a : Answer ℕ) → name_sent given ≡ a → unwrap_or given 0 ≡ place_or 0 a
sent-or (Some len) a is = rw (← is)
sent-or None a is = rw (← is)

pub sent-given_is : (given : Option ℕ) (a : Answer ℕ) → name_sent given ≡ a → is_some given ≡ is_given a
sent-given_is (Some len) a is = rw (← is)
sent-given_is None a is = rw (← is)
