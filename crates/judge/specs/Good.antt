-- What a good frame is, by the description of crate `frame` and the layouts of crate `layout`: `judge` gives a count to these and to no others.
use Rattle.std.specs.Prelude.{◌≡◌, ◌↔◌, List, ◌++◌, ℕ, length, get_or, drop}
use Rattle.refusals.specs.Refusals.{ok}
use Rattle.format.specs.Format.{payload_at}
use Rattle.packer.specs.Nearness.{Bytes}
use Rattle.frame.specs.Frame.{short, frame_of, frame_size, declared, payload_in, Framed}
use Rattle.layout.specs.Replies.{fields_end}
use Rattle.judge.specs.Judge.{judge_of}

abbrev pub id_byte : List ℕ → ℕ
id_byte s = get_or s payload_at 0

-- start, length, sum and end are a frame's, and the fields that follow the id end where the length says
pub record GoodFrame (s : List ℕ) : Type 0 where
  pub framed : Framed short s
  pub fields : fields_end (id_byte s) (drop payload_at s) 1 ≡ ok (declared short s)

-- a payload whose own layout reads it to its end
abbrev pub ReadWhole : List ℕ → Type 0
ReadWhole payload = fields_end (get_or payload 0 0) payload 1 ≡ ok (length payload)

-- s begins with the frame that is written around such a payload, and count is the size of that frame
pub record Begins (s : List ℕ) (count : ℕ) : Type 0 where
  pub payload : List ℕ
  pub rest : List ℕ
  pub is : s ≡ frame_of short payload ++ rest
  pub whole : ReadWhole payload
  pub counted : count ≡ length (frame_of short payload)

pub record GoodFrames : Type 0 where
  -- a count is given to good frames, to no others, and it is their size
  pub judged : (s : List ℕ) (count : ℕ) → (judge_of s ≡ ok count) ↔ (GoodFrame s × (count ≡ frame_size short (declared short s)))
  -- they are the slices that begin with a frame as it is written, around a payload that its layout reads to its end
  pub written : (s : List ℕ) → Bytes s → (count : ℕ) → (judge_of s ≡ ok count) ↔ Begins s count
  -- so the payload of a good frame never ends early: it alone holds every field
  pub never-early : (s : List ℕ) → GoodFrame s → ReadWhole (payload_in short s)
