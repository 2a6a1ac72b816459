-- Good frames: by the frame's description, as they are written; and their payload holds every field.
use mathlib.Core.Path.{◌≡◌, refl, sym, ap, ◌∙◌, subst}
use mathlib.Core.Logic.{◌↔◌}
use mathlib.Core.List.{List, ◌++◌}
use Prim.Native.Nat.{ℕ, ◌≤◌}
use native.Mathlib.Omega.{arith}
use native.Mathlib.Nat.{le_refl}
use lib.ListN.{length, get_or, drop, length-drop, take-append-drop, get_or-append}
use lib.Seq.{length-take-le, get_or-take, get_or-drop}
use Rattle.refusals.specs.Refusals.{ok}
use Rattle.refusals.proofs.Answers.{Known, known-given}
use Rattle.packer.specs.Nearness.{Bytes}
use Rattle.frame.specs.Frame.{short, frame_of, frame_size, declared, payload_in}
use Rattle.frame.specs.Laws.{WrittenParts}
use Rattle.frame.specs.Opening.{payload_part}
use Rattle.frame.proofs.Laws.{frame-laws}
use Rattle.frame.proofs.Places.{declared-is, payload-is}
use Rattle.frame.proofs.Opened.{ended-framed, framed-ended}
use Rattle.layout.specs.Replies.{fields_end}
use Rattle.layout.proofs.Replies.{reads-fields}
use Rattle.judge.specs.Judge.{judge_of}
use Rattle.judge.specs.Good.{id_byte, GoodFrame, ReadWhole, Begins, GoodFrames}
use Rattle.judge.proofs.Parts.{FrameParts, judge-frame, good-judged}

-- ---- the parts, by their places

module _ (s : List ℕ) where
  parts-good : FrameParts s (get_or s 1 0) → GoodFrame s
  parts-good p = record { framed = ended-framed s p.start p.ended; fields = p.fields ∙ ap ok (sym (declared-is s)) }

  pub good-parts : GoodFrame s → FrameParts s (get_or s 1 0)
  good-parts g =
      record { start = g.framed.start; declared = refl; fields = g.fields ∙ ap ok (declared-is s); ended = framed-ended s g.framed }

  good-iff : (count : ℕ) → (judge_of s ≡ ok count) ↔ (GoodFrame s × (count ≡ frame_size short (declared short s)))
  good-iff count = (
    λ e. let frame = judge-frame s count e in (parts-good frame.1, omega (arith, declared-is s, frame.0)),
    λ good. good-judged s (get_or s 1 0) (good-parts good.0) ∙ ap ok (omega (arith, declared-is s, good.1)),
  )

  -- ---- the payload holds every field

  module _ (good : GoodFrame s) where
    parts : FrameParts s (get_or s 1 0)
    parts = good-parts good

    pub payload-length : length (payload_part (get_or s 1 0) s) ≡ get_or s 1 0
    unfolding payload_part
    payload-length = length-take-le (get_or s 1 0) (drop 2 s) (simp length-drop (omega (arith, parts.ended.there)))

    pub id-there : get_or (payload_part (get_or s 1 0) s) 0 0 ≡ get_or s 2 0
    unfolding payload_part
    id-there =
        let onward = (reads-fields (get_or s 2 0)).onward (drop 2 s) 1 (get_or s 1 0) parts.fields in
        get_or-take (get_or s 1 0) (drop 2 s) 0 0 (omega arith) ∙ get_or-drop 2 s 0 0

    pub never-early : ReadWhole (payload_in short s)
    unfolding payload_part
    never-early =
        rw (payload-is s, id-there, payload-length)
        ((reads-fields (get_or s 2 0)).own (drop 2 s) 1 (get_or s 1 0) (get_or s 1 0) (le_refl _) parts.fields)

-- ---- as it is written

-- a payload that its layout reads to its end has an id, and few bytes
module _ (payload : List ℕ) (whole : ReadWhole payload) where
  id-first : 1 ≤ length payload
  id-first = (reads-fields (get_or payload 0 0)).onward payload 1 (length payload) whole

  pub few : length payload ≤ 105
  few = (reads-fields (get_or payload 0 0)).near payload 1 (length payload) whole

-- the frame around it is good
module _ (payload rest : List ℕ) (whole : ReadWhole payload) where
  abbrev slice : List ℕ
  slice = frame_of short payload ++ rest

  abbrev more : List ℕ
  more = drop (declared short slice) (drop 2 slice)

  written-parts : WrittenParts short payload rest
  written-parts = (frame-laws short).written payload rest (omega (arith, few payload whole))

  behind : drop 2 slice ≡ payload ++ more
  unfolding payload_in
  behind = sym (take-append-drop (declared short slice) (drop 2 slice)) ∙ ap (λ (front : List ℕ). front ++ more) written-parts.carries

  id-is : id_byte slice ≡ get_or payload 0 0
  id-is = sym (get_or-drop 2 slice 0 0) ∙ ap (λ (l : List ℕ). get_or l 0 0) behind ∙ get_or-append payload more 0 0 (id-first payload whole)

  known : Known (fields_end (get_or payload 0 0) payload 1)
  known = rw whole (known-given (length payload))

  good-slice : GoodFrame slice
  good-slice =
      record {
        framed = written-parts.framed;
        fields = rw (id-is, behind) ((reads-fields (get_or payload 0 0)).same payload more 1 known ∙ whole ∙ ap ok (sym written-parts.says));
      }

-- and so is a slice that begins with it, whether its numbers are bytes or not
pub begins-judged : (s : List ℕ) (count : ℕ) → Begins s count → judge_of s ≡ ok count
begins-judged s count b =
    let good = good-slice b.payload b.rest b.whole in
    let parts = written-parts b.payload b.rest b.whole in
    let size = (frame-laws short).size b.payload in
    (good-iff s count).1 (subst GoodFrame (sym b.is) good, rw b.is (omega (arith, b.counted, size, parts.says)))

written-iff : (s : List ℕ) → Bytes s → (count : ℕ) → (judge_of s ≡ ok count) ↔ Begins s count
written-iff s bytes count = (
  λ e.
      let good = (good-iff s count).0 e in
      let size = (frame-laws short).size (payload_in short s) in
      let whole = never-early s good.0 in
      let long = ap length (payload-is s) ∙ payload-length s good.0 ∙ sym (declared-is s) in
      record {
        payload = payload_in short s;
        rest = drop (frame_size short (declared short s)) s;
        is = (frame-laws short).read s bytes good.0.framed;
        whole = whole;
        counted = omega (arith, good.1, size, long);
      },
  begins-judged s count,
)

pub good-frames : GoodFrames
good-frames = record { judged = good-iff; written = written-iff; never-early = never-early }
