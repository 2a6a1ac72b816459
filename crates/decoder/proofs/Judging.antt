-- `decode` at a position is a judge that the theory of reading takes: steady, and never "not yet" of 110 bytes; and what `judge` answers, said of it.
use mathlib.Core.Path.{◌≡◌, refl, sym, ap, ◌∙◌}
use mathlib.Core.List.{List, [], ◌∷◌}
use Prim.Native.Nat.{ℕ, ◌<◌}
use native.Mathlib.Omega.{arith}
use lib.ListN.{length, get_or}
use Rattle.refusals.specs.Refusals.{Refusal, Answer, ok, refused, incomplete_data, invalid_frame, decode_refusal}
use Rattle.refusals.specs.declared.DecodeError.{DecodeError}
use Rattle.refusals.specs.declared.DecodeError.TheVariants.{IncompleteData, InvalidFrame, UnknownPacket, ChecksumMismatch}
use Rattle.refusals.specs.Refusals.{consumed}
use Rattle.judge.specs.Judge.{judge_of}
use Rattle.std.specs.Prelude.{Result, Ok, Err}
use Rattle.judge.proofs.Order.{no_start, start-wrong}
use Rattle.judge.proofs.ResetStats.{frame-good}
use Rattle.packer.specs.Numbers.{be_at}
use Rattle.frame.specs.Frame.{declared, payload_in}
use Rattle.reply.specs.declared.CommandReply.{CommandReply}
use Rattle.reply.specs.Reply.{reply_of}
use Rattle.reply.specs.Decode.{Decode, reply_in, reply_by, decode_of}
use Rattle.reply.proofs.Prefix.{decode-prefix, decode-full, decode-sized}
use Rattle.stream.specs.Reading.{good, not_yet, moves_on, Steady, Bounded}
use Rattle.stream.proofs.Judging.{judged-good, judged-waits, judged-moves, waits-answer, good-answer, judge-steady, judge-bounded}
use Rattle.decoder.specs.Judge.{decode_judge}

abbrev answer : List ℕ → Answer ℕ
answer bytes = (decode_of bytes).answer

abbrev reply : List ℕ → CommandReply
reply bytes = (decode_of bytes).reply

-- ---- the theory's demands

pub decode-steady : Steady decode_judge
unfolding decode_judge decode_of
decode-steady =
    judge-steady answer reply
    (record {
      prefix = λ xs ys told. let e = decode-prefix xs ys told in (ap (λ (d : Decode). d.answer) e, ap (λ (d : Decode). d.reply) e);
      sized = λ xs n e. let s = decode-sized xs n e in (omega arith, s.1);
      empty = sym (no_start [] (omega arith));
    })

-- "So `decode` of 110 bytes or more never answers 1."
pub decode-bounded : Bounded decode_judge 110
unfolding decode_judge
decode-bounded = judge-bounded answer reply 110 decode-full

-- ---- by what the bytes are judged to be

pub decode-good : (l : List ℕ) (count : ℕ) → judge_of l ≡ ok count → decode_judge l ≡ good count (reply_in l)
unfolding decode_judge decode_of reply_by
decode-good l count e = judged-good answer reply l count e ∙ ap (λ (a : Answer ℕ). good count (reply_by a l)) e

pub decode-waits : (l : List ℕ) → judge_of l ≡ refused incomplete_data → decode_judge l ≡ not_yet
unfolding decode_judge decode_of
decode-waits l e = judged-waits answer reply l e

-- and what a verdict tells of the judgement
pub waits-judged : (l : List ℕ) → decode_judge l ≡ not_yet → judge_of l ≡ refused incomplete_data
unfolding decode_judge decode_of
waits-judged l e = waits-answer answer reply l e

pub good-judged : (l : List ℕ) (n : ℕ) (r : CommandReply) → decode_judge l ≡ good n r → judge_of l ≡ ok n
unfolding decode_judge decode_of
good-judged l n r e = good-answer answer reply l n r e

-- bytes refused for something else are moved over
pub decode-moves : (l : List ℕ) (why : Refusal) → judge_of l ≡ refused why → (why.number ≡ 1 → ⊥) → decode_judge l ≡ moves_on
unfolding decode_judge decode_of
decode-moves l why e other = judged-moves answer reply l why e other

-- a byte that starts no frame is moved over
pub decode-noise : (l : List ℕ) → 0 < length l → (get_or l 0 0 ≡ 2 → ⊥) → decode_judge l ≡ moves_on
decode-noise l some differs = decode-moves l invalid_frame (sym (start-wrong l some differs)) (λ e. omega arith)

-- the frame of ResetStats
pub reset-stats : decode_judge (2 ∷ 1 ∷ 129 ∷ 129 ∷ 169 ∷ 3 ∷ []) ≡ good 6 (reply_of (129 ∷ []))
unfolding reply_in payload_in declared be_at
reset-stats = decode-good (2 ∷ 1 ∷ 129 ∷ 129 ∷ 169 ∷ 3 ∷ []) 6 frame-good

-- ---- by what `judge` returns

-- an error that a `match` found to be another than IncompleteData
abbrev Other : DecodeError → Type 0
Other error = error ≡ IncompleteData → ⊥

other-number : (error : DecodeError) → Other error → (decode_refusal error).number ≡ 1 → ⊥
other-number IncompleteData other one = other refl
other-number InvalidFrame other one = omega arith
other-number (UnknownPacket id) other one = omega arith
other-number (ChecksumMismatch expected actual) other one = omega arith

module _ (l : List ℕ) (a : Result ℕ DecodeError) (answers : consumed a ≡ judge_of l) where
  pub answer-good : (count : ℕ) → a ≡ Ok count → decode_judge l ≡ good count (reply_in l)
  answer-good count e = decode-good l count (sym answers ∙ ap consumed e)

  pub answer-waits : a ≡ Err IncompleteData → decode_judge l ≡ not_yet
  answer-waits e = decode-waits l (sym answers ∙ ap consumed e)

  pub answer-moves : (error : DecodeError) → a ≡ Err error → Other error → decode_judge l ≡ moves_on
  answer-moves error e other = decode-moves l (decode_refusal error) (sym answers ∙ ap consumed e) (other-number error other)
